use Rattle.rules.proofs.Building.{built-first, built-more, built-all}
use Rattle.ranges.proofs.build.write_tiles.Goals as goal

pub loop-n-init : goal.loop-n-init
loop-n-init c = built-first _ _ _ _ c.requires

pub loop-n-preserved : goal.loop-n-preserved
loop-n-preserved c =
    let across = c.tiles-across.ensures in
    let all = c.tiles.ensures in
    built-more c.loop-n.invariant c.args.level.flat.taken.some-w (rw (← across, ← all) c.loop-n-test.true) _ (rw (← across) c.write_tile.ensures)

pub returns : goal.returns
returns c = built-all c.loop-n.invariant (rw (c.tiles.ensures, c.tiles-across.ensures) at c.loop-n-test.false)
