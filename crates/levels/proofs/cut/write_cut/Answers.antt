use native.Mathlib.Omega.{arith}
use Rattle.reduce.proofs.Standing.{over-copied}
use Rattle.levels.proofs.Cuts.{cut-first, cut_reads, cut-more, cut-end}
use Rattle.levels.proofs.cut.write_cut.Goals as goal

pub loop-y-init : goal.loop-y-init
loop-y-init c =
    let p = c.requires in
    cut-first _ _ _ _ _ _ _ p.across p.source_room p.target_room

pub loop-y-preserved : goal.loop-y-preserved
loop-y-preserved c =
    let rows = c.loop-y.invariant in
    let below = c.loop-y-test.true in
    cut-more rows below _ (over-copied _ _ _ c.loop-y.target c.args.source.now _ (omega (arith, cut_reads rows below)) c.put_row.ensures)

pub shape_of-target : goal.shape_of-target
shape_of-target c = c.loop-y.invariant.rows.run.as_long

pub returns : goal.returns
returns c = cut-end c.loop-y.invariant c.loop-y-test.false
