use mathlib.Core.Path.{◌≡◌, refl}
use Prim.Native.Nat.{◌*◌, ◌<◌}
use native.Mathlib.Nat.{zero-mul}
use native.Mathlib.Omega.{arith}
use lib.ListN.{length}
use Rattle.rules.specs.Sizes.{half}
use Rattle.kinds.proofs.Runs.{over_first}
use Rattle.reduce.proofs.Levels.{Level, Places, places, rows_more, rows_end}
use Rattle.reduce.proofs.Rows.{row-long}
use Rattle.reduce.proofs.level.make_next.Goals as goal
use Rattle.reduce.proofs.level.make_next.Goals.{After-next-below, After-rows_above-above, After-loop-y}

-- the level, and the size of the next
known : (t : _) (c : goal.After-next-below t)
    → let s = c.args.shape in Level s.faces s.width s.height c.next-below.result.width (half s.height) c.args.level.now
known t c = record { sides = c.args.shape.sides; half-w = c.next-below.ensures.1; half-h = refl; long = c.requires.level }

-- where row y comes from and where it goes
here : (t : _) (c : goal.After-rows_above-above t)
    → let s = c.args.shape in
    let w2 = c.next-below.result.width in
    Places s.width s.height w2 (half s.height) c.loop-y.y (length c.args.level.now) (s.faces * half s.height * w2)
here t c =
    let n = c.next-below.ensures in
    let lt : c.loop-y.y < c.args.shape.faces * half c.args.shape.height = rw (n.0, n.2) at c.loop-y-test.true in
    places (known t (goal.at.After-rows_above-above t c).After-next-below) c.loop-y.y lt

pub loop-y-init : goal.loop-y-init
loop-y-init g c = rw (zero-mul c.next-below.result.width) (over_first _ _ _ (omega arith))

pub rows-requires : goal.rows-requires
rows-requires g c =
    let at = here g (goal.at.rows-requires g c).After-rows_above-above in
    let above = c.rows_above-above.ensures in
    (omega (arith, above, at.texels0), omega (arith, above, at.texels1))

pub loop-y-preserved : goal.loop-y-preserved
loop-y-preserved g c =
    let n = c.next-below.ensures in
    let w = c.args.shape.width in
    let w2 = c.next-below.result.width in
    let above = c.rows_above-above in
    let at = here g (goal.at.loop-y-preserved g c).After-rows_above-above in
    let long = c.loop-y.invariant.as_long in
    let all : length c.args.after.now ≡ c.args.shape.faces * half c.args.shape.height * w2 = rw n.1 c.requires.after in
    let made = rw (row-long w2 (c.loop-y.y * w2) c.loop-y.after (omega (arith, at.goes)), c.rows.ensures.width, c.rows.ensures.rows.0, c.rows.ensures.rows.1) at c.write_row.ensures in
    rows_more (known g (goal.at.loop-y-preserved g c).After-next-below) (g.R.Reduce.rule _) (rw (n.0, n.2) at c.loop-y-test.true) c.requires.after c.loop-y.invariant above.ensures made

pub returns : goal.returns
returns g c =
    let n = c.next-below.ensures in
    let rows : c.next-below.result.faces * c.next-below.result.height ≡ c.args.shape.faces * half c.args.shape.height = rw (n.0, n.2) refl in
    rows_end (known g (goal.at.returns g c).After-next-below) (g.R.Reduce.rule _) (omega (arith, rows)) c.requires.after c.loop-y.invariant
