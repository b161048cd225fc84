use mathlib.Core.Path.{◌≡◌, refl, sym, ap, ◌∙◌}
use Prim.Native.Nat.{ℕ, ◌+◌, ◌*◌, ◌≤◌}
use native.Mathlib.Nat.{zero-mul}
use native.Mathlib.Omega.{arith}
use lib.ListN.{length}
use Rattle.rules.specs.Sizes.{half}
use Rattle.kinds.proofs.Runs.{over_first}
use Rattle.reduce.specs.Rows.{rows_of}
use Rattle.reduce.specs.Right.{FirstWrong}
use Rattle.reduce.proofs.Rows.{row_at, row-long}
use Rattle.reduce.proofs.Levels.{cell_of, Level, places}
use Rattle.reduce.proofs.Standing.{wrong-by, turn-end}
use Rattle.reduce.proofs.StandingLevels.{as-next, room_for, sources, rows-go, rows-stop}
use Rattle.reduce.proofs.check_level.check_level.Goals as goal
use Rattle.reduce.proofs.check_level.check_level.Goals.{After-next-below, After-together-m, After-check_rows}

-- the level, and the size of the next
known : (g : _) (c : goal.After-next-below g)
    → let s = c.args.shape in Level s.faces s.width s.height c.next-below.result.width (half s.height) c.args.level.now
known g c = record { sides = c.args.shape.sides; half-w = c.next-below.ensures.1; half-h = refl; long = c.requires.level }

-- the next level's size by the code's own numbers
long : (g : _) (c : goal.After-next-below g)
    → let s = c.args.shape in length c.args.c.now ≡ s.faces * half s.height * c.next-below.result.width
long g c = rw c.next-below.ensures.1 c.requires.after

-- where the rows that are looked at end
ends : (g : _) (c : goal.After-together-m g) → let w2 = c.next-below.result.width in c.loop-y.y * w2 + c.together-m.result * w2 ≤ length c.args.c.now
ends g c =
    let n = (goal.at.After-together-m g c).After-next-below in
    rw (long g n) (room_for (known g n) c.loop-y.y c.together-m.result c.together-m.ensures.run)

pub loop-y-init : goal.loop-y-init
loop-y-init g c = (omega arith, rw (zero-mul c.next-below.result.width) (over_first _ _ _ (omega arith)))

pub slice_bounds-part-end : goal.slice_bounds-part-end
slice_bounds-part-end g c = ends g (goal.at.slice_bounds-part-end g c).After-together-m

pub check_rows-requires-clause-room : goal.check_rows-requires-clause-room
check_rows-requires-clause-room g c =
    let n = c.next-below.ensures in
    let sides = c.args.shape.sides in
    let run = c.together-m.ensures.run in
    let w2 = c.next-below.result.width in
    let inside = run.inside in
    let some = run.some in
    let at = places (known g (goal.at.check_rows-requires-clause-room g c).After-next-below) c.loop-y.y (omega arith) in
    let above = c.rows_above-above.ensures in (
      sides.some-w,
      some,
      omega (arith, above, at.texels0),
      omega (arith, above, at.texels1),
      row-long (c.together-m.result * w2) (c.loop-y.y * w2) c.args.c.now (ends g (goal.at.check_rows-requires-clause-room g c).After-together-m) ∙ ap (λ (k : ℕ). c.together-m.result * k) n.1,
    )

pub check_rows-requires-clause-block : goal.check_rows-requires-clause-block
check_rows-requires-clause-block g c = λ several.
    let block = c.together-m.ensures.block several in
    let lie = sources (known g (goal.at.check_rows-requires-clause-block g c).After-next-below) c.loop-y.y c.together-m.result c.together-m.ensures.run c.rows_above-above.ensures block.0 in
    (lie.0, lie.1, block.1)

-- what is found in the rows
found : (g : _) (c : goal.After-check_rows g)
    → let above = c.rows_above-above.result in
    let w2 = c.next-below.result.width in
    let n = c.together-m.result * w2 in
    FirstWrong 0 (row_at n (c.loop-y.y * w2) c.args.c.now) n (rows_of (g.R.Reduce.rule c.args.rule.now) c.args.shape.width above.first above.second c.args.level.now) c.check_rows.result
found g c =
    let w2 = c.next-below.result.width in
    rw (row-long (c.together-m.result * w2) (c.loop-y.y * w2) c.args.c.now (ends g (goal.at.After-check_rows g c).After-together-m)) at c.check_rows.ensures

pub returns-in-Some : goal.returns-in-Some
returns-in-Some g c =
    let at = goal.at.returns-in-Some g c in
    let n = at.After-next-below in
    wrong-by (λ r t. as-next (known g n) (g.R.Reduce.rule _) _ c.args.c.now c.requires.after t)
    (rows-stop (known g n) c.loop-y.y c.together-m.result c.together-m.ensures.run c.rows_above-above.ensures (g.R.Reduce.rule _) (long g n) c.loop-y.invariant.1
    (rw c.in-Some.is at (found g at.After-check_rows)))

pub loop-y-preserved : goal.loop-y-preserved
loop-y-preserved g c =
    let at = goal.at.loop-y-preserved g c in
    let n = at.After-next-below in
    let size = c.next-below.ensures in
    let run = c.together-m.ensures.run in (
      rw (size.0, size.2) run.inside,
      rows-go (known g n) c.loop-y.y c.together-m.result run c.rows_above-above.ensures (g.R.Reduce.rule _) (long g n) c.loop-y.invariant.1 (rw c.in_default.is at (found g at.After-check_rows)),
    )

pub returns : goal.returns
returns g c =
    let n = (goal.at.returns g c).After-next-below in
    let size = c.next-below.ensures in
    let all : c.loop-y.y ≡ c.next-below.result.faces * c.next-below.result.height = omega arith in
    let whole : c.loop-y.y * c.next-below.result.width ≡ length c.args.c.now = rw (all, size.0, size.2) (sym (long g n)) in
    let s = c.args.shape in
    let cells = cell_of (g.R.Reduce.rule c.args.rule.now) s.width s.height c.next-below.result.width (half s.height) c.args.level.now in
    wrong-by (λ r t. as-next (known g n) (g.R.Reduce.rule _) _ c.args.c.now c.requires.after t) (rw whole at (turn-end {f = cells} c.loop-y.invariant.1))
