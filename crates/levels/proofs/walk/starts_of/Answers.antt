use mathlib.Core.List.{List, ◌++◌}
use mathlib.Core.Path.{◌≡◌, refl, ap, ◌∙◌}
use Prim.Native.Nat.{ℕ, ◌+◌, ◌≤◌}
use native.Mathlib.Omega.{arith}
use native.Mathlib.Numerals.{add-one}
use lib.ListN.{length, take, drop}
use lib.Seq.{length-take-le, take_all}
use Rattle.std.proofs.lemmas.List.{take_more_set}
use Rattle.rules.specs.Sizes.{top, count}
use Rattle.rules.specs.Levels.{tab}
use Rattle.rules.proofs.Grid.{tab-suc}
use Rattle.reduce.specs.Levels.{Sides}
use Rattle.levels.proofs.Starts.{top-few}
use Rattle.levels.proofs.Rows.{over-front}
use Rattle.levels.proofs.Walks.{walked-first, walked-fits, walked_next}
use Rattle.levels.proofs.walk.starts_of.Goals as goal
use Rattle.levels.proofs.walk.starts_of.Goals.{In-loop-start, After-loop-start}

pub loop-start-init : goal.loop-start-init
unfolding tab
loop-start-init c =
    let a = c.args in
    (refl, rw (c.min-smaller.ensures, c.max-larger.ensures) (walked-first a.faces a.width a.height c.requires.0))

-- a turn for each level
turns : {F w h n : ℕ} (l : List ℕ) → Sides F w h → 13 ≤ length l → n ≡ top w h → length (take (n + 1) l) ≡ top w h + 1
turns {n} l s long e = length-take-le (n + 1) l (omega (arith, top-few s)) ∙ ap (λ (m : ℕ). m + 1) e

pub slice_bounds-start-items-end : goal.slice_bounds-start-items-end
slice_bounds-start-items-end c = omega (arith, top-few c.requires.0, c.top_level.ensures)

pub slice_bounds-start-items-end-2 : goal.slice_bounds-start-items-end-2
slice_bounds-start-items-end-2 c = omega (arith, turns c.args.starts.now c.requires.0 c.requires.1 c.top_level.ensures, c.top_level.ensures)

-- the walk has not come past the top level
below : (c : goal.In-loop-start) → c.loop-start.start-index ≤ top c.args.width c.args.height
below c = omega (arith, turns c.args.starts.now c.requires.0 c.requires.1 c.top_level.ensures, c.loop-start-test.true)

pub overflow_mul-at : goal.overflow_mul-at
overflow_mul-at c =
    omega (arith, walked-fits c.requires.0 c.loop-start.invariant.1 (below (goal.at.overflow_mul-at c).In-loop-start))

pub overflow_mul-at-in-loop-start : goal.overflow_mul-at-in-loop-start
overflow_mul-at-in-loop-start c =
    omega (arith, walked-fits c.requires.0 c.loop-start.invariant.1 (below (goal.at.overflow_mul-at-in-loop-start c).In-loop-start))

pub overflow_add-at : goal.overflow_add-at
overflow_add-at c =
    omega (arith, walked-fits c.requires.0 c.loop-start.invariant.1 (below (goal.at.overflow_add-at c).In-loop-start))

pub loop-start-preserved : goal.loop-start-preserved
loop-start-preserved c =
    let turn = c.loop-start in (
      take_more_set turn.start-items turn.start-index turn.at (omega arith)
          ∙ rw (turn.invariant.0, turn.invariant.1.starts, add-one turn.start-index, tab-suc turn.start-index),
      rw c.max-smaller.ensures (walked_next c.requires.0 turn.invariant.1 (below (goal.at.loop-start-preserved c).In-loop-start)),
    )

-- the walk is past the top level
past : (c : goal.After-loop-start) → c.loop-start.start-index ≡ top c.args.width c.args.height + 1
past c = omega (arith, turns c.args.starts.now c.requires.0 c.requires.1 c.top_level.ensures, c.loop-start-test.false, c.loop-start.auto.start-index-end)

pub returns-clause-total : goal.returns-clause-total
unfolding count
returns-clause-total c = c.loop-start.invariant.1.starts ∙ rw (past (goal.at.returns-clause-total c).After-loop-start, add-one)

pub returns-clause-leaves : goal.returns-clause-leaves
returns-clause-leaves c =
    let turn = c.loop-start in
    let e = past (goal.at.returns-clause-leaves c).After-loop-start in
    let all : turn.start-items ≡ tab turn.start-index _ = rw (take_all turn.start-index turn.start-items (omega arith)) at turn.invariant.0 in
    rw (over-front, c.top_level.ensures, ← e) (ap (λ (l : List ℕ). l ++ drop turn.start-index c.args.starts.now) all)
