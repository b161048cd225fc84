-- `levels::lent::Chain::level_verdict` meets its contract: level 0 follows, and any other is judged behind the level before it.
use mathlib.Core.Path.{◌≡◌, refl, ◌∙◌}
use Prim.Native.Nat.{ℕ, ◌+◌, ◌-◌, ◌≤◌}
use native.Mathlib.Omega.{arith}
use Rattle.rules.specs.Sizes.{start}
use borrow.Author.Rules.{part_to_end}
use lib.ListN.{length, length-drop}
use Rattle.std.specs.Option.{option_map}
use Rattle.rules.specs.Kinds.{faces_of, code_of}
use Rattle.rules.specs.Reducing.{reduce_of}
use Rattle.rules.specs.Checks.{level_verdict, level_verdict_of}
use Rattle.levels.proofs.Checks.{Behind, behind, judged}
use Rattle.levels.proofs.lent.Chain.level_verdict.Goals as goal
use Rattle.levels.proofs.lent.Chain.level_verdict.Goals.{After-check_next, After-start, Else-level-lt1}

pub returns-then-level-lt1 : goal.returns-then-level-lt1
unfolding level_verdict_of level_verdict
returns-then-level-lt1 c =
    let z : c.args.level ≡ 0 = omega arith in
    rw z refl

-- where the level and the one before it stand
known : (c : goal.Else-level-lt1) → let p = c.args.self.picture in Behind (faces_of (code_of p.kind)) p.width p.height c.args.level (length c.args.self.texels.now)
known c = let chain = c.args.self in behind _ _ _ _ _ chain.picture.sides chain.room c.requires (omega arith)

-- the part from the level before on lies in the buffer
fits : (c : goal.After-start) → c.start.result ≤ length c.args.self.texels.now
fits c =
    let k = known (goal.at.After-start c).Else-level-lt1 in
    rw c.start.ensures (omega (arith, k.starts, k.ends, k.inside))

pub offset_bounds-self-start : goal.offset_bounds-self-start
offset_bounds-self-start c = omega (arith, fits (goal.at.offset_bounds-self-start c).After-start)

pub slice_bounds-pair-count : goal.slice_bounds-pair-count
slice_bounds-pair-count c = omega (arith, fits (goal.at.slice_bounds-pair-count c).After-start)

pub slice_bounds-pair-start : goal.slice_bounds-pair-start
slice_bounds-pair-start c = omega (arith, fits (goal.at.slice_bounds-pair-start c).After-start)

pub invariant_of-pair : goal.invariant_of-pair
invariant_of-pair c =
    let k = known (goal.at.invariant_of-pair c).Else-level-lt1 in
    let s = c.shape.ensures in
    record {
      room =
          rw (part_to_end _ _, length-drop, c.start.ensures, s.0, s.1, s.2)
          (omega (arith, k.starts, k.ends, k.inside));
    }

-- a level ends where the next starts
back : (level : ℕ) → 1 ≤ level → level - 1 + 1 ≡ level
back level some = omega arith

-- the first wrong texel lies in the level
pub overflow_add-result : goal.overflow_add-result
overflow_add-result c =
    let k = known (goal.at.overflow_add-result c).Else-level-lt1 in
    let s = c.shape.ensures in
    let few = rw (c.in_ok-wrong.was, s.0, s.1, s.2) at c.check_next.ensures.inside in
    rw (c.end.ensures, back c.args.level (omega arith)) (omega (arith, few, k.ends, k.inside))

-- what was found there, as the definition says it
found : (c : goal.After-check_next)
    → let p = c.args.self.picture in
    option_map (λ k. start (faces_of (code_of p.kind)) p.width p.height c.args.level + k) c.check_next.result ≡ level_verdict_of (code_of p.kind) c.args.packing p.width p.height c.args.self.texels.now c.args.level
unfolding level_verdict_of
found c =
    let a = c.args in
    let p = a.self.picture in
    let K = code_of p.kind in
    let before = c.start in
    let s = c.shape.ensures in
    judged (reduce_of K a.packing) (faces_of K) p.width p.height a.level a.self.texels.now c.check_next.result (omega arith) (known (goal.at.After-check_next c).Else-level-lt1)
    (rw (part_to_end _ _, before.ensures, s.0, s.1, s.2) at c.check_next.ensures)

pub returns-in_err-wrong : goal.returns-in_err-wrong
returns-in_err-wrong c = c.from_residual.ensures ∙ rw c.in_err-wrong.was at (found (goal.at.returns-in_err-wrong c).After-check_next)

pub returns : goal.returns
returns c = rw (c.end.ensures, back c.args.level (omega arith)) (rw c.in_ok-wrong.was at (found (goal.at.returns c).After-check_next))
