use mathlib.Core.Path.{◌≡◌, sym, ap, ◌∙◌}
use Prim.Native.Nat.{ℕ, ◌*◌, min}
use native.Mathlib.Omega.{arith}
use lib.ListN.{length, drop, length-drop}
use Rattle.std.specs.Iterator.Adapters.{enumerate_source, enumerate_count}
use Rattle.std.specs.Slice.Iter.{chunks_rest}
use Rattle.kinds.specs.Runs.{pair_of, pairs_of}
use Rattle.kinds.proofs.Runs.{Over, over_first}
use Rattle.reduce.specs.Right.{FirstWrong}
use Rattle.reduce.proofs.Parts.{Part, part-of, part-right}
use Rattle.reduce.proofs.Rows.{pair-on}
use Rattle.reduce.proofs.Standing.{turn-end, turn-more, turn-stop}
use Rattle.reduce.proofs.check_row.check_pairs.Goals as goal
use Rattle.reduce.proofs.check_row.check_pairs.Goals.{In-Some, After-check_part}

-- the part that is looked at
here : (g : _) (c : goal.In-Some g) → Part c.args.standing.texels.now c.in-Some.texels.now (chunks_rest (enumerate_source c.next.new.self)) c.in-Some.i
here g c =
    let steps = c.in-Some.ensures.steps in
    let i = c.loop-i.invariant in
    part-of (i.left ∙ ap (λ (k : ℕ). drop (64 * k) c.args.standing.texels.now) (sym steps.1)) steps.0.1.0 (rw i.size at steps.0.1.1) steps.0.1.2

-- what stands before it
stands : (g : _) (c : goal.In-Some g)
    → let a = c.args in Over 0 a.standing.texels.now (64 * c.in-Some.i) (pairs_of (g.R.Reduce.rule a.rule.now) a.standing.above) a.standing.texels.now
stands g c = rw (here g c).before at (rw (← c.in-Some.ensures.steps.1) at c.loop-i.invariant.run)

-- what is found in it
found : (g : _) (c : goal.After-check_part g)
    → let a = c.args in
    let x = 64 * c.in-Some.i in
    FirstWrong x a.standing.texels.now (length c.in-Some.texels.now) (pair_of (g.R.Reduce.rule a.rule.now) (drop (2 * x) a.standing.above.first.now) (drop (2 * x) a.standing.above.second.now)) c.check_part.result
found g c =
    part-right (here g (goal.at.After-check_part g c).In-Some) (rw (c.from_pair-above.ensures.0, c.from_pair-above.ensures.1) at c.check_part.ensures)

pub loop-i-init : goal.loop-i-init
loop-i-init g c =
    let none : min (64 * 0) (length c.args.standing.texels.now) ≡ 0 = omega arith in
    rw (c.into_iter-i-iterator.ensures.into_iter_gives, c.enumerate-i-items.ensures.source, c.enumerate-i-items.ensures.count)
    (record { size = c.chunks.ensures.size; left = c.chunks.ensures.rest; run = rw none (over_first 0 c.args.standing.texels.now (pairs_of (g.R.Reduce.rule c.args.rule.now) c.args.standing.above) (omega arith)) })

pub returns-in-Some-check_part : goal.returns-in-Some-check_part
returns-in-Some-check_part g c =
    let at = goal.at.returns-in-Some-check_part g c in
    let part = here g at.In-Some in
    turn-stop (stands g at.In-Some) (omega arith) part.room (λ k lt. pair-on (g.R.Reduce.rule _) _ _ _ k) (rw c.in-Some-check_part.is at (found g at.After-check_part))

pub loop-i-preserved : goal.loop-i-preserved
loop-i-preserved g c =
    let at = goal.at.loop-i-preserved g c in
    let part = here g at.In-Some in
    let steps = c.in-Some.ensures.steps in
    record {
      size = steps.0.0 ∙ c.loop-i.invariant.size;
      left = rw (steps.2, ← steps.1) part.behind;
      run =
          rw (steps.2, ← steps.1, part.more)
          (turn-more {n = length c.args.standing.texels.now} (stands g at.In-Some) (omega arith) part.room (λ k lt. pair-on (g.R.Reduce.rule _) _ _ _ k)
          (rw c.in_default.is at (found g at.After-check_part)));
    }

pub returns : goal.returns
returns g c =
    let i = c.loop-i.invariant in
    let n = enumerate_count c.loop-i.i-iterator in
    let left = length-drop (64 * n) c.args.standing.texels.now in
    let none = sym (ap length i.left) ∙ c.in-None.ensures.steps.0.1.0 in
    let all : min (64 * n) (length c.args.standing.texels.now) ≡ length c.args.standing.texels.now = omega arith in
    rw all at (turn-end {f = pairs_of (g.R.Reduce.rule c.args.rule.now) c.args.standing.above} i.run)
