use mathlib.Core.Path.{◌≡◌, sym, ap, ◌∙◌}
use Prim.Native.Nat.{ℕ, ◌+◌, ◌-◌, ◌*◌, ◌≤◌}
use native.Mathlib.Omega.{arith}
use lib.ListN.{length, length-append}
use Rattle.std.proofs.Common.{rules}
use Rattle.std.specs.Slice.Iter.{chunks_rest}
use Rattle.std.specs.Iterator.Adapters.{enumerate_source}
use Rattle.irradiance.specs.Turns.{row_of}
use Rattle.irradiance.proofs.Turns.{turn_first, turn_part}
use Rattle.irradiance.proofs.Texels.{row-long, left_first, left-part, part-is}
use Rattle.irradiance.proofs.cubemap.Cubemap.sum_row.Goals as goal

-- what a range is long
back : (start n : ℕ) → start + n - start ≡ n
back start n = omega arith

pub loop-i-init : goal.loop-i-init
loop-i-init c =
    let a = c.args in
    let rest = chunks_rest (enumerate_source c.into_iter-i-iterator.result) in
    let made : rest ≡ chunks_rest c.chunks.result = search rules in
    let whole : rest ≡ row_of a.self.now a.face a.y = rw (made, c.chunks.ensures.rest, back) in
    let long = row-long a.self.now a.face a.y c.requires.0 c.requires.1 in
    let none : a.self.now.width - length rest ≡ 0 = rw (whole, long) (omega arith) in
    record {
      size = search rules;
      left = rw whole (left_first (rw long (omega arith)));
      column = λ _. rw none (search rules);
      sums = rw none (turn_first _ _);
    }

pub loop-i-preserved : goal.loop-i-preserved
loop-i-preserved c =
    let a = c.args in
    let s = c.in-Some.ensures.steps in
    let i = c.loop-i.invariant in
    let chunk = c.in-Some.texels.now in
    let rest = chunks_rest (enumerate_source c.loop-i.i-iterator) in
    let rest' = chunks_rest (enumerate_source c.next.new.self) in
    let k = a.self.now.width - length rest in
    let size = rw i.size at s.0.1.1 in
    let long = row-long a.self.now a.face a.y c.requires.0 c.requires.1 in
    let all : length rest ≡ length chunk + length rest' = ap length s.0.1.0 ∙ length-append _ _ in
    let column = i.column s.0.1.2 in
    let at : 64 * c.in-Some.i ≡ k = rw s.1 column in
    let more : a.self.now.width - length rest' ≡ k + length chunk = omega (arith, i.left.long) in
    let inside : k + length chunk ≤ a.self.now.width = omega (arith, i.left.long) in
    let part = rw at at c.sum_part-sums.ensures ∙ part-is a.self.now _ _ _ _ _ _ i.left s.0.1.0 inside _ in
    record {
      size = s.0.0 ∙ i.size;
      left = rw more (left-part a.self.now _ _ _ _ _ _ i.left s.0.1.0 inside);
      column = λ left. rw s.2 (omega (arith, column));
      sums = turn_part _ _ _ _ _ _ _ (sym more) part i.sums;
    }
