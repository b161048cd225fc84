-- `texel::root::round_root` meets its contract: the corrections are above the root by 2^21, 2^18 and 2^12 at most, and the last one is
-- settled.
use mathlib.Core.Path.{sym, ◌∙◌}
use Prim.Native.Nat.{◌+◌, ◌*◌, ◌/◌}
use native.Mathlib.Omega.{arith}
use lib.Dec.{lit≤}
use lib.Ieee.{of_bits}
use borrow.Author.Rules.{rules}
use borrow.Author.Tests.{ltb-true, ltb-false}
use Rattle.texel.proofs.Corrections.{Ranged, Near, first, after, sum-small, last-in, last-kept, last-lowered}
use Rattle.texel.proofs.RootFloats.{test-is}
use Rattle.texel.proofs.root.round_root.Goals as goal
use Rattle.texel.proofs.root.round_root.Goals.{After-quotient, After-quotient-2, Start}

ranged : (s : goal.Start) → Ranged (s.args.h * 8388608)
ranged s = record { least = search rules; most = search rules }

near-a : (s : goal.Start) → Near (s.args.h * 8388608) ((16777216 + s.args.h / 2) / 2) 2097152
near-a s = first s.args.h (ranged s)

near-b : (c : goal.After-quotient) → Near (c.args.h * 8388608) (((16777216 + c.args.h / 2) / 2 + c.quotient.result) / 2) 262144
near-b c = after _ _ _ 2097152 262144 (ranged (goal.at.After-quotient c).Start) (lit≤ tt) (lit≤ tt) (near-a (goal.at.After-quotient c).Start) c.quotient.ensures

near-c : (c : goal.After-quotient-2) → Near (c.args.h * 8388608) ((((16777216 + c.args.h / 2) / 2 + c.quotient.result) / 2 + c.quotient-2.result) / 2) 4096
near-c c = after _ _ _ 262144 4096 (ranged (goal.at.After-quotient-2 c).Start) (lit≤ tt) (lit≤ tt) (near-b (goal.at.After-quotient-2 c).After-quotient) c.quotient-2.ensures

pub overflow_add-b : goal.overflow_add-b
overflow_add-b c = let h = sum-small _ _ _ _ (near-a (goal.at.overflow_add-b c).Start) c.quotient.ensures in omega arith

pub quotient-requires-2 : goal.quotient-requires-2
quotient-requires-2 c = let s = near-b c in record {
  h_in = c.requires;
  d_in = (s.low, s.high);
}

pub overflow_add-c : goal.overflow_add-c
overflow_add-c c = let h = sum-small _ _ _ _ (near-b (goal.at.overflow_add-c c).After-quotient) c.quotient-2.ensures in omega arith

pub quotient-requires-3 : goal.quotient-requires-3
quotient-requires-3 c = let s = near-c c in record {
  h_in = c.requires;
  d_in = (s.low, s.high);
}

pub overflow_add-r : goal.overflow_add-r
overflow_add-r c = let h = sum-small _ _ _ _ (near-c (goal.at.overflow_add-r c).After-quotient-2) c.quotient-3.ensures in omega arith

pub overflow_add-r-2 : goal.overflow_add-r-2
overflow_add-r-2 c = let h = sum-small _ _ _ _ (near-c (goal.at.overflow_add-r-2 c).After-quotient-2) c.quotient-3.ensures in omega arith

pub returns-then-r-h : goal.returns-then-r-h
unfolding of_bits
returns-then-r-h c =
    let m = last-in _ _ _ (ranged (goal.at.returns-then-r-h c).Start) (near-c (goal.at.returns-then-r-h c).After-quotient-2) c.quotient-3.ensures in
    last-kept _ _ _ (ranged (goal.at.returns-then-r-h c).Start) (near-c (goal.at.returns-then-r-h c).After-quotient-2) c.quotient-3.ensures (ltb-true _ _ (sym (test-is _ _ m.0 m.1 c.requires.0 c.requires.1) ∙ c.if-r-h.true))

pub returns-else-r-h : goal.returns-else-r-h
unfolding of_bits
returns-else-r-h c =
    let m = last-in _ _ _ (ranged (goal.at.returns-else-r-h c).Start) (near-c (goal.at.returns-else-r-h c).After-quotient-2) c.quotient-3.ensures in
    last-lowered _ _ _ (ranged (goal.at.returns-else-r-h c).Start) (near-c (goal.at.returns-else-r-h c).After-quotient-2) c.quotient-3.ensures (ltb-false _ _ (sym (test-is _ _ m.0 m.1 c.requires.0 c.requires.1) ∙ c.if-r-h.false))
