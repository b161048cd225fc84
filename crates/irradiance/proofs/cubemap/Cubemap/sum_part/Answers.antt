use mathlib.Core.Path.{◌≡◌, ap, ◌∙◌}
use mathlib.Core.Logic.{inl, inr}
use Prim.Native.Nat.{ℕ, ◌+◌, ◌-◌}
use native.Mathlib.Omega.{arith}
use lib.ListN.{length}
use Rattle.std.proofs.Common.{rules}
use Rattle.std.proofs.lemmas.List.{length-take-le}
use Rattle.std.specs.Slice.Iter.{iter_rest}
use Rattle.std.specs.Iterator.Adapters.{zip_first, zip_second}
use Rattle.rules.specs.Irradiance.{centre_of}
use Rattle.irradiance.proofs.Turns.{from_first, from_next}
use Rattle.irradiance.proofs.Texels.{left_first, left-next, left-head, placed_first, placed-head, placed-next, turn}
use Rattle.irradiance.proofs.cubemap.Cubemap.sum_part.Goals as goal

pub loop-texel-init : goal.loop-texel-init
loop-texel-init c =
    let it = c.into_iter-texel-iterator.result in
    let few = c.requires.2 in
    let place = λ (i : ℕ). centre_of c.args.self.now.width (c.args.from + i) in
    let all : iter_rest (zip_first (zip_first it)) ≡ c.args.texels.now = search rules in
    let us : iter_rest (zip_second (zip_first it)) ≡ c.centres.new.us = search rules in
    let near : iter_rest (zip_second it) ≡ c.guesses.new.near = search rules in
    let none : length c.args.texels.now - length (iter_rest (zip_first (zip_first it))) ≡ 0 = rw all (omega arith) in
    record {
      left = rw all (left_first (omega arith));
      places = rw us (placed_first place _ _ none c.centres.ensures);
      as_many = (
        rw (us, all) (c.centres.auto.us ∙ length-take-le _ _ (omega arith)),
        rw (near, all) (c.guesses.auto.near ∙ length-take-le _ _ (omega arith)),
      );
      sums = rw none (from_first _ _ _);
    }

pub loop-texel-preserved : goal.loop-texel-preserved
loop-texel-preserved c =
    let i = c.loop-texel.invariant in
    let s = c.in-Some.ensures.steps in
    let place = λ (i : ℕ). centre_of c.args.self.now.width (c.args.from + i) in
    let rest = iter_rest (zip_first (zip_first c.loop-texel.texel-iterator)) in
    let rest' = iter_rest (zip_first (zip_first c.next.new.self)) in
    let k = length c.args.texels.now - length rest in
    let t = ap length s.0.0 in
    let u = ap length s.0.1 in
    let n = ap length s.1 in
    let more : length c.args.texels.now - length rest' ≡ k + 1 = omega (arith, i.left.long) in
    record {
      left = rw more (left-next i.left s.0.0);
      places = rw more (placed-next place _ i.places s.0.1);
      as_many = (omega arith, omega arith);
      sums = rw more (from_next _ _ _ _ _ _
          (turn _ _ _ _ _ _ _ _ _ _ _ _ _ _ c.texel_omega-omega.ensures (placed-head place _ i.places s.0.1) c.centre-v.ensures (left-head 0 i.left s.0.0)
          c.decoded.ensures c.place_basis-k.ensures c.all_get-sums.ensures)
          i.sums);
    }

pub returns : goal.returns
returns c =
    let i = c.loop-texel.invariant in
    let rest = iter_rest (zip_first (zip_first c.loop-texel.texel-iterator)) in
    let empty : length rest ≡ 0 =
    elim c.in-None.ensures.steps [
      | inl a ↦ elim a.1 [ inl b ↦ b.1.0 | inr b ↦ omega (arith, b.1.0, i.as_many.0) ]
      | inr a ↦ omega (arith, a.1.0, i.as_many.1)
    ] in
    let all : length c.args.texels.now - length rest ≡ length c.args.texels.now = omega arith in
    rw all at i.sums
