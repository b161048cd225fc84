-- A walk over a chain's levels, the smaller side named first. Up to the top level something of the larger side is left, so that this side
-- only halves; the smaller one is held to 1. Assumes nothing.
use mathlib.Core.Path.{◌≡◌, refl, sym}
use Prim.Native.Nat.{ℕ, ◌+◌, ◌*◌, ◌/◌, ◌^◌, ◌≤◌, ◌<◌, min, max}
use native.Mathlib.Decide.{dec_le}
use native.Mathlib.Nat.{pow-zero, div-one, mul-le-mul, mul_right_comm, min-eq_left, min-eq_right, max-eq_left, max-eq_right, le-div_iff_mul-le}
use native.Mathlib.Numerals.{add-one}
use native.Mathlib.Omega.{arith}
use lib.Pow.{pow_pos, pow_mono, shr-shr, shr_le}
use Rattle.rules.specs.Sizes.{side_at, top, size_at, start}
use Rattle.rules.proofs.Bounds.{top-most}
use Rattle.rules.proofs.Sides.{half-side, side-zero, top-bounds, start-suc}
use Rattle.reduce.specs.Levels.{Sides}
use Rattle.levels.proofs.Starts.{size-most, start-most}

-- a walk has come to level m: it starts at `at`, and these are its sides, the larger one before it is held to 1
pub record Walked (F w h m at smaller larger : ℕ) : Type 0 where
  pub starts : at ≡ start F w h m
  pub held : smaller ≡ side_at m (min w h)
  pub halved : larger ≡ max w h / 2 ^ m

pub walked-first : (F w h : ℕ) → Sides F w h → Walked F w h 0 0 (min w h) (max w h)
unfolding start
walked-first F w h t = record {
  starts = refl;
  held = sym (side-zero (min w h) (omega (arith, t.some-w, t.some-h)));
  halved = rw (pow-zero, div-one);
}

module _ {F w h m at smaller larger : ℕ} (t : Sides F w h) (k : Walked F w h m at smaller larger) (le : m ≤ top w h) where
  -- the larger side is the level's
  larger_left : larger ≡ side_at m (max w h)
  unfolding side_at
  larger_left =
      let b = top-bounds w h t.some-w in
      let r = pow_mono le in
      let some : 1 ≤ max w h / 2 ^ m = (le-div_iff_mul-le (pow_pos m)).1 (omega arith) in
      rw k.halved (sym (max-eq_right some))

  sized : F * larger * smaller ≡ size_at F w h m
  unfolding size_at
  sized =
      rw (larger_left, k.held)
      (elim (dec_le w h) [
        | yes p ↦ rw (min-eq_left p, max-eq_right p)
        | no f ↦ let p : h ≤ w = omega arith in rw (min-eq_right p, max-eq_left p) (mul_right_comm F (side_at m w) (side_at m h))
      ])

  pub walked-fits : (F * larger < 4294967296) × (F * larger * smaller < 4294967296) × (at + F * larger * smaller < 4294967296)
  walked-fits =
      let few = top-most w h t.some-w t.most-w t.most-h in
      let f = size-most F w h t.most-f t.most-w t.most-h m in
      let g = start-most F w h t.most-f t.most-w t.most-h m in
      let side : larger ≤ 4096 = omega (arith, k.halved, shr_le (max w h) m) in
      let row : F * larger ≤ 6 * 4096 = mul-le-mul t.most-f side in
      (omega arith, omega (arith, sized), omega (arith, sized, k.starts))

  pub walked_next : Walked F w h (m + 1) (at + F * larger * smaller) (max (smaller / 2) 1) (larger / 2)
  walked_next = record {
    starts = rw (add-one, start-suc, k.starts, sized);
    held = rw (add-one, ← half-side m (min w h), ← k.held) (omega arith);
    halved = rw (k.halved, ← shr-shr (max w h) m 1);
  }
