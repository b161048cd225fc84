-- The pack keeps the order, in each mode: of two values from 0 to 1 the larger one is packed to the same byte or to a larger one. A product with
-- 255 keeps the order, and so does the whole part of p + h / 2. Assumes nothing.
use mathlib.Core.Path.{◌≡◌, refl}
use Prim.Native.Nat.{ℕ, ◌+◌, ◌*◌, ◌/◌, ◌≤◌, ◌<◌}
use native.Mathlib.Nat.{mul_comm, mul_assoc, mul_left_comm, add-mul}
use native.Mathlib.Omega.{arith}
use lib.Dec.{T}
use lib.Ieee.{Float, binary32, le, mul, of_bits}
use lib.Ieee.Fits.{mul-fits}
use lib.Ieee.Nearest.{div_mono}
use lib.Ieee.Positive.{num, den, den_pos}
use Rattle.rules.specs.declared.Packing.{Packing}
use Rattle.rules.specs.Floats.{Between, zero32, one32, top32}
use Rattle.rules.specs.Packing.{pack_of}
use Rattle.texel.proofs.Range.{Between-finite, mul_mono, le-self}
use Rattle.texel.proofs.FromZero.{fractions-le}
use Rattle.texel.proofs.Unit.{scaled-in}
use Rattle.texel.proofs.Packs.{halves, kept-is, small}

-- (2a + hb) / 2b is at most (2c + hd) / 2d where a / b is at most c / d
moved-mono : (h a b c d : ℕ) → 0 < b → 0 < d → a * d ≤ c * b → (2 * a + h * b) / (2 * b) ≤ (2 * c + h * d) / (2 * d)
moved-mono h a b c d B D l = div_mono (2 * a + h * b) (2 * b) (2 * c + h * d) (2 * d) (omega arith) (omega arith) (rw (add-mul (2 * a) (h * b) (2 * d), add-mul (2 * c) (h * d) (2 * b)) crossed)
  where
    crossed : 2 * a * (2 * d) + h * b * (2 * d) ≤ 2 * c * (2 * b) + h * d * (2 * b)
    crossed =
        let x : 2 * a * (2 * d) ≡ 2 * (2 * (a * d)) = simp (mul_assoc, mul_left_comm) in
        let y : 2 * c * (2 * b) ≡ 2 * (2 * (c * b)) = simp (mul_assoc, mul_left_comm) in
        let z : h * b * (2 * d) ≡ h * d * (2 * b) = simp (mul_assoc, mul_comm, mul_left_comm) in
        omega arith

module _ (packing : Packing) where
  pub pack-lt : (x : Float) → Between zero32 x one32 → pack_of packing x ≤ 255
  unfolding pack_of
  pack-lt x b = let k = scaled-in x b in rw (kept-is packing _ (mul-fits binary32 x top32) k) (small packing _ (mul-fits binary32 x top32) k)

  pub pack-mono : (x y : Float) → Between zero32 x one32 → Between zero32 y one32 → T (le x y) → pack_of packing x ≤ pack_of packing y
  unfolding pack_of of_bits
  pack-mono x y p q h =
      let a = mul binary32 x top32 in
      let b = mul binary32 y top32 in
      let u = scaled-in x p in
      let v = scaled-in y q in
      let X = Between-finite zero32 x one32 tt tt p in
      let Y = Between-finite zero32 y one32 tt tt q in
      let A = Between-finite zero32 a top32 tt tt u in
      let B = Between-finite zero32 b top32 tt tt v in
      let l : T (le a b) = mul_mono binary32 zero32 x y top32 top32 tt refl X Y tt tt p.low (unfold le in tt) h (le-self top32 tt) in
      rw (kept-is packing a (mul-fits binary32 x top32) u, kept-is packing b (mul-fits binary32 y top32) v)
      (moved-mono (halves packing) (num a) (den a) (num b) (den b) (den_pos a) (den_pos b) (fractions-le a b A B u.low v.low l))
