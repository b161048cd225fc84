-- The source's level, half of the whole logarithm of max(footprint, 1) cut to a u32, is the greatest power of 4 up to the footprint:
-- 4^j is at most f exactly where it is at most f's whole part, and 2^(2j) is at most w exactly where 2j is at most log2 w.
-- Assumes nothing.
use mathlib.Core.Path.{◌≡◌, refl, sym, ap, ◌∙◌, subst}
use mathlib.Core.Bool.{Bool, true, false, cond}
use Prim.Native.Nat.{ℕ, ◌*◌, ◌/◌, ◌^◌, ◌≤◌, ◌<◌, min}
use native.Mathlib.Nat.{zero-lt-suc, le_trans, lt_of_le_of_lt, mul-le-mul_right, le-div_iff_mul-le}
use native.Mathlib.Omega.{arith}
use lib.IntN.{ℤ, pos}
use lib.Dec.{T, leb, ltb, leb→le, le→leb, lit<, lit≤}
use lib.Pow.{pow_mono}
use lib.Ieee.{Float, nan, inf, fin, up, down, lt, eq, le, of_bits, to_unsigned}
use lib.Ieee.Fits.{down_pos}
use lib.Ieee.Exact.{HasValue}
use borrow.Author.Tests.{le-leb, lt-leb, ltb-true, ltb-false}
use Rattle.rules.specs.Floats.{float, one32}
use Rattle.rules.specs.Sizes.{log2}
use Rattle.rules.specs.Footprint.{four_of}
use Rattle.rules.proofs.Sides.{log2-bounds, exp-le}
use Rattle.places.specs.Sources.{most, level_source}
use Rattle.places.proofs.Magnitudes.{same_test}
use Rattle.places.proofs.Wholes.{only_zero}
use Rattle.places.proofs.Fours.{four-two, power, four-le, whole_le, below_inf, four-by}

-- ---- a whole number P from 2 up beside f, and beside w = max(f, 1) as u32
module _ (P : ℕ) (low : 2 ≤ P) (high : P ≤ 16777216) where
  none : (x : Float) → HasValue x false P 1 → (le x nan ≡ false) × (le x (inf true) ≡ false)
  unfolding le lt eq
  none nan v = absurd v
  none (inf s) v = absurd v
  none (fin s k d) v = (refl, refl)

  none_below : (x : Float) (m : ℕ) (e : ℤ) → HasValue x false P 1 → le x (fin true m e) ≡ false
  none_below nan m e v = absurd v
  none_below (inf s) m e v = absurd v
  none_below (fin true k d) m e v = absurd (subst T v.0 tt)
  none_below (fin false k d) m e v =
      same_test (le (fin false k d) (fin true m e)) false (λ t. let z = (only_zero m e (fin false k d) P 1 (zero-lt-suc 0) v t).0 in omega arith) (λ t. absurd t)

  above-one : leb P 1 ≡ false
  above-one = lt-leb P 1 low

  part : (m : ℕ) (e : ℤ) (b : Bool) → ltb (1 * down e) (m * up e * 1) ≡ b → leb (P * down e) (m * up e) ≡ leb P (to_unsigned 32 (cond b (fin false m e) (fin false 1 (pos 0))))
  unfolding to_unsigned
  part m e true t =
      let D = down_pos e in
      same_test (leb (P * down e) (m * up e)) (leb P (min (m * up e / down e) 4294967295))
      (λ u. le→leb P _ (let q : P ≤ m * up e / down e = (le-div_iff_mul-le D).1 (leb→le (P * down e) (m * up e) u) in omega arith))
      (λ u. le→leb (P * down e) (m * up e) ((le-div_iff_mul-le D).0 (let q = leb→le P (min (m * up e / down e) 4294967295) u in omega arith)))
  part m e false t = lt-leb (P * down e) (m * up e) (less (m * up e) (down e) (down_pos e) (ltb-false _ _ t)) ∙ sym above-one
    where
      less : (A D : ℕ) → 0 < D → A * 1 ≤ 1 * D → A < P * D
      less A D h l = let k : 2 * D ≤ P * D = mul-le-mul_right D low in omega arith

  taken : (f x : Float) → HasValue x false P 1 → le x f ≡ leb P (to_unsigned 32 (most f one32))
  unfolding of_bits lt to_unsigned
  taken nan x v = (none x v).0 ∙ sym above-one
  taken (inf true) x v = (none x v).1 ∙ sym above-one
  taken (inf false) x v = below_inf P x v ∙ sym (le-leb P 4294967295 (omega arith))
  taken (fin true m e) x v = none_below x m e v ∙ sym above-one
  taken (fin false m e) x v = whole_le P x m e v ∙ part m e (ltb (1 * down e) (m * up e * 1)) refl

-- ---- 2^i is at most w exactly where i is at most log2 w
by-log2 : (i w : ℕ) → 0 < w → leb (2 ^ i) w ≡ leb i (log2 w)
by-log2 i w h =
    let b = log2-bounds w h in
    same_test (leb (2 ^ i) w) (leb i (log2 w))
    (λ t. le→leb i (log2 w) (exp-le i (log2 w) (lt_of_le_of_lt (leb→le (2 ^ i) w t) b.1)))
    (λ t. le→leb (2 ^ i) w (le_trans (pow_mono (leb→le i (log2 w) t)) b.0))

some : (f : Float) → 0 < to_unsigned 32 (most f one32)
unfolding of_bits lt to_unsigned
some nan = lit< tt
some (inf true) = lit< tt
some (inf false) = lit< tt
some (fin true m e) = lit< tt
some (fin false m e) = go (ltb (1 * down e) (m * up e * 1)) refl
  where
    go : (b : Bool) → ltb (1 * down e) (m * up e * 1) ≡ b → 0 < to_unsigned 32 (cond b (fin false m e) (fin false 1 (pos 0)))
    go true t = let l = ltb-true (1 * down e) (m * up e * 1) t in let q : 1 ≤ m * up e / down e = (le-div_iff_mul-le (down_pos e)).1 (omega arith) in omega arith
    go false t = lit< tt

-- the source's form and the rule agree
pub level-source : (n : ℕ) (f : Float) → n ≤ 12 → level_source n f ≡ four_of n f
unfolding level_source
level-source n f h =
    four-by n (log2 w / 2) f h
    (λ j a b.
    taken (4 ^ j) (le_trans (lit≤ tt) (four-le 1 j a)) (four-le j 12 b) f (float (4 ^ j)) (power j b)
    ∙ ap (λ (z : ℕ). leb z w) (four-two j)
    ∙ by-log2 (2 * j) w (some f)
    ∙ half j (log2 w))
  where
    w : ℕ
    w = to_unsigned 32 (most f one32)

    half : (j x : ℕ) → leb (2 * j) x ≡ leb j (x / 2)
    half j x =
        same_test (leb (2 * j) x) (leb j (x / 2))
        (λ t. le→leb j (x / 2) (let l = leb→le (2 * j) x t in omega arith))
        (λ t. le→leb (2 * j) x (let l = leb→le j (x / 2) t in omega arith))
