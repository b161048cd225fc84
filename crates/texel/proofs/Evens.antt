-- The whole number nearest to a value from 0 to 2^12, a half to the even neighbour, by one f32 sum: 2^23 + p lies where the last place is 1,
-- and the sum is rounded once, a tie to the even one; 2^23 is even. Assumes nothing.
use mathlib.Core.Path.{◌≡◌, refl, sym, ap, ◌∙◌, subst}
use mathlib.Core.Bool.{true, false, not, cond}
use Prim.Native.Nat.{ℕ, ◌+◌, ◌*◌, ◌/◌, ◌%◌, ◌^◌, ◌≤◌, ◌<◌, compare, Ordering, zero-le}
use native.Mathlib.Nat.{le_trans, le_of_eq, mul-one, zero-mul, mul_assoc, add-mul, div-add-mod', div-lt_iff_lt-mul, add-mul-div_right, add-mul-mod_self_right}
use native.Mathlib.Omega.{arith}
use lib.IntN.{pos}
use lib.Dec.{T, is_le, compare_is_eq, ltb, eqb, leb→le, nleb→lt, eqb→eq, eqb_refl, lit<}
use lib.Arith.{lt_of_le-ne}
use borrow.Author.Tests.{lt-ltb, le-ltb}
use lib.Ieee.{Float, nan, inf, fin, binary32, up, down, nearest, add, to_bits, of_bits, is_nan}
use lib.Ieee.Fits.{down_pos, nearest-le}
use lib.Ieee.Nearest.{closest, closest_same}
use lib.Ieee.Scale.{finite}
use lib.Ieee.Positive.{num, den, den_pos}
use Rattle.rules.specs.Floats.{Between, zero32}
use Rattle.rules.specs.Whole.{half_even, even_of}
use Rattle.texel.specs.Ends.{high12}
use Rattle.texel.proofs.Range.{Between-finite}
use Rattle.texel.proofs.FromZero.{no_sign, fraction-le}
use Rattle.texel.proofs.Patterns.{no_nan}
use Rattle.texel.proofs.Sums.{Moved, moved, rounded-bits, rounded-finite}

-- ---- an even number more
even-more : (w c : ℕ) (o : Ordering) → c % 2 ≡ 0 → nearest (w + c) o ≡ nearest w o + c
even-more w c Ordering.lt h = refl
even-more w c Ordering.eq h = omega arith
even-more w c Ordering.gt h = omega arith

closest-more : (a d c : ℕ) → 0 < d → c % 2 ≡ 0 → closest (a + c * d) d ≡ closest a d + c
closest-more a d c D h =
    ap (λ (z : ℕ). nearest z (compare ((a + c * d) % d * 2) d)) (add-mul-div_right a c D)
    ∙ ap (λ (z : ℕ). nearest (a / d + c) (compare (z * 2) d)) (add-mul-mod_self_right a c d)
    ∙ even-more (a / d) c (compare (a % d * 2) d) h

-- ---- the nearest whole number by its rest, and beside the half
abbrev Cmp : Ordering → ℕ → ℕ → Type 0
Cmp Ordering.lt a b = a < b
Cmp Ordering.eq a b = a ≡ b
Cmp Ordering.gt a b = b < a

cmp : (a b : ℕ) → Cmp (compare a b) a b
cmp a b = go (compare a b) (leb→le a b) (nleb→lt a b) (eqb→eq a b) (λ (e : a ≡ b). subst (λ (x : ℕ). T (eqb a x)) e (eqb_refl a))
  where
    go : (o : Ordering) → (T (is_le o) → a ≤ b) → (T (not (is_le o)) → b < a) → (T (compare_is_eq o) → a ≡ b) → (a ≡ b → T (compare_is_eq o)) → Cmp o a b
    go Ordering.lt h k e n = lt_of_le-ne (h tt) n
    go Ordering.eq h k e n = e tt
    go Ordering.gt h k e n = k tt

pub closest-even : (a d : ℕ) → 0 < d → closest a d ≡ half_even a d (a / d)
unfolding half_even
closest-even a d D = go (compare (a % d * 2) d) (cmp (a % d * 2) d) (half (a / d) (a % d) (div-add-mod' a d))
  where
    -- twice the value, and twice the half-way point above its whole part
    half : (t r : ℕ) → t * d + r ≡ a → (a * 2 ≡ 2 * (t * d) + r * 2) × ((2 * t + 1) * d ≡ 2 * (t * d) + d)
    half t r e = let x = add-mul (2 * t) 1 d in let y = mul_assoc 2 t d in (omega arith, omega arith)

    go : (o : Ordering) → Cmp o (a % d * 2) d → (a * 2 ≡ 2 * (a / d * d) + a % d * 2) × ((2 * (a / d) + 1) * d ≡ 2 * (a / d * d) + d)
        → nearest (a / d) o ≡ cond (ltb (a * 2) ((2 * (a / d) + 1) * d)) (a / d) (cond (ltb ((2 * (a / d) + 1) * d) (a * 2)) (a / d + 1) (a / d + a / d % 2))
    go Ordering.lt h e = let x = e.0 in let y = e.1 in rw (lt-ltb (a * 2) ((2 * (a / d) + 1) * d) (omega arith))
    go Ordering.eq h e = let x = e.0 in let y = e.1 in rw (le-ltb (a * 2) ((2 * (a / d) + 1) * d) (omega arith), le-ltb ((2 * (a / d) + 1) * d) (a * 2) (omega arith))
    go Ordering.gt h e =
        let x = e.0 in
        let y = e.1 in
        rw (le-ltb (a * 2) ((2 * (a / d) + 1) * d) (omega arith), lt-ltb ((2 * (a / d) + 1) * d) (a * 2) (omega arith)) (omega arith)

-- ---- a p from 0 to 2^12
fraction : (p : Float) → T (finite p) → Between zero32 p high12 → num p ≤ 4096 * den p
fraction p f b = le_trans (le_of_eq (sym (mul-one (num p)))) (fraction-le p high12 f tt b.low b.high)

even_is : (p : Float) → T (finite p) → Between zero32 p high12 → closest (num p) (den p) ≡ even_of p
unfolding even_of
even_is nan f b = absurd f
even_is (inf s) f b = absurd f
even_is (fin false m e) f b = closest-even (m * up e) (down e) (down_pos e)
even_is (fin true m e) f b =
    ap (λ (z : ℕ). closest z (down e)) (no_sign (fin true m e) f b.low).1 ∙ closest_same 0 (down e) 0 1 (down_pos e) (lit< tt) (zero-mul 1 ∙ sym (zero-mul (down e)))

-- the whole number nearest to it is small
few : (p : Float) → T (finite p) → Between zero32 p high12 → closest (num p) (den p) ≤ 4097
few p f b =
    le_trans (nearest-le (num p / den p) (compare (num p % den p * 2) (den p)))
    ((div-lt_iff_lt-mul (den_pos p)).1 (under (num p) (den p) (fraction p f b) (den_pos p)))
  where
    under : (n d : ℕ) → n ≤ 4096 * d → 0 < d → n < 4097 * d
    under n d h g = omega arith

module _ (p : Float) (b : Between zero32 p high12) where
  finite-p : T (finite p)
  unfolding of_bits
  finite-p = Between-finite zero32 p high12 tt tt b

  -- the sum as a fraction, and the whole number nearest to it
  sum : Moved binary32 p (fin false 1 (pos 23)) (2 ^ 23)
  sum = let k = fraction p finite-p b in let d = den_pos p in moved binary32 p 1 23 finite-p (omega arith)

  size_is : sum.size * 2 ^ 0 ≡ num p + 2 ^ 23 * den p
  size_is = let k = no_sign p finite-p b.low in let x = k.0 in let y = k.1 in let z = sum.val in omega arith

  whole : closest (sum.size * 2 ^ 0) (den p) ≡ even_of p + 2 ^ 23
  whole = ap (λ (n : ℕ). closest n (den p)) size_is ∙ closest-more (num p) (den p) (2 ^ 23) (den_pos p) refl ∙ ap (λ (n : ℕ). n + 2 ^ 23) (even_is p finite-p b)

  small : even_of p ≤ 4097
  small = subst (λ (n : ℕ). n ≤ 4097) (even_is p finite-p b) (few p finite-p b)

  least : 2 ^ 23 * den p ≤ sum.size * 2 ^ 0
  least = let k = size_is in omega arith

  most : closest (sum.size * 2 ^ 0) (den p) < 2 ^ 24
  most = let k = whole in let l = small in omega arith

  pub even-bits : to_bits binary32 (add binary32 p (fin false 1 (pos 23))) % 2 ^ 23 ≡ even_of p
  even-bits =
      let k = whole in
      let l = small in
      ap (λ (y : Float). to_bits binary32 y % 2 ^ 23) sum.is ∙ ap (λ (n : ℕ). n % 2 ^ 23) (rounded-bits binary32 sum.size (den p) 0 (den_pos p) zero-le least most) ∙ omega arith

  pub even-no-nan : T (not (is_nan (add binary32 p (fin false 1 (pos 23)))))
  even-no-nan = no_nan _ (subst (λ (y : Float). T (finite y)) (sym sum.is) (rounded-finite binary32 sum.size (den p) 0 (den_pos p) zero-le least most))
