-- The root of a d from 1 to 3, by its pattern. With n = d * 2^46 and a whole r of 24 digits, r*r - r < n ≤ r*r + r says that r is nearest to the
-- root of n; so r has the digits of the root of d, and 126 is its exponent's field less one. Assumes nothing.
use mathlib.Core.Path.{◌≡◌, refl, sym, ap, ◌∙◌, subst}
use mathlib.Core.Logic.{◌⊎◌, inl, inr}
use Prim.Native.Nat.{ℕ, suc, ◌+◌, ◌-◌, ◌*◌, ◌/◌, ◌%◌, ◌^◌, ◌≤◌, ◌<◌}
use native.Mathlib.Nat.{eq-or-lt_of_le, mul-one, mul_assoc, mul_comm, add-mul, mul-add, add_comm}
use native.Mathlib.Omega.{arith}
use lib.Dec.{T, lit<}
use lib.Pow.{pow-add}
use lib.Ieee.{Float, binary32, le, of_bits, to_bits, fits}
use lib.Ieee.Bits.{of_bits-to_bits}
use lib.Ieee.Positive.{positive, between}
use Rattle.rules.specs.Floats.{Between, zero32, one32, largest}
use Rattle.rules.specs.NearestValue.{units, nearest_root}
use Rattle.rules.specs.Irradiance.{three32}
use Rattle.rules.specs.Root.{sqrt_of}
use Rattle.texel.specs.Digits.{Rounded}
use Rattle.texel.proofs.Magnitudes.{wider}
use Rattle.texel.proofs.Units.{units-high}
use Rattle.texel.proofs.Patterns.{positive-below, le-pattern}
use Rattle.texel.proofs.RootDigits.{near-root}
use Rattle.texel.proofs.RootRule.{root-of-pattern}

-- ---- the test

square : (q : ℕ) → (2 * q + 1) * (2 * q + 1) ≡ 4 * (q * q + q) + 1
square q =
    let a = add-mul (2 * q) 1 (2 * q + 1) in
    let b = mul-add (2 * q) (2 * q) 1 in
    let c = mul_assoc 2 q (2 * q) in
    let d = mul_comm q (2 * q) in
    let e = mul_assoc 2 q q in
    omega arith

pub rounded : (n r : ℕ) → 8388608 ≤ r → r < 16777216 → r * r - r < n → n ≤ r * r + r → Rounded n r
rounded n r l h under over = record {
  low = l;
  high = omega arith;
  above = rw (odd r l, square (r - 1)) (let s = step r l in omega arith);
  below = rw (square r) (omega arith);
}
  where
    odd : (r : ℕ) → 8388608 ≤ r → 2 * r - 1 ≡ 2 * (r - 1) + 1
    odd r l = omega arith

    step : (r : ℕ) → 8388608 ≤ r → r * r - r ≡ (r - 1) * (r - 1) + (r - 1)
    step r l =
        let a = add-mul (r - 1) 1 r in
        let b = mul-add (r - 1) (r - 1) 1 in
        let c : (r - 1 + 1) * r ≡ r * r = ap (λ (z : ℕ). z * r) (back r l) in
        let d : (r - 1) * (r - 1 + 1) ≡ (r - 1) * r = ap (λ (z : ℕ). (r - 1) * z) (back r l) in
        omega arith
      where
        back : (r : ℕ) → 8388608 ≤ r → r - 1 + 1 ≡ r
        back r l = omega arith

-- ---- the pattern of d

pub record Pattern (b : ℕ) : Type 0 where
  pub low : 1065353216 ≤ b
  pub high : b ≤ 1077936128

pub above_zero : (d : Float) → Between one32 d three32 → T (positive d)
unfolding of_bits
above_zero d b = between one32 d three32 tt tt b.low b.high

pub pattern-in : (d : Float) → T (fits binary32 d) → Between one32 d three32 → Pattern (to_bits binary32 d)
pattern-in d f b =
    let small = positive-below d f (above_zero d b) in
    let same = of_bits-to_bits binary32 d f in
    record {
      low = le-pattern 1065353216 (to_bits binary32 d) (lit< tt) small (subst (λ (x : Float). T (le one32 x)) (sym same) b.low);
      high = le-pattern (to_bits binary32 d) 1077936128 small (lit< tt) (subst (λ (x : Float). T (le x three32)) (sym same) b.high);
    }

pub from_zero : (d : Float) → Between one32 d three32 → Between zero32 d largest
unfolding of_bits le
from_zero d b = wider one32 d three32 zero32 largest tt tt tt tt tt tt b

-- ---- the root by its digits

-- the exponent's field is 127, where d is below 2, or 128
field : (b : ℕ) → Pattern b → (b / 8388608 ≡ 127) ⊎ (b / 8388608 ≡ 128)
field b p = go (b / 8388608) (omega arith) (omega arith)
  where
    go : (x : ℕ) → 127 ≤ x → x ≤ 128 → (x ≡ 127) ⊎ (x ≡ 128)
    go x l h = elim (eq-or-lt_of_le l) [ inl e ↦ inl (sym e) | inr g ↦ inr (omega arith) ]

-- d * 2^46
abbrev pub number : ℕ → ℕ
number b = (b % 8388608 + 8388608) * 8388608 * (b / 8388608 - 126)

low-number : (b : ℕ) → b / 8388608 ≡ 127 → number b ≡ (b % 8388608 + 8388608) * 2 ^ 23
low-number b e = ap (λ (z : ℕ). (b % 8388608 + 8388608) * 8388608 * (z - 126)) e ∙ mul-one ((b % 8388608 + 8388608) * 8388608)

high-number : (b : ℕ) → b / 8388608 ≡ 128 → number b ≡ (b % 8388608 + 8388608) * 2 ^ 24
high-number b e = ap (λ (z : ℕ). (b % 8388608 + 8388608) * 8388608 * (z - 126)) e ∙ mul_assoc (b % 8388608 + 8388608) 8388608 2

apart : (b x : ℕ) → Pattern b → b / 8388608 ≡ suc x → units b * 2 ^ 24 ≡ (b % 8388608 + 8388608) * 2 ^ (x + 24)
apart b x p e =
    ap (λ (z : ℕ). z * 2 ^ 24) (units-high b (omega arith)) ∙ mul_assoc (8388608 + b % 8388608) (2 ^ (b / 8388608 - 1)) (2 ^ 24)
    ∙ ap (λ (z : ℕ). (8388608 + b % 8388608) * z) (sym (pow-add 2 (b / 8388608 - 1) 24))
    ∙ ap (λ (z : ℕ). (8388608 + b % 8388608) * 2 ^ (z + 24)) (one_less (b / 8388608) x e) ∙ ap (λ (z : ℕ). z * 2 ^ (x + 24)) (add_comm 8388608 (b % 8388608))
  where
    one_less : (q x : ℕ) → q ≡ suc x → q - 1 ≡ x
    one_less q x e = omega arith

pub number_in : (b : ℕ) → Pattern b → (70368744177664 ≤ number b) × (number b < 281474976710656)
number_in b p = go (number b) (by_field b p)
  where
    go : (n : ℕ) → (n ≡ (b % 8388608 + 8388608) * 2 ^ 23) ⊎ (n ≡ (b % 8388608 + 8388608) * 2 ^ 24) → (70368744177664 ≤ n) × (n < 281474976710656)
    go n (inl e) = (omega arith, omega arith)
    go n (inr e) = (omega arith, omega arith)

    by_field : (b : ℕ) → Pattern b → (number b ≡ (b % 8388608 + 8388608) * 2 ^ 23) ⊎ (number b ≡ (b % 8388608 + 8388608) * 2 ^ 24)
    by_field b p = elim (field b p) [ inl e ↦ inl (low-number b e) | inr e ↦ inr (high-number b e) ]

pub near-pattern : (b r : ℕ) → Pattern b → Rounded (number b) r → T (nearest_root 2 (units b) (2 ^ 149) (1056964608 + r))
near-pattern b r p d = elim (field b p) [
  | inl e ↦ near-root (units b) (b % 8388608 + 8388608) 150 23 126 r (apart b 126 p e) refl (omega arith) (subst (λ (n : ℕ). Rounded n r) (low-number b e) d)
  | inr e ↦ near-root (units b) (b % 8388608 + 8388608) 151 24 126 r (apart b 127 p e) refl (omega arith) (subst (λ (n : ℕ). Rounded n r) (high-number b e) d)
]

pub root-settled : (d : Float) (r : ℕ) → T (fits binary32 d) → Between one32 d three32 → Rounded (number (to_bits binary32 d)) r → of_bits binary32 (1056964608 + r) ≡ sqrt_of d
root-settled d r f b k =
    root-of-pattern d (1056964608 + r) (from_zero d b) f (above_zero d b) (near-pattern (to_bits binary32 d) r (pattern-in d f b) k) (let h = k.high in omega arith)
