-- The value of a bit pattern is `units` of the smallest value, so patterns are in the order of the values; and the pattern of a value
-- above zero lies below the infinity's. The fields of a pattern are taken apart once, and both follow. Assumes nothing.
use mathlib.Core.Path.{◌≡◌, refl, sym, ap, ◌∙◌, subst}
use mathlib.Core.Logic.{inl, inr}
use Prim.Native.Nat.{ℕ, zero, suc, ◌+◌, ◌-◌, ◌*◌, ◌/◌, ◌%◌, ◌^◌, ◌≤◌, ◌<◌}
use native.Mathlib.Nat.{le_of_suc-le-suc, lt_of_le_of_lt, lt_of_not-le, not-le_of_lt, eq-zero-or-pos, zero-mul, mul-one, mul-pos, mul-le-mul_right, le_of_mul-le-mul_right}
use native.Mathlib.Omega.{arith}
use mathlib.Core.Bool.{Bool, true, false, not, ◌&&◌, cond}
use lib.IntN.{pos}
use lib.Dec.{T, leb, ltb, eqb, ltb→lt, nltb→le, nleb→lt, eqb→eq, lit<}
use lib.Arith.{le→nltb, lt→nleb}
use lib.Pow.{pow_pos}
use lib.Ieee.{Float, nan, inf, fin, binary32, binary64, up, down, le, odd, of_fields, of_bits, to_bits, fits, is_nan, nan_bits}
use lib.Ieee.Fits.{down_pos, and_i, fits_widens}
use lib.Ieee.Exact.{HasValue, odd_sign}
use lib.Ieee.Order.{transfer, le_of_values}
use lib.Ieee.Scale.{finite}
use lib.Ieee.Positive.{num, den, positive, positive-finite, value→cross}
use lib.Ieee.Bits.{is_false, of_bits-to_bits, to_bits-lt, nan_bits_above}
use Rattle.rules.specs.Floats.{zero32}
use Rattle.rules.specs.NearestValue.{units}
use Rattle.texel.proofs.Range.{sgn, le→, le-self, positive-num}
use Rattle.texel.proofs.FromZero.{zero-or-above}
use Rattle.texel.proofs.Same.{unique}
use Rattle.texel.proofs.Units.{units-low, units-high, units-le, units_lt}

-- ---- the value of a pattern
-- by the field and the digits
abbrev field_units : ℕ → ℕ → ℕ
field_units zero t = t
field_units (suc x) t = (8388608 + t) * 2 ^ x

fields_value : (x t : ℕ) → x < 255 → HasValue (of_fields binary32 false x t) false (field_units x t) (2 ^ 149)
unfolding of_fields
fields_value zero t h = subst (λ (z : ℕ). HasValue (odd 24 false t 0 149) false z (2 ^ 149)) (mul-one t) (odd_sign 24 false t 0 149)
fields_value (suc x) t h = go (eqb (suc x) 255) (eqb→eq (suc x) 255)
  where
    go : (k : Bool) → (T k → suc x ≡ 255) → HasValue (cond k (cond (eqb t 0) (inf false) nan) (odd 24 false (8388608 + t) x 149)) false ((8388608 + t) * 2 ^ x) (2 ^ 149)
    go true e = absurd (clash x h (e tt))
      where
        clash : (x : ℕ) → suc x < 255 → suc x ≡ 255 → ⊥
        clash x h e = omega arith
    go false e = odd_sign 24 false (8388608 + t) x 149

units-fields : (p : ℕ) → field_units (p / 8388608) (p % 8388608) ≡ units p
units-fields p = go (ltb p 8388608) (ltb→lt p 8388608) (nltb→le p 8388608)
  where
    low : (p : ℕ) → p < 8388608 → field_units (p / 8388608) (p % 8388608) ≡ p
    low p h =
        let q : p / 8388608 ≡ 0 = omega arith in
        let r : p % 8388608 ≡ p = omega arith in
        ap (λ (z : ℕ). field_units z (p % 8388608)) q ∙ r

    high : (p : ℕ) → 8388608 ≤ p → field_units (p / 8388608) (p % 8388608) ≡ (8388608 + p % 8388608) * 2 ^ (p / 8388608 - 1)
    high p h = let q : p / 8388608 ≡ suc (p / 8388608 - 1) = omega arith in ap (λ (z : ℕ). field_units z (p % 8388608)) q

    go : (k : Bool) → (T k → p < 8388608) → (T (not k) → 8388608 ≤ p) → field_units (p / 8388608) (p % 8388608) ≡ units p
    go true h g = low p (h tt) ∙ sym (units-low p (h tt))
    go false h g = high p (g tt) ∙ sym (units-high p (g tt))

pub pattern-value : (p : ℕ) → p < 2139095040 → HasValue (of_bits binary32 p) false (units p) (2 ^ 149)
unfolding of_bits
pattern-value p h =
    let s : leb 2147483648 p ≡ false = is_false (leb 2147483648 p) (lt→nleb 2147483648 p (omega arith)) in
    let f : p % 2147483648 / 8388608 ≡ p / 8388608 = omega arith in
    rw (s, f) (subst (λ (z : ℕ). HasValue (of_fields binary32 false (p / 8388608) (p % 8388608)) false z (2 ^ 149)) (units-fields p) (fields_value (p / 8388608) (p % 8388608) (omega arith)))

pub pattern-le : (a b : ℕ) → a ≤ b → b < 2139095040 → T (le (of_bits binary32 a) (of_bits binary32 b))
pattern-le a b h l =
    le_of_values (of_bits binary32 a) (of_bits binary32 b) (units a) (2 ^ 149) (units b) (2 ^ 149) (pow_pos 149) (pow_pos 149) (pattern-value a (lt_of_le_of_lt h l)) (pattern-value b l)
    (mul-le-mul_right (2 ^ 149) (units-le a b h))

pub pattern-finite : (p : ℕ) → p < 2139095040 → T (finite (of_bits binary32 p))
pattern-finite p h = go (of_bits binary32 p) (pattern-value p h)
  where
    go : (x : Float) → HasValue x false (units p) (2 ^ 149) → T (finite x)
    go nan v = absurd v
    go (inf s) v = absurd v
    go (fin s m e) v = tt

-- the order of two values is that of their patterns
pub le-pattern : (a b : ℕ) → a < 2139095040 → b < 2139095040 → T (le (of_bits binary32 a) (of_bits binary32 b)) → a ≤ b
le-pattern a b h l t = le_of_suc-le-suc (lt_of_not-le (λ (g : b < a). not-le_of_lt (units_lt b a g) (ordered (of_bits binary32 a) (of_bits binary32 b) (pattern-value a h) (pattern-value b l) t)))
  where
    ordered : (x y : Float) → HasValue x false (units a) (2 ^ 149) → HasValue y false (units b) (2 ^ 149) → T (le x y) → units a ≤ units b
    ordered nan y v w t = absurd v
    ordered (inf s) y v w t = absurd v
    ordered (fin s m e) nan v w t = absurd w
    ordered (fin s m e) (inf u) v w t = absurd w
    ordered (fin true m e) (fin u n d) v w t = absurd (subst T v.0 tt)
    ordered (fin false m e) (fin true n d) v w t = absurd (subst T w.0 tt)
    ordered (fin false m e) (fin false n d) v w t =
        let k = le→ (fin false m e) (fin false n d) tt tt t in
        le_of_mul-le-mul_right
        (transfer (units a) (units b) (2 ^ 149) (2 ^ 149) (m * up e) (n * up d) (down e) (down d) (down_pos e) (down_pos d) (sym v.1) (sym w.1) (omega arith))
        (pow_pos 149)

-- ---- the pattern of a value above zero
odd-negative : (d q k l : ℕ) → T (positive (odd d true q k l)) → ⊥
unfolding odd
odd-negative d zero k l t = t
odd-negative d (suc q) k l t = t

pick-none : (j : Bool) (s : Bool) → T (positive (cond j (inf s) nan)) → ⊥
pick-none true s t = t
pick-none false s t = t

negative : (x t : ℕ) → T (positive (of_fields binary32 true x t)) → ⊥
unfolding of_fields
negative zero t h = odd-negative 24 t 0 149 h
negative (suc x) t h = go (eqb (suc x) 255) h
  where
    go : (j : Bool) → T (positive (cond j (cond (eqb t 0) (inf true) nan) (odd 24 true (8388608 + t) x 149))) → ⊥
    go true h = pick-none (eqb t 0) true h
    go false h = odd-negative 24 (8388608 + t) x 149 h

all_ones : (t : ℕ) → T (positive (of_fields binary32 false 255 t)) → ⊥
unfolding of_fields
all_ones t h = pick-none (eqb t 0) false h

pub positive-below : (x : Float) → T (fits binary32 x) → T (positive x) → to_bits binary32 x < 2139095040
unfolding of_bits
positive-below x f h =
    let b = to_bits binary32 x in
    go b (to_bits-lt binary32 x f) (subst (λ (z : Float). T (positive z)) (sym (of_bits-to_bits binary32 x f)) h)
  where
    step : (b : ℕ) → b < 4294967296 → (j : Bool) → (T (not j) → b < 2147483648) → (k : Bool) → (T k → b < 2139095040) → (T (not k) → 2139095040 ≤ b)
        → T (positive (of_fields binary32 j (b % 2147483648 / 8388608) (b % 8388608))) → b < 2139095040
    step b l true n k y g t = absurd (negative (b % 2147483648 / 8388608) (b % 8388608) t)
    step b l false n true y g t = y tt
    step b l false n false y g t =
        let lo = g tt in
        let hi = n tt in
        let e : b % 2147483648 / 8388608 ≡ 255 = omega arith in
        absurd (all_ones (b % 8388608) (subst (λ (z : ℕ). T (positive (of_fields binary32 false z (b % 8388608)))) e t))

    go : (b : ℕ) → b < 4294967296 → T (positive (of_bits binary32 b)) → b < 2139095040
    go b l t = step b l (leb 2147483648 b) (nleb→lt 2147483648 b) (ltb b 2139095040) (ltb→lt b 2139095040) (nltb→le b 2139095040) t

pub below_no_nan : (p : ℕ) → p < 2139095040 → T (not (nan_bits binary32 p))
below_no_nan p h = rw (nan_bits_above binary32 p) (le→nltb 2139095040 (p % 2147483648) (omega arith))

-- the fraction of x is its pattern's
pub cross : (x : Float) → T (fits binary32 x) → T (positive x) → num x * 2 ^ 149 ≡ units (to_bits binary32 x) * den x
cross x f h = value→cross x (units (to_bits binary32 x)) (2 ^ 149) (subst (λ (z : Float). HasValue z false (units (to_bits binary32 x)) (2 ^ 149)) (of_bits-to_bits binary32 x f) (pattern-value (to_bits binary32 x) (positive-below x f h)))

pub positive-bits : (x : Float) → T (fits binary32 x) → T (positive x) → 0 < to_bits binary32 x
positive-bits x f h = elim (eq-zero-or-pos (to_bits binary32 x)) [ inl z ↦ absurd (zero-value (subst (λ (b : ℕ). num x * 2 ^ 149 ≡ units b * den x) z (cross x f h))) | inr p ↦ p ]
  where
    zero-value : num x * 2 ^ 149 ≡ units 0 * den x → ⊥
    zero-value e = none (num x * 2 ^ 149) (units 0 * den x) (mul-pos (positive-num x h) (pow_pos 149)) e (ap (λ (k : ℕ). k * den x) (units-low 0 (lit< tt)) ∙ zero-mul (den x))
      where
        none : (a b : ℕ) → 0 < a → a ≡ b → b ≡ 0 → ⊥
        none a b p e z = omega arith

pub no_nan : (x : Float) → T (finite x) → T (not (is_nan x))
unfolding is_nan
no_nan nan t = t
no_nan (inf s) t = tt
no_nan (fin s m e) t = tt

-- what a cast from f32 to f64 asks
pub widens : (x : Float) → T (fits binary32 x) → T (finite x) → T (fits binary64 x && not (is_nan x))
widens x f g = and_i (fits binary64 x) (not (is_nan x)) (fits_widens x f) (no_nan x g)

-- ---- the pattern of an x from zero up, without the sign that -0 has, is that of an equal value
pub record Unsigned (x : Float) : Type 0 where
  pub small : to_bits binary32 x % 2147483648 < 2139095040
  pub under : T (le (of_bits binary32 (to_bits binary32 x % 2147483648)) x)
  pub over : T (le x (of_bits binary32 (to_bits binary32 x % 2147483648)))

zero-unsigned : (s : Bool) → Unsigned (fin s 0 (pos 0))
unfolding to_bits of_bits le
zero-unsigned true = record { small = lit< tt; under = tt; over = tt }
zero-unsigned false = record { small = lit< tt; under = tt; over = tt }

zero_is : (x : Float) → T (fits binary32 x) → T (finite x) → num x ≡ 0 → x ≡ fin (sgn x) 0 (pos 0)
unfolding fits
zero_is x f g z = unique binary32 x (fin (sgn x) 0 (pos 0)) (sgn x) 0 1 (lit< tt) f (held (sgn x)) (value x g z) (refl, refl)
  where
    held : (s : Bool) → T (fits binary32 (fin s 0 (pos 0)))
    held s = tt

    value : (x : Float) → T (finite x) → num x ≡ 0 → HasValue x (sgn x) 0 1
    value nan g z = absurd g
    value (inf s) g z = absurd g
    value (fin s m e) g z = (refl, mul-one (m * up e) ∙ z ∙ sym (zero-mul (down e)))

positive-unsigned : (x : Float) → T (fits binary32 x) → T (positive x) → Unsigned x
positive-unsigned x f h =
    let b = positive-below x f h in
    let g = positive-finite x h in
    let e : to_bits binary32 x % 2147483648 ≡ to_bits binary32 x = omega arith in
    let i : of_bits binary32 (to_bits binary32 x % 2147483648) ≡ x = ap (of_bits binary32) e ∙ of_bits-to_bits binary32 x f in
    record { small = omega arith; under = subst (λ (y : Float). T (le y x)) (sym i) (le-self x g); over = subst (λ (y : Float). T (le x y)) (sym i) (le-self x g) }

pub unsigned : (x : Float) → T (fits binary32 x) → T (finite x) → T (le zero32 x) → Unsigned x
unsigned x f g h = elim (zero-or-above x g h) [ inl z ↦ subst Unsigned (sym (zero_is x f g z)) (zero-unsigned (sgn x)) | inr p ↦ positive-unsigned x f p ]
