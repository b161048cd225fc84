-- Whole numbers up to 2^24 as f32 numbers: products, differences and the smaller of two are the whole ones, since nothing is
-- rounded there. `HasValue x s n 1` says that x is ±n, negative where s is true. Assumes nothing.
use mathlib.Core.Path.{◌≡◌, refl, sym, ap, ◌∙◌, subst, subst₂}
use mathlib.Core.Logic.{inl, inr}
use mathlib.Core.Bool.{Bool, true, false, cond}
use Prim.Native.Nat.{ℕ, ◌+◌, ◌-◌, ◌*◌, ◌/◌, ◌≤◌, ◌<◌, min}
use native.Mathlib.Nat.{lt_irrefl, eq-zero-or-pos, zero-mul, mul-one, mul-pos, mul_assoc, mul_right_comm, mul-mul-mul_comm, add-mul, mul-le-mul_right, le_of_mul-le-mul_right, mul-div_cancel}
use native.Mathlib.Omega.{arith}
use lib.IntN.{ℤ}
use lib.Dec.{T, ltb}
use lib.Ieee.{Float, nan, inf, fin, binary32, up, down, unlike, round, sum, neg, add, sub, mul, div, le, lt, to_unsigned}
use lib.Ieee.Fits.{down_pos}
use lib.Ieee.Exact.{HasValue}
use lib.Ieee.Scale.{round_same}
use lib.Ieee.Positive.{first_pos}
use borrow.Author.Tests.{le-ltb, ltb-true, ltb-false, ne_eqb}
use Rattle.texel.proofs.Range.{le→}
use Rattle.texel.proofs.Wholes.{as-whole, left, right, minus, lt-whole}

-- ---- a value m * 2^e beside p / c
pub below-value : (m : ℕ) (e : ℤ) (y : Float) (p c : ℕ) → HasValue y false p c → T (le (fin false m e) y) → m * up e * c ≤ p * down e
below-value m e nan p c v h = absurd v
below-value m e (inf s) p c v h = absurd v
below-value m e (fin true k d) p c v h = absurd (subst T v.0 tt)
below-value m e (fin false k d) p c v h =
    let l = le→ (fin false m e) (fin false k d) tt tt h in
    cross (m * up e) (down e) (k * up d) (down d) (down_pos d) v.1 (omega arith)
  where
    cross : (A D K d : ℕ) → 0 < d → K * c ≡ p * d → A * d ≤ K * D → A * c ≤ p * D
    cross A D K d h v l =
        le_of_mul-le-mul_right
        (subst₂ ◌≤◌ (mul_right_comm A d c) (mul_right_comm K D c ∙ ap (λ (z : ℕ). z * D) v ∙ mul_right_comm p d D) (mul-le-mul_right c l))
        h

pub above-value : (m : ℕ) (e : ℤ) (y : Float) (p c : ℕ) → HasValue y false p c → T (le y (fin false m e)) → p * down e ≤ m * up e * c
above-value m e nan p c v h = absurd v
above-value m e (inf s) p c v h = absurd v
above-value m e (fin true k d) p c v h = absurd (subst T v.0 tt)
above-value m e (fin false k d) p c v h =
    let l = le→ (fin false k d) (fin false m e) tt tt h in
    cross (m * up e) (down e) (k * up d) (down d) (down_pos d) v.1 (omega arith)
  where
    cross : (A D K d : ℕ) → 0 < d → K * c ≡ p * d → K * D ≤ A * d → p * D ≤ A * c
    cross A D K d h v l =
        le_of_mul-le-mul_right
        (subst₂ ◌≤◌ (mul_right_comm K D c ∙ ap (λ (z : ℕ). z * D) v ∙ mul_right_comm p d D) (mul_right_comm A d c) (mul-le-mul_right c l))
        h

pub neg_value : (y : Float) (p c : ℕ) → HasValue y true p c → HasValue (neg y) false p c
unfolding neg
neg_value nan p c v = absurd v
neg_value (inf s) p c v = absurd v
neg_value (fin false k d) p c v = absurd (subst T (sym v.0) tt)
neg_value (fin true k d) p c v = (refl, v.1)

-- no value from 0 up is at most a negative one
pub never-below : (m : ℕ) (e : ℤ) (y : Float) (p c : ℕ) → 0 < p → HasValue y true p c → T (le (fin false m e) y) → ⊥
never-below m e nan p c z v h = absurd v
never-below m e (inf s) p c z v h = absurd v
never-below m e (fin false k d) p c z v h = absurd (subst T (sym v.0) tt)
never-below m e (fin true k d) p c z v h =
    let l = le→ (fin false m e) (fin true k d) tt tt h in
    none (k * up d) (m * up e * down d) (down e) (first_pos (k * up d) c (subst (λ (n : ℕ). 0 < n) (sym v.1) (mul-pos z (down_pos d)))) (down_pos e) (omega arith)
  where
    none : (K X D : ℕ) → 0 < K → 0 < D → X + K * D ≤ 0 → ⊥
    none K X D p q l = let r = mul-pos p q in omega arith

-- and a value up to a -0 is 0
pub only_zero : (m : ℕ) (e : ℤ) (y : Float) (p c : ℕ) → 0 < c → HasValue y false p c → T (le y (fin true m e)) → (p ≡ 0) × (m * up e ≡ 0)
only_zero m e nan p c z v h = absurd v
only_zero m e (inf s) p c z v h = absurd v
only_zero m e (fin true k d) p c z v h = absurd (subst T v.0 tt)
only_zero m e (fin false k d) p c z v h =
    let l = le→ (fin false k d) (fin true m e) tt tt h in
    (nought p (down d) (down_pos d) (sym v.1 ∙ ap (λ (n : ℕ). n * c) (nought (k * up d) (down e) (down_pos e) (omega arith)) ∙ zero-mul c), nought (m * up e) (down d) (down_pos d) (omega arith))
  where
    nought : (a b : ℕ) → 0 < b → a * b ≡ 0 → a ≡ 0
    nought a b h e = elim (eq-zero-or-pos a) [ inl z ↦ z | inr q ↦ absurd (lt_irrefl 0 (subst (λ (n : ℕ). 0 < n) e (mul-pos q h))) ]

unlike-false : (s : Bool) → unlike s false ≡ s
unlike-false true = refl
unlike-false false = refl

-- ±a * b is ±(a * b)
pub mul-whole : (x y : Float) (s : Bool) (a b : ℕ) → HasValue x s a 1 → HasValue y false b 1 → a * b ≤ 16777216 → HasValue (mul binary32 x y) s (a * b) 1
unfolding mul
mul-whole nan y s a b v w h = absurd v
mul-whole (inf t) y s a b v w h = absurd v
mul-whole (fin t m e) nan s a b v w h = absurd w
mul-whole (fin t m e) (inf u) s a b v w h = absurd w
mul-whole (fin t m e) (fin true k d) s a b v w h = absurd (subst T w.0 tt)
mul-whole (fin t m e) (fin false k d) s a b v w h =
    rw (unlike-false t, v.0)
    (as-whole binary32 s (m * up e * (k * up d)) (down e * down d) (a * b) (mul-pos (down_pos e) (down_pos d)) (times (m * up e) (k * up d) (down e) (down d) v.1 w.1) h)
  where
    times : (A B D E : ℕ) → A * 1 ≡ a * D → B * 1 ≡ b * E → A * B ≡ a * b * (D * E)
    times A B D E p q = ap (λ (z : ℕ). z * B) (sym (mul-one A) ∙ p) ∙ ap (λ (z : ℕ). a * D * z) (sym (mul-one B) ∙ q) ∙ mul-mul-mul_comm a D b E

-- a - b, for b up to a
pub sub-whole : (x y : Float) (a b : ℕ) → HasValue x false a 1 → HasValue y false b 1 → b ≤ a → a ≤ 16777216 → HasValue (sub binary32 x y) false (a - b) 1
unfolding sub add sum neg
sub-whole nan y a b v w h l = absurd v
sub-whole (inf t) y a b v w h l = absurd v
sub-whole (fin true m e) y a b v w h l = absurd (subst T v.0 tt)
sub-whole (fin false m e) nan a b v w h l = absurd w
sub-whole (fin false m e) (inf t) a b v w h l = absurd w
sub-whole (fin false m e) (fin true k d) a b v w h l = absurd (subst T w.0 tt)
sub-whole (fin false m e) (fin false k d) a b v w h l =
    let C = down e * down d in
    rw (left a (m * up e) (down e) (down d) v.1, right b (k * up d) (down e) (down d) w.1, le-ltb (a * C) (b * C) (mul-le-mul_right C h))
    (as-whole binary32 false (a * C - b * C) C (a - b) (mul-pos (down_pos e) (down_pos d)) (minus a b C h) (omega arith))

-- -a - -b, for a up to b
pub sub-below : (x y : Float) (a b : ℕ) → HasValue x true a 1 → HasValue y true b 1 → a ≤ b → b ≤ 16777216 → HasValue (sub binary32 x y) false (b - a) 1
unfolding sub add sum neg
sub-below nan y a b v w h l = absurd v
sub-below (inf t) y a b v w h l = absurd v
sub-below (fin false m e) y a b v w h l = absurd (subst T (sym v.0) tt)
sub-below (fin true m e) nan a b v w h l = absurd w
sub-below (fin true m e) (inf t) a b v w h l = absurd w
sub-below (fin true m e) (fin false k d) a b v w h l = absurd (subst T (sym w.0) tt)
sub-below (fin true m e) (fin true k d) a b v w h l =
    let C = down e * down d in
    rw (left a (m * up e) (down e) (down d) v.1, right b (k * up d) (down e) (down d) w.1, le-ltb (b * C) (a * C) (mul-le-mul_right C h))
    (go (ltb (a * C) (b * C)) refl)
  where
    go : (t : Bool) → ltb (a * (down e * down d)) (b * (down e * down d)) ≡ t
        → HasValue (cond t (round binary32 false (b * (down e * down d) - a * (down e * down d)) (down e * down d)) (round binary32 false (a * (down e * down d) - b * (down e * down d)) (down e * down d))) false (b - a) 1
    go true f = as-whole binary32 false _ (down e * down d) (b - a) (mul-pos (down_pos e) (down_pos d)) (minus b a (down e * down d) h) (omega arith)
    go false f = as-whole binary32 false _ (down e * down d) (b - a) (mul-pos (down_pos e) (down_pos d)) (same (a * (down e * down d)) (b * (down e * down d)) ((b - a) * (down e * down d)) (ltb-false _ _ f) (mul-le-mul_right (down e * down d) h) (minus b a (down e * down d) h)) (omega arith)
      where
        same : (x y z : ℕ) → y ≤ x → x ≤ y → y - x ≡ z → x - y ≡ z
        same x y z p q r = omega arith

-- -a - b
pub sub-apart : (x y : Float) (a b : ℕ) → HasValue x true a 1 → HasValue y false b 1 → a + b ≤ 16777216 → HasValue (sub binary32 x y) true (a + b) 1
unfolding sub add sum neg
sub-apart nan y a b v w h = absurd v
sub-apart (inf t) y a b v w h = absurd v
sub-apart (fin false m e) y a b v w h = absurd (subst T (sym v.0) tt)
sub-apart (fin true m e) nan a b v w h = absurd w
sub-apart (fin true m e) (inf t) a b v w h = absurd w
sub-apart (fin true m e) (fin true k d) a b v w h = absurd (subst T w.0 tt)
sub-apart (fin true m e) (fin false k d) a b v w h =
    let C = down e * down d in
    rw (left a (m * up e) (down e) (down d) v.1, right b (k * up d) (down e) (down d) w.1)
    (as-whole binary32 true (a * C + b * C) C (a + b) (mul-pos (down_pos e) (down_pos d)) (sym (add-mul a b C)) h)

-- ±a / b is rounded from the fraction itself
pub div-whole : (x y : Float) (s : Bool) (a b : ℕ) → HasValue x s a 1 → HasValue y false b 1 → 0 < b → div binary32 x y ≡ round binary32 s a b
unfolding div
div-whole nan y s a b v w h = absurd v
div-whole (inf t) y s a b v w h = absurd v
div-whole (fin t m e) nan s a b v w h = absurd w
div-whole (fin t m e) (inf u) s a b v w h = absurd w
div-whole (fin t m e) (fin true k d) s a b v w h = absurd (subst T w.0 tt)
div-whole (fin t m e) (fin false k d) s a b v w h =
    let C = down e * down d in
    let K : 0 < k * up d * down e = subst (λ (z : ℕ). 0 < z) (sym (right b (k * up d) (down e) (down d) w.1)) (mul-pos h (mul-pos (down_pos e) (down_pos d))) in
    let n : 0 < k = first_pos k (up d) (first_pos (k * up d) (down e) K) in
    rw (ne_eqb k 0 (some k n), unlike-false t, v.0)
    (round_same binary32 s (m * up e * down d) (k * up d * down e) a b K h
    (ap (λ (z : ℕ). z * b) (left a (m * up e) (down e) (down d) v.1) ∙ turn a b C ∙ ap (λ (z : ℕ). a * z) (sym (right b (k * up d) (down e) (down d) w.1))))
  where
    some : (k : ℕ) → 0 < k → k ≡ 0 → ⊥
    some k h e = omega arith

    turn : (a b C : ℕ) → a * C * b ≡ a * (b * C)
    turn a b C = mul_right_comm a C b ∙ mul_assoc a b C

-- the smaller of two whole values
pub least-whole : (x y : Float) (a b : ℕ) → HasValue x false a 1 → HasValue y false b 1 → HasValue (cond (lt x y) x y) false (min a b) 1
least-whole x y a b v w = rw (lt-whole x y a b v w) (go (ltb a b) refl)
  where
    go : (t : Bool) → ltb a b ≡ t → HasValue (cond t x y) false (min a b) 1
    go true e = subst (λ (n : ℕ). HasValue x false n 1) (let l = ltb-true a b e in omega arith) v
    go false e = subst (λ (n : ℕ). HasValue y false n 1) (let l = ltb-false a b e in omega arith) w

-- a whole value back as a whole number
pub cut-whole : (x : Float) (a : ℕ) → HasValue x false a 1 → a ≤ 16777216 → to_unsigned 32 x ≡ a
unfolding to_unsigned
cut-whole nan a v h = absurd v
cut-whole (inf s) a v h = absurd v
cut-whole (fin true m e) a v h = absurd (subst T v.0 tt)
cut-whole (fin false m e) a v h =
    let q : m * up e / down e ≡ a = ap (λ (z : ℕ). z / down e) (sym (mul-one (m * up e)) ∙ v.1) ∙ mul-div_cancel a (down_pos e) in
    omega arith
