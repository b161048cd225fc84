-- Integers as floats of a format f. Up to 2^prec each has a float of its own, which `of_int` gives; a float of that value is that float, and
-- the sum of two is the float of the sum, since nothing is rounded there. Assumes nothing.
use mathlib.Core.Path.{◌≡◌, refl, sym, ap, ◌∙◌, subst}
use mathlib.Core.Bool.{Bool, true, false, cond}
use Prim.Native.Nat.{ℕ, suc, ◌+◌, ◌-◌, ◌*◌, ◌/◌, ◌^◌, ◌≤◌, ◌<◌}
use native.Mathlib.Nat.{zero-lt-suc, mul-one, mul-pos, mul_assoc, mul_right_comm, add-mul, mul-le-mul_right, mul-lt-mul_of_pos_right, mul-div_cancel}
use native.Mathlib.Omega.{arith}
use lib.IntN.{ℤ, pos, negsuc, neg_ℤ, nat_abs, ◌+ℤ◌}
use lib.Dec.{T, ltb}
use lib.Arith.{digits_div}
use lib.Ieee.{Float, nan, inf, fin, Format, binary32, binary64, prec, up, down, round, sum, neg, add, sub, lt, of_int, fits}
use lib.Ieee.Fits.{down_pos, add-fits, of_int-fits, fits_widens}
use lib.Ieee.Exact.{HasValue}
use lib.Ieee.Back.{round_whole, whole_unique}
use lib.Ieee.Scale.{finite, round_same}
use borrow.Author.Tests.{lt-ltb, le-ltb, ltb-true, ltb-false}
use Rattle.rules.specs.Whole.{floor_of}

-- whether an integer is below zero
abbrev pub below-zero : ℤ → Bool
below-zero (pos n) = false
below-zero (negsuc n) = true

-- x is the integer z
abbrev pub IsInt : Float → ℤ → Type 0
IsInt x z = HasValue x (below-zero z) (nat_abs z) 1

pub int_is : (f : Format) (z : ℤ) → nat_abs z ≤ 2 ^ prec f → IsInt (of_int f z) z
unfolding of_int
int_is f (pos n) h = round_whole f false n h
int_is f (negsuc n) h = round_whole f true (suc n) h

pub is-int : (f : Format) (x : Float) (z : ℤ) → T (fits f x) → nat_abs z ≤ 2 ^ prec f → IsInt x z → x ≡ of_int f z
is-int f x z t h v = whole_unique f x (of_int f z) (below-zero z) (nat_abs z) t (of_int-fits f z) v (int_is f z h)

pub value-finite : (x : Float) (s : Bool) (a c : ℕ) → HasValue x s a c → T (finite x)
value-finite nan s a c v = v
value-finite (inf t) s a c v = v
value-finite (fin t m e) s a c v = tt

-- a fraction that is a whole number, rounded
pub as-whole : (f : Format) (s : Bool) (A D n : ℕ) → 0 < D → A ≡ n * D → n ≤ 2 ^ prec f → HasValue (round f s A D) s n 1
as-whole f s A D n h e l =
    subst (λ (x : Float). HasValue x s n 1) (sym (round_same f s A D n 1 h (zero-lt-suc 0) (mul-one A ∙ e))) (round_whole f s n l)

-- two whole values over one denominator
pub left : (a A D E : ℕ) → A * 1 ≡ a * D → A * E ≡ a * (D * E)
left a A D E p = ap (λ (z : ℕ). z * E) (sym (mul-one A) ∙ p) ∙ mul_assoc a D E

pub right : (b B D E : ℕ) → B * 1 ≡ b * E → B * D ≡ b * (D * E)
right b B D E p = ap (λ (z : ℕ). z * D) (sym (mul-one B) ∙ p) ∙ mul_right_comm b E D ∙ mul_assoc b D E

pub minus : (a b C : ℕ) → b ≤ a → a * C - b * C ≡ (a - b) * C
minus a b C h =
    let e = add-mul (a - b) b C in
    let f : (a - b + b) * C ≡ a * C = ap (λ (z : ℕ). z * C) (back a b h) in
    omega arith
  where
    back : (a b : ℕ) → b ≤ a → a - b + b ≡ a
    back a b h = omega arith

-- the test of two whole values
pub lt-whole : (x y : Float) (a b : ℕ) → HasValue x false a 1 → HasValue y false b 1 → lt x y ≡ ltb a b
unfolding lt
lt-whole nan y a b v w = absurd v
lt-whole (inf s) y a b v w = absurd v
lt-whole (fin s m e) nan a b v w = absurd w
lt-whole (fin s m e) (inf t) a b v w = absurd w
lt-whole (fin s m e) (fin t k d) a b v w =
    rw (v.0, w.0, left a (m * up e) (down e) (down d) v.1, right b (k * up d) (down e) (down d) w.1) (scale (ltb a b) refl (mul-pos (down_pos e) (down_pos d)))
  where
    scale : (r : Bool) → ltb a b ≡ r → 0 < down e * down d → ltb (a * (down e * down d)) (b * (down e * down d)) ≡ r
    scale true g c = lt-ltb _ _ (mul-lt-mul_of_pos_right (ltb-true a b g) c)
    scale false g c = le-ltb _ _ (mul-le-mul_right (down e * down d) (ltb-false a b g))

-- ---- the sum of two integers, over one denominator
module _ (f : Format) (C : ℕ) (D : 0 < C) where
  -- the larger one less the other
  difference : (s : Bool) (a b n : ℕ) → b ≤ a → a - b ≡ n → n ≤ 2 ^ prec f → HasValue (round f s (a * C - b * C) C) s n 1
  difference s a b n h e l = as-whole f s (a * C - b * C) C n D (minus a b C h ∙ ap (λ (z : ℕ). z * C) e) l

  up-down : (a b : ℕ) → a ≤ 2 ^ prec f → suc b ≤ 2 ^ prec f → IsInt (sum f false (a * C) true (suc b * C) C) (pos a +ℤ negsuc b)
  unfolding sum
  up-down a b A B = go (ltb a (suc b)) refl
    where
      go : (t : Bool) → ltb a (suc b) ≡ t
          → IsInt (cond (ltb (a * C) (suc b * C)) (round f true (suc b * C - a * C) C) (round f false (a * C - suc b * C) C)) (cond t (negsuc (suc b - suc a)) (pos (a - suc b)))
      go true e =
          let l = ltb-true a (suc b) e in
          rw (lt-ltb (a * C) (suc b * C) (mul-lt-mul_of_pos_right l D)) (difference true (suc b) a (suc (suc b - suc a)) (omega arith) (omega arith) (omega arith))
      go false e =
          let l = ltb-false a (suc b) e in
          rw (le-ltb (a * C) (suc b * C) (mul-le-mul_right C l)) (difference false a (suc b) (a - suc b) l refl (omega arith))

  down-up : (a b : ℕ) → suc a ≤ 2 ^ prec f → b ≤ 2 ^ prec f → IsInt (sum f true (suc a * C) false (b * C) C) (negsuc a +ℤ pos b)
  unfolding sum
  down-up a b A B = go (ltb b (suc a)) refl
    where
      equal : (t : Bool) → ltb (suc a) b ≡ t → suc a ≤ b
          → IsInt (cond (ltb (suc a * C) (b * C)) (round f false (b * C - suc a * C) C) (round f (ltb (b * C) (suc a * C)) (suc a * C - b * C) C)) (pos (b - suc a))
      equal true e g =
          let l = ltb-true (suc a) b e in
          rw (lt-ltb (suc a * C) (b * C) (mul-lt-mul_of_pos_right l D)) (difference false b (suc a) (b - suc a) g refl (omega arith))
      equal false e g =
          let l = ltb-false (suc a) b e in
          rw (le-ltb (suc a * C) (b * C) (mul-le-mul_right C l), le-ltb (b * C) (suc a * C) (mul-le-mul_right C g)) (difference false (suc a) b (b - suc a) l (omega arith) (omega arith))

      go : (t : Bool) → ltb b (suc a) ≡ t
          → IsInt (cond (ltb (suc a * C) (b * C)) (round f false (b * C - suc a * C) C) (round f (ltb (b * C) (suc a * C)) (suc a * C - b * C) C)) (cond t (negsuc (suc a - suc b)) (pos (b - suc a)))
      go true e =
          let l = ltb-true b (suc a) e in
          rw (le-ltb (suc a * C) (b * C) (mul-le-mul_right C (omega arith)), lt-ltb (b * C) (suc a * C) (mul-lt-mul_of_pos_right l D))
          (difference true (suc a) b (suc (suc a - suc b)) (omega arith) (omega arith) (omega arith))
      go false e = equal (ltb (suc a) b) refl (ltb-false b (suc a) e)

  sum-ints : (a b : ℤ) → nat_abs a ≤ 2 ^ prec f → nat_abs b ≤ 2 ^ prec f → nat_abs (a +ℤ b) ≤ 2 ^ prec f
      → IsInt (sum f (below-zero a) (nat_abs a * C) (below-zero b) (nat_abs b * C) C) (a +ℤ b)
  sum-ints (pos a) (pos b) A B h = unfold sum in as-whole f false (a * C + b * C) C (a + b) D (sym (add-mul a b C)) h
  sum-ints (pos a) (negsuc b) A B h = up-down a b A B
  sum-ints (negsuc a) (pos b) A B h = down-up a b A B
  sum-ints (negsuc a) (negsuc b) A B h =
      unfold sum in as-whole f true (suc a * C + suc b * C) C (suc (suc (a + b))) D (sym (add-mul (suc a) (suc b) C) ∙ ap (λ (z : ℕ). z * C) (both a b)) h
    where
      both : (a b : ℕ) → suc a + suc b ≡ suc (suc (a + b))
      both a b = omega arith

pub add-int : (f : Format) (x y : Float) (a b : ℤ) → IsInt x a → IsInt y b → nat_abs a ≤ 2 ^ prec f → nat_abs b ≤ 2 ^ prec f → nat_abs (a +ℤ b) ≤ 2 ^ prec f
    → add f x y ≡ of_int f (a +ℤ b)
unfolding add
add-int f x y a b v w A B h = is-int f (add f x y) (a +ℤ b) (add-fits f x y) h (go x y v w)
  where
    go : (x y : Float) → IsInt x a → IsInt y b → IsInt (add f x y) (a +ℤ b)
    go nan y v w = absurd v
    go (inf s) y v w = absurd v
    go (fin s m e) nan v w = absurd w
    go (fin s m e) (inf t) v w = absurd w
    go (fin s m e) (fin t k d) v w =
        rw (v.0, w.0, left (nat_abs a) (m * up e) (down e) (down d) v.1, right (nat_abs b) (k * up d) (down e) (down d) w.1)
        (sum-ints f (down e * down d) (mul-pos (down_pos e) (down_pos d)) a b A B h)

-- a difference from a whole number above zero
pub sub-int : (f : Format) (x y : Float) (a : ℤ) (n : ℕ) → IsInt x a → HasValue y false (suc n) 1 → nat_abs a ≤ 2 ^ prec f → suc n ≤ 2 ^ prec f → nat_abs (a +ℤ negsuc n) ≤ 2 ^ prec f
    → sub f x y ≡ of_int f (a +ℤ negsuc n)
unfolding sub
sub-int f x y a n v w A B h = add-int f x (neg y) a (negsuc n) v (turned y w) A B h
  where
    turned : (y : Float) → HasValue y false (suc n) 1 → IsInt (neg y) (negsuc n)
    turned nan w = absurd w
    turned (inf s) w = absurd w
    turned (fin true m e) w = absurd (subst T w.0 tt)
    turned (fin false m e) w = unfold neg in (refl, w.1)

-- ---- the float of an integer in both formats, and its floor
pub narrow : (z : ℤ) → nat_abs z ≤ 2 ^ 24 → of_int binary64 z ≡ of_int binary32 z
narrow z h =
    sym (is-int binary64 (of_int binary32 z) z (fits_widens (of_int binary32 z) (of_int-fits binary32 z)) (omega arith) (int_is binary32 z h))

pub floor-int : (x : Float) (z : ℤ) → IsInt x z → floor_of x ≡ z
unfolding floor_of
floor-int nan z v = absurd v
floor-int (inf s) z v = absurd v
floor-int (fin true m e) (pos n) v = absurd (subst T v.0 tt)
floor-int (fin false m e) (negsuc n) v = absurd (subst T (sym v.0) tt)
floor-int (fin false m e) (pos n) v = ap pos (ap (λ (z : ℕ). z / down e) (sym (mul-one (m * up e)) ∙ v.1) ∙ mul-div_cancel n (down_pos e))
floor-int (fin true m e) (negsuc n) v =
    ap (λ (z : ℕ). neg_ℤ (pos z)) (ap (λ (z : ℕ). (z + (down e - 1)) / down e) (sym (mul-one (m * up e)) ∙ v.1) ∙ digits_div (suc n) (last (down e) (down_pos e)))
  where
    last : (d : ℕ) → 0 < d → d - 1 < d
    last d h = omega arith
