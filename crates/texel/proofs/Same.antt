-- A value that a format holds is the only one of its sign and size, and rounding it changes nothing. So x * 1 is x, and x * -1 is -x. Assumes nothing.
use mathlib.Core.Path.{◌≡◌, refl, sym, ap, ◌∙◌, subst}
use Prim.Native.Nat.{ℕ, zero, suc, ◌+◌, ◌-◌, ◌*◌, ◌%◌, ◌^◌, ◌≤◌, ◌<◌}
use native.Mathlib.Nat.{le_of_suc-le-suc, lt_of_not-le, not-le_of_lt, lt_irrefl, zero-lt-suc, zero-mul, one-mul, mul-one, mul_comm, mul_assoc, mul_left_comm, mul_right_comm, mul-pos, mul-lt-mul_of_pos_right, eq_of_mul-eq-mul_right, pow-suc, pow-succ'}
use native.Mathlib.Omega.{arith}
use mathlib.Core.Bool.{Bool, true, false, ◌&&◌}
use lib.IntN.{ℤ, pos, negsuc}
use lib.Dec.{T, leb, ltb, eqb, eqb→eq, ltb→lt, leb→le}
use lib.Pow.{pow-add, pow_pos, pow-lt}
use lib.Ieee.{Float, nan, inf, fin, Format, prec, emax, low, up, down, unlike, fits, round, neg, mul}
use lib.Ieee.Fits.{up_pos, down_pos, and_l, and_r, round-fits}
use lib.Ieee.Exact.{HasValue, round_exact}
use lib.Ieee.Scale.{finite}
use lib.Ieee.Positive.{num, den, den_pos}
use Rattle.texel.proofs.Range.{sgn}

even_odd : (m t : ℕ) → m % 2 ≡ 1 → m ≡ 2 * t → ⊥
even_odd m t o h = omega arith

odd_pow : (m n a b : ℕ) → m % 2 ≡ 1 → n % 2 ≡ 1 → m * 2 ^ a ≡ n * 2 ^ b → (m ≡ n) × (a ≡ b)
odd_pow m n zero zero o p h = (sym (mul-one m) ∙ h ∙ mul-one n, refl)
odd_pow m n zero (suc b) o p h = absurd (even_odd m (n * 2 ^ b) o (sym (mul-one m) ∙ h ∙ ap (λ (x : ℕ). n * x) (pow-succ' 2 b) ∙ mul_left_comm n 2 (2 ^ b)))
odd_pow m n (suc a) zero o p h = absurd (even_odd n (m * 2 ^ a) p (sym (mul-one n) ∙ sym h ∙ ap (λ (x : ℕ). m * x) (pow-succ' 2 a) ∙ mul_left_comm m 2 (2 ^ a)))
odd_pow m n (suc a) (suc b) o p h =
    let r = odd_pow m n a b o p (eq_of_mul-eq-mul_right 2 (zero-lt-suc 1) (m * 2 ^ a) (n * 2 ^ b)
    (mul_assoc m (2 ^ a) 2 ∙ ap (λ (x : ℕ). m * x) (sym (pow-suc 2 a)) ∙ h ∙ ap (λ (x : ℕ). n * x) (pow-suc 2 b) ∙ sym (mul_assoc n (2 ^ b) 2))) in
    (r.0, ap suc r.1)

-- ---- what `fits` says of a number that is not 0
pub record Held (f : Format) (m : ℕ) (e : ℤ) : Type 0 where
  pub odd : m % 2 ≡ 1
  pub short : m < 2 ^ prec f
  pub deep : down e ≤ 2 ^ low f
  pub wide : m * up e < 2 ^ suc (emax f) * down e

pub held : (f : Format) (s : Bool) (m : ℕ) (e : ℤ) → T (fits f (fin s (suc m) e)) → Held f (suc m) e
unfolding fits
held f s m e h =
    let A = eqb (suc m % 2) 1 in
    let B = ltb (suc m) (2 ^ prec f) in
    let C = leb (down e) (2 ^ low f) in
    let D = ltb (suc m * up e) (2 ^ suc (emax f) * down e) in
    record {
      odd = eqb→eq (suc m % 2) 1 (and_l A B (and_l (A && B) C (and_l (A && B && C) D h)));
      short = ltb→lt (suc m) (2 ^ prec f) (and_r A B (and_l (A && B) C (and_l (A && B && C) D h)));
      deep = leb→le (down e) (2 ^ low f) (and_r (A && B) C (and_l (A && B && C) D h));
      wide = ltb→lt (suc m * up e) (2 ^ suc (emax f) * down e) (and_r (A && B && C) D h);
    }

no_power : (x y : ℕ) → x ≡ 2 * y → 0 < y → x ≡ 1 → ⊥
no_power x y e p h = omega arith

flat : (e : ℤ) → up e * down e ≡ 1 → e ≡ pos 0
flat (pos zero) h = refl
flat (pos (suc a)) h = absurd (no_power (2 ^ suc a) (2 ^ a) (pow-succ' 2 a) (pow_pos a) (sym (mul-one (2 ^ suc a)) ∙ h))
flat (negsuc a) h = absurd (no_power (2 ^ suc a) (2 ^ a) (pow-succ' 2 a) (pow_pos a) (sym (one-mul (2 ^ suc a)) ∙ h))

zero_exp : (f : Format) (s : Bool) (e : ℤ) → T (fits f (fin s zero e)) → e ≡ pos 0
unfolding fits
zero_exp f s e t = flat e (eqb→eq (up e * down e) 1 t)

-- ---- the two exponents over one power
record Powers (e g : ℤ) : Type 0 where
  pub i : ℕ
  pub j : ℕ
  pub left : up e * down g ≡ 2 ^ i
  pub right : up g * down e ≡ 2 ^ j
  pub back : i ≡ j → e ≡ g

no-suc : (a b : ℕ) → a + suc b ≡ 0 → ⊥
no-suc a b h = omega arith

suc-same : (a b : ℕ) → suc b ≡ suc a → a ≡ b
suc-same a b h = omega arith

powers : (e g : ℤ) → Powers e g
powers (pos a) (pos b) = record { i = a; j = b; left = mul-one (2 ^ a); right = mul-one (2 ^ b); back = λ h. ap pos h }
powers (pos a) (negsuc b) = record { i = a + suc b; j = 0; left = sym (pow-add 2 a (suc b)); right = refl; back = λ h. absurd (no-suc a b h) }
powers (negsuc a) (pos b) = record { i = 0; j = b + suc a; left = refl; right = sym (pow-add 2 b (suc a)); back = λ h. absurd (no-suc b a (sym h)) }
powers (negsuc a) (negsuc b) = record { i = suc b; j = suc a; left = one-mul (2 ^ suc b); right = one-mul (2 ^ suc a); back = λ h. ap negsuc (suc-same a b h) }

-- m * 2 ^ e = n * 2 ^ g
crossed : (m : ℕ) (e : ℤ) (n : ℕ) (g : ℤ) (a c : ℕ) → 0 < c → m * up e * c ≡ a * down e → n * up g * c ≡ a * down g → m * up e * down g ≡ n * up g * down e
crossed m e n g a c C h k =
    eq_of_mul-eq-mul_right c C (m * up e * down g) (n * up g * down e)
    (mul_right_comm (m * up e) (down g) c ∙ ap (λ (z : ℕ). z * down g) h ∙ mul_right_comm a (down e) (down g) ∙ ap (λ (z : ℕ). z * down e) (sym k) ∙ mul_right_comm (n * up g) c (down e))

not-zero : (n : ℕ) (g : ℤ) (d : ℕ) → 0 < d → suc n * up g * d ≡ 0 → ⊥
not-zero n g d D h = lt_irrefl 0 (subst (λ (x : ℕ). 0 < x) h (mul-pos (mul-pos (zero-lt-suc n) (up_pos g)) D))

pub unique : (f : Format) (x y : Float) (s : Bool) (a c : ℕ) → 0 < c → T (fits f x) → T (fits f y) → HasValue x s a c → HasValue y s a c → x ≡ y
unique f nan y s a c C p q v w = absurd v
unique f (inf t) y s a c C p q v w = absurd v
unique f (fin t m e) nan s a c C p q v w = absurd w
unique f (fin t m e) (inf u) s a c C p q v w = absurd w
unique f (fin t zero e) (fin u zero g) s a c C p q v w = λ i. fin ((v.0 ∙ sym w.0) i) zero ((zero_exp f t e p ∙ sym (zero_exp f u g q)) i)
unique f (fin t zero e) (fin u (suc n) g) s a c C p q v w =
    absurd (not-zero n g (down e) (down_pos e) (sym (crossed zero e (suc n) g a c C v.1 w.1) ∙ ap (λ (z : ℕ). z * down g) (zero-mul (up e)) ∙ zero-mul (down g)))
unique f (fin t (suc m) e) (fin u zero g) s a c C p q v w =
    absurd (not-zero m e (down g) (down_pos g) (crossed (suc m) e zero g a c C v.1 w.1 ∙ ap (λ (z : ℕ). z * down e) (zero-mul (up g)) ∙ zero-mul (down e)))
unique f (fin t (suc m) e) (fin u (suc n) g) s a c C p q v w =
    let k = powers e g in
    let r = odd_pow (suc m) (suc n) k.i k.j (held f t m e p).odd (held f u n g q).odd
    (ap (λ (z : ℕ). suc m * z) (sym k.left) ∙ sym (mul_assoc (suc m) (up e) (down g)) ∙ crossed (suc m) e (suc n) g a c C v.1 w.1 ∙ mul_assoc (suc n) (up g) (down e) ∙ ap (λ (z : ℕ). suc n * z) k.right) in
    λ i. fin ((v.0 ∙ sym w.0) i) (r.0 i) (k.back r.1 i)

-- ---- rounding its own fraction
-- num * 2 ^ low is m * 2 ^ j * den
pub record Whole (f : Format) (m : ℕ) (e : ℤ) : Type 0 where
  pub j : ℕ
  pub is : m * up e * 2 ^ low f ≡ m * 2 ^ j * down e
  pub below : m * 2 ^ j < 2 ^ (low f + suc (emax f))

pow-le : (a b : ℕ) → 2 ^ a ≤ 2 ^ b → a ≤ b
pow-le a b h = le_of_suc-le-suc (lt_of_not-le (λ (g : suc b ≤ a). not-le_of_lt (pow-lt g) h))

pub whole : (f : Format) (m : ℕ) (e : ℤ) → Held f m e → Whole f m e
whole f m (pos a) h = record {
  j = a + low f;
  is = mul_assoc m (2 ^ a) (2 ^ low f) ∙ ap (λ (z : ℕ). m * z) (sym (pow-add 2 a (low f))) ∙ sym (mul-one (m * 2 ^ (a + low f)));
  below =
      subst (λ (z : ℕ). z < 2 ^ (low f + suc (emax f))) (mul_assoc m (2 ^ a) (2 ^ low f) ∙ ap (λ (z : ℕ). m * z) (sym (pow-add 2 a (low f))))
      (subst (λ (z : ℕ). m * 2 ^ a * 2 ^ low f < z) (ap (λ (z : ℕ). z * 2 ^ low f) (mul-one (2 ^ suc (emax f))) ∙ mul_comm (2 ^ suc (emax f)) (2 ^ low f) ∙ sym (pow-add 2 (low f) (suc (emax f)))) (mul-lt-mul_of_pos_right h.wide (pow_pos (low f))));
}
whole f m (negsuc a) h =
    let l : suc a ≤ low f = pow-le (suc a) (low f) h.deep in
    let k = low f - suc a in
    let back : 2 ^ suc a * 2 ^ k ≡ 2 ^ low f = sym (pow-add 2 (suc a) k) ∙ ap (λ (z : ℕ). 2 ^ z) (again (suc a) (low f) l) in
    record {
      j = k;
      is = ap (λ (z : ℕ). z * 2 ^ low f) (mul-one m) ∙ ap (λ (z : ℕ). m * z) (sym back ∙ mul_comm (2 ^ suc a) (2 ^ k)) ∙ sym (mul_assoc m (2 ^ k) (2 ^ suc a));
      below =
          subst (λ (z : ℕ). m * 2 ^ k < z)
          (mul_assoc (2 ^ suc (emax f)) (2 ^ suc a) (2 ^ k) ∙ ap (λ (z : ℕ). 2 ^ suc (emax f) * z) back ∙ mul_comm (2 ^ suc (emax f)) (2 ^ low f) ∙ sym (pow-add 2 (low f) (suc (emax f))))
          (subst (λ (z : ℕ). z * 2 ^ k < 2 ^ suc (emax f) * 2 ^ suc a * 2 ^ k) (mul-one m) (mul-lt-mul_of_pos_right h.wide (pow_pos k)));
    }
  where
    again : (a l : ℕ) → a ≤ l → a + (l - a) ≡ l
    again a l h = omega arith

own : (x : Float) → T (finite x) → HasValue x (sgn x) (num x) (den x)
own nan p = absurd p
own (inf s) p = absurd p
own (fin s m e) p = (refl, refl)

exact : (f : Format) (x : Float) → T (finite x) → T (fits f x) → HasValue (round f (sgn x) (num x) (den x)) (sgn x) (num x) (den x)
exact f nan p h = absurd p
exact f (inf s) p h = absurd p
exact f (fin s zero e) p h =
    round_exact f s (zero * up e) (down e) 0 0 (down_pos e) (pow_pos (prec f)) (pow_pos (low f + suc (emax f))) (ap (λ (z : ℕ). z * 2 ^ low f) (zero-mul (up e)) ∙ zero-mul (2 ^ low f) ∙ sym (zero-mul (down e)))
exact f (fin s (suc m) e) p h =
    let k = held f s m e h in
    let w = whole f (suc m) e k in
    round_exact f s (suc m * up e) (down e) (suc m) w.j (down_pos e) k.short w.below w.is

pub round-own : (f : Format) (x : Float) → T (finite x) → T (fits f x) → round f (sgn x) (num x) (den x) ≡ x
round-own f x p h = unique f (round f (sgn x) (num x) (den x)) x (sgn x) (num x) (den x) (den_pos x) (round-fits f (sgn x) (num x) (den x)) h (exact f x p h) (own x p)

-- ---- times 1 and times -1
one-is : (f : Format) (s t : Bool) (m : ℕ) (e : ℤ) → mul f (fin s m e) (fin t 1 (pos 0)) ≡ round f (unlike s t) (m * up e) (down e)
unfolding mul
one-is f s t m e = ap (λ (z : ℕ). round f (unlike s t) z (down e * 1)) (mul-one (m * up e)) ∙ ap (λ (z : ℕ). round f (unlike s t) (m * up e) z) (mul-one (down e))

pub mul-by-one : (f : Format) (x : Float) → T (finite x) → T (fits f x) → mul f x (fin false 1 (pos 0)) ≡ x
mul-by-one f nan p h = absurd p
mul-by-one f (inf s) p h = absurd p
mul-by-one f (fin true m e) p h = one-is f true false m e ∙ round-own f (fin true m e) p h
mul-by-one f (fin false m e) p h = one-is f false false m e ∙ round-own f (fin false m e) p h

pub neg-holds : (f : Format) (x : Float) → T (fits f x) → T (fits f (neg x))
neg-holds f x h = lib.Ieee.Fits.neg-fits f x h

pub mul-by-minus : (f : Format) (x : Float) → T (finite x) → T (fits f x) → mul f x (fin true 1 (pos 0)) ≡ neg x
unfolding neg
mul-by-minus f nan p h = absurd p
mul-by-minus f (inf s) p h = absurd p
mul-by-minus f (fin true m e) p h = one-is f true true m e ∙ round-own f (fin false m e) p (neg-holds f (fin true m e) h)
mul-by-minus f (fin false m e) p h = one-is f false true m e ∙ round-own f (fin true m e) p (neg-holds f (fin false m e) h)
