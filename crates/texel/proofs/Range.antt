-- The operations of lib.Ieee keep the order of signed values, so a range goes through them: with lo ≤ x ≤ hi and lo' ≤ y ≤ hi', all finite,
-- add lo lo' ≤ add x y ≤ add hi hi', and the two ends are constants that antt computes. Assumes nothing.
use mathlib.Core.Path.{◌≡◌, refl, sym, ap, ap₂, ◌∙◌, subst, subst₂}
use mathlib.Core.Logic.{◌⊎◌, inl, inr}
use Prim.Native.Nat.{ℕ, zero, suc, ◌+◌, ◌-◌, ◌*◌, ◌^◌, ◌≤◌, ◌<◌, zero-le}
use native.Mathlib.Nat.{le_refl, le_trans, le_of_eq, le_of_lt, eq-or-lt_of_le, zero-lt-suc, zero-mul, mul-zero, mul_comm, mul_assoc, mul_left_comm, mul_right_comm, add-mul, mul-le-mul_right, mul-le-mul, le_of_mul-le-mul_right, lt_of_mul-lt-mul_right, mul-lt-mul_of_pos_right, mul-pos, mul-mul-mul_comm, eq-zero-or-pos}
use native.Mathlib.Omega.{arith}
use mathlib.Core.Bool.{Bool, true, false, not, ◌&&◌, ◌||◌, cond}
use lib.Dec.{T, ltb, eqb, ltb→lt, lt→ltb, nltb→le, eqb→eq}
use lib.Pow.{pow_pos}
use lib.Ieee.{Float, nan, inf, fin, Format, prec, emax, low, unlike, up, down, odd, units, round, sum, neg, add, sub, mul, div, le, lt}
use lib.Ieee.Fits.{up_pos, and_i, and_l, and_r, eq→eqb, round_is}
use lib.Ieee.Exact.{HasValue, round_exact}
use lib.Ieee.Order.{round_mono}
use lib.Ieee.Scale.{finite, round_same}
use lib.Ieee.Positive.{num, den, den_pos, positive, positive-finite}
use Rattle.rules.specs.Floats.{Between}

-- ---- a signed magnitude as a difference of two numbers: ±a is plus s a - less s a
abbrev pub plus : Bool → ℕ → ℕ
plus true a = 0
plus false a = a

abbrev pub less : Bool → ℕ → ℕ
less true a = a
less false a = 0

abbrev pub sgn : Float → Bool
sgn nan = false
sgn (inf s) = s
sgn (fin s m e) = s

-- (p - n) / c ≤ (q - m) / d
abbrev pub Le : ℕ → ℕ → ℕ → ℕ → ℕ → ℕ → Type 0
Le p n c q m d = p * d + m * c ≤ q * c + n * d

-- x ≤ y, of finite values
abbrev pub LeF : Float → Float → Type 0
LeF x y = Le (plus (sgn x) (num x)) (less (sgn x) (num x)) (den x) (plus (sgn y) (num y)) (less (sgn y) (num y)) (den y)

or_split : (a b : Bool) → T (a || b) → T a ⊎ T b
or_split true b t = inl tt
or_split false b t = inr t

or_l : (a b : Bool) → T a → T (a || b)
or_l true b t = tt
or_l false b t = absurd t

or_r : (a b : Bool) → T b → T (a || b)
or_r true b t = tt
or_r false b t = t

-- ---- `le` on finite values is LeF. A and B are the cross products
le-ff : (A B : ℕ) → T (ltb A B || (eqb A B && true)) → A ≤ B
le-ff A B t = elim (or_split (ltb A B) (eqb A B && true) t) [ inl u ↦ le_of_lt (ltb→lt A B u) | inr u ↦ le_of_eq (eqb→eq A B (and_l (eqb A B) true u)) ]

ff-le : (A B : ℕ) → A ≤ B → T (ltb A B || (eqb A B && true))
ff-le A B h = elim (eq-or-lt_of_le h) [ inl p ↦ or_r (ltb A B) (eqb A B && true) (and_i (eqb A B) true (eq→eqb p) tt) | inr q ↦ or_l (ltb A B) (eqb A B && true) (lt→ltb A B q) ]

tt-le : (A B : ℕ) → B ≤ A → T (ltb B A || (eqb A B && true))
tt-le A B h = elim (eq-or-lt_of_le h) [ inl p ↦ or_r (ltb B A) (eqb A B && true) (and_i (eqb A B) true (eq→eqb (sym p)) tt) | inr q ↦ or_l (ltb B A) (eqb A B && true) (lt→ltb B A q) ]

le-tt : (A B : ℕ) → T (ltb B A || (eqb A B && true)) → B ≤ A
le-tt A B t = elim (or_split (ltb B A) (eqb A B && true) t) [ inl u ↦ le_of_lt (ltb→lt B A u) | inr u ↦ le_of_eq (sym (eqb→eq A B (and_l (eqb A B) true u))) ]

tf-le : (A B : ℕ) → T (ltb 0 (A + B) || (eqb A B && eqb A 0))
tf-le A B = elim (eq-zero-or-pos (A + B)) [
  | inl z ↦ or_r (ltb 0 (A + B)) (eqb A B && eqb A 0) (and_i (eqb A B) (eqb A 0) (eq→eqb (same A B z)) (eq→eqb (nought A B z)))
  | inr p ↦ or_l (ltb 0 (A + B)) (eqb A B && eqb A 0) (lt→ltb 0 (A + B) p)
]
  where
    same : (A B : ℕ) → A + B ≡ 0 → A ≡ B
    same A B z = omega arith

    nought : (A B : ℕ) → A + B ≡ 0 → A ≡ 0
    nought A B z = omega arith

ft-le : (A B : ℕ) → A + B ≤ 0 → T (false || (eqb A B && eqb A 0))
ft-le A B h = and_i (eqb A B) (eqb A 0) (eq→eqb (same A B h)) (eq→eqb (nought A B h))
  where
    same : (A B : ℕ) → A + B ≤ 0 → A ≡ B
    same A B z = omega arith

    nought : (A B : ℕ) → A + B ≤ 0 → A ≡ 0
    nought A B z = omega arith

le-ft : (A B : ℕ) → T (eqb A B && eqb A 0) → A + B ≤ 0
le-ft A B t = go A B (eqb→eq A B (and_l (eqb A B) (eqb A 0) t)) (eqb→eq A 0 (and_r (eqb A B) (eqb A 0) t))
  where
    go : (A B : ℕ) → A ≡ B → A ≡ 0 → A + B ≤ 0
    go A B p q = omega arith

pub le→ : (x y : Float) → T (finite x) → T (finite y) → T (le x y) → LeF x y
unfolding le
le→ nan y p q h = absurd p
le→ (inf s) y p q h = absurd p
le→ (fin s m e) nan p q h = absurd q
le→ (fin s m e) (inf t) p q h = absurd q
le→ (fin false m e) (fin false n d) p q h = let k = le-ff (m * up e * down d) (n * up d * down e) h in omega arith
le→ (fin false m e) (fin true n d) p q h = let k = le-ft (m * up e * down d) (n * up d * down e) h in omega arith
le→ (fin true m e) (fin false n d) p q h = omega arith
le→ (fin true m e) (fin true n d) p q h = let k = le-tt (m * up e * down d) (n * up d * down e) h in omega arith

pub →le : (x y : Float) → T (finite x) → T (finite y) → LeF x y → T (le x y)
unfolding le
→le nan y p q h = absurd p
→le (inf s) y p q h = absurd p
→le (fin s m e) nan p q h = absurd q
→le (fin s m e) (inf t) p q h = absurd q
→le (fin false m e) (fin false n d) p q h = ff-le (m * up e * down d) (n * up d * down e) (omega arith)
→le (fin false m e) (fin true n d) p q h = ft-le (m * up e * down d) (n * up d * down e) (omega arith)
→le (fin true m e) (fin false n d) p q h = tf-le (m * up e * down d) (n * up d * down e)
→le (fin true m e) (fin true n d) p q h = tt-le (m * up e * down d) (n * up d * down e) (omega arith)

-- ---- negation turns the order round
neg-le : (x y : Float) → T (le y x) → T (le (neg x) (neg y))
unfolding le neg
neg-le nan nan h = absurd h
neg-le nan (inf t) h = absurd h
neg-le nan (fin t n d) h = absurd h
neg-le (inf s) nan h = absurd h
neg-le (inf true) (inf true) h = tt
neg-le (inf true) (inf false) h = absurd h
neg-le (inf false) (inf true) h = tt
neg-le (inf false) (inf false) h = tt
neg-le (inf true) (fin t n d) h = absurd h
neg-le (inf false) (fin t n d) h = tt
neg-le (fin s m e) nan h = absurd h
neg-le (fin s m e) (inf true) h = tt
neg-le (fin s m e) (inf false) h = absurd h
neg-le (fin false m e) (fin false n d) h = tt-le (m * up e * down d) (n * up d * down e) (le-ff (n * up d * down e) (m * up e * down d) h)
neg-le (fin false m e) (fin true n d) h = tf-le (m * up e * down d) (n * up d * down e)
neg-le (fin true m e) (fin false n d) h = ft-le (m * up e * down d) (n * up d * down e) (swap (n * up d * down e) (m * up e * down d) (le-ft (n * up d * down e) (m * up e * down d) h))
  where
    swap : (A B : ℕ) → A + B ≤ 0 → B + A ≤ 0
    swap A B h = omega arith
neg-le (fin true m e) (fin true n d) h = ff-le (m * up e * down d) (n * up d * down e) (le-tt (n * up d * down e) (m * up e * down d) h)

pub neg-finite : (x : Float) → T (finite x) → T (finite (neg x))
unfolding neg
neg-finite nan h = h
neg-finite (inf s) h = h
neg-finite (fin s m e) h = tt

-- ---- rounding a negative fraction
odd-neg : (d q k l : ℕ) → odd d true q k l ≡ neg (odd d false q k l)
unfolding odd neg
odd-neg d zero k l = refl
odd-neg d (suc q) k l = refl

units-neg : (f : Format) (q k : ℕ) → units f true q k ≡ neg (units f false q k)
unfolding units neg
units-neg f q k = go (ltb (q * 2 ^ k) (2 ^ (low f + suc (emax f))))
  where
    go : (b : Bool) → cond b (odd (suc (prec f)) true q k (low f)) (inf true) ≡ neg (cond b (odd (suc (prec f)) false q k (low f)) (inf false))
    go true = odd-neg (suc (prec f)) q k (low f)
    go false = refl

pub round-neg : (f : Format) (a c : ℕ) → round f true a c ≡ neg (round f false a c)
unfolding round
round-neg f a c = units-neg f _ _

-- a value with the sign s: an infinity or finite
abbrev Has : Bool → Float → Type 0
Has s nan = ⊥
Has s (inf t) = t ≡ s
Has s (fin t m e) = t ≡ s

odd-has : (d : ℕ) (s : Bool) (q k l : ℕ) → Has s (odd d s q k l)
unfolding odd
odd-has d s zero k l = refl
odd-has d s (suc q) k l = refl

units-has : (f : Format) (s : Bool) (q k : ℕ) → Has s (units f s q k)
unfolding units
units-has f s q k = go (ltb (q * 2 ^ k) (2 ^ (low f + suc (emax f))))
  where
    go : (b : Bool) → Has s (cond b (odd (suc (prec f)) s q k (low f)) (inf s))
    go true = odd-has (suc (prec f)) s q k (low f)
    go false = refl

round-has : (f : Format) (s : Bool) (a c : ℕ) → Has s (round f s a c)
round-has f s a c = rw (round_is f s a c) (units-has f s _ _)

true≢ : {X : Type 0} → true ≡ false → X
true≢ p = absurd (subst T p tt)

below-zero : (x y : Float) → Has true x → Has false y → T (le x y)
unfolding le
below-zero nan y p q = absurd p
below-zero (inf false) y p q = true≢ (sym p)
below-zero (inf true) nan p q = absurd q
below-zero (inf true) (inf false) p q = tt
below-zero (inf true) (inf true) p q = tt
below-zero (inf true) (fin t n d) p q = tt
below-zero (fin false m e) y p q = true≢ (sym p)
below-zero (fin true m e) nan p q = absurd q
below-zero (fin true m e) (inf false) p q = tt
below-zero (fin true m e) (inf true) p q = true≢ q
below-zero (fin true m e) (fin true n d) p q = true≢ q
below-zero (fin true m e) (fin false n d) p q = tf-le (m * up e * down d) (n * up d * down e)

-- zero, of either sign
round-zero : (f : Format) (s : Bool) (c : ℕ) → 0 < c → HasValue (round f s 0 c) s 0 c
round-zero f s c C = round_exact f s 0 c 0 0 C (pow_pos (prec f)) (pow_pos (low f + suc (emax f))) (zero-mul (2 ^ low f) ∙ sym (zero-mul c))

zero-le-zero : (x y : Float) (c d : ℕ) → 0 < c → 0 < d → HasValue x false 0 c → HasValue y true 0 d → T (le x y)
zero-le-zero nan y c d C D p q = absurd p
zero-le-zero (inf s) y c d C D p q = absurd p
zero-le-zero (fin s m e) nan c d C D p q = absurd q
zero-le-zero (fin s m e) (inf t) c d C D p q = absurd q
zero-le-zero (fin true m e) (fin t n b) c d C D p q = true≢ p.0
zero-le-zero (fin false m e) (fin false n b) c d C D p q = true≢ (sym q.0)
zero-le-zero (fin false m e) (fin true n b) c d C D p q =
    →le (fin false m e) (fin true n b) tt tt
    (nought (m * up e) (n * up b) (down b) (down e) (none (m * up e) c C (p.1 ∙ zero-mul (down e))) (none (n * up b) d D (q.1 ∙ zero-mul (down b))))
  where
    none : (a c : ℕ) → 0 < c → a * c ≡ 0 → a ≡ 0
    none a c C h = elim (eq-zero-or-pos a) [ inl z ↦ z | inr p ↦ absurd (clash (a * c) (mul-pos p C) h) ]
      where
        clash : (k : ℕ) → 0 < k → k ≡ 0 → ⊥
        clash k p h = omega arith

    nought : (a b d e : ℕ) → a ≡ 0 → b ≡ 0 → a * d + b * e ≤ 0 * e + 0 * d
    nought a b d e p q = rw (p, q) (omega arith)

vanish : (a d k : ℕ) → 0 < d → a * d + k ≤ 0 → a ≡ 0
vanish a d k D h = elim (eq-zero-or-pos a) [ inl z ↦ z | inr p ↦ absurd (clash (a * d) k (mul-pos p D) h) ]
  where
    clash : (x k : ℕ) → 0 < x → x + k ≤ 0 → ⊥
    clash x k p h = omega arith

-- ---- `round` keeps the order of signed fractions
pub round-le : (f : Format) (s : Bool) (a c : ℕ) (t : Bool) (b d : ℕ) → 0 < c → 0 < d → Le (plus s a) (less s a) c (plus t b) (less t b) d
    → T (le (round f s a c) (round f t b d))
round-le f false a c false b d C D h = round_mono f a c b d C D (omega arith)
round-le f true a c false b d C D h = below-zero (round f true a c) (round f false b d) (round-has f true a c) (round-has f false b d)
round-le f true a c true b d C D h = rw (round-neg f a c, round-neg f b d) (neg-le (round f false a c) (round f false b d) (round_mono f b d a c D C (omega arith)))
round-le f false a c true b d C D h =
    let A : a ≡ 0 = vanish a d (b * c) D (omega arith) in
    let B : b ≡ 0 = vanish b c (a * d) C (omega arith) in
    rw (A, B) (zero-le-zero (round f false 0 c) (round f true 0 d) c d C D (round-zero f false c C) (round-zero f true d D))

-- ---- transitivity of the fractions' order
pub Le-trans : (p n c q m d r k e : ℕ) → 0 < d → Le p n c q m d → Le q m d r k e → Le p n c r k e
Le-trans p n c q m d r k e D h g =
    le_of_mul-le-mul_right
    (let a : p * d * e + m * c * e ≤ q * c * e + n * d * e = simp (← add-mul) (mul-le-mul_right e h) in
    let b : q * e * c + k * d * c ≤ r * d * c + m * e * c = simp (← add-mul) (mul-le-mul_right c g) in
    let e1 = mul_right_comm p d e in
    let e2 = mul_right_comm m c e in
    let e3 = mul_right_comm q c e in
    let e4 = mul_right_comm n d e in
    let e5 = mul_right_comm k d c in
    let e6 = mul_right_comm r d c in
    let s1 = add-mul (p * e) (k * c) d in
    let s2 = add-mul (r * c) (n * e) d in
    omega arith)
    D

-- the same difference, written otherwise
pub Le-same : (p n c q m d p' n' q' m' : ℕ) → p' + n ≡ p + n' → q' + m ≡ q + m' → Le p n c q m d → Le p' n' c q' m' d
Le-same p n c q m d p' n' q' m' e g h =
    let a : p' * d + n * d ≡ p * d + n' * d = simp (← add-mul) (ap (λ (z : ℕ). z * d) e) in
    let b : q' * c + m * c ≡ q * c + m' * c = simp (← add-mul) (ap (λ (z : ℕ). z * c) g) in
    omega arith

-- ---- the sum of two signed fractions over one denominator, as a rounded one
pub record Sum (f : Format) (z : Float) (p n c : ℕ) : Type 0 where
  pub sign : Bool
  pub size : ℕ
  pub is : z ≡ round f sign size c
  pub val : plus sign size + n ≡ p + less sign size

sum_is : (f : Format) (s : Bool) (a : ℕ) (t : Bool) (b c : ℕ) → Sum f (sum f s a t b c) (plus s a + plus t b) (less s a + less t b) c
unfolding sum
sum_is f false a false b c = record { sign = false; size = a + b; is = refl; val = omega arith }
sum_is f true a true b c = record { sign = true; size = a + b; is = refl; val = omega arith }
sum_is f false a true b c = go (ltb a b) (ltb→lt a b) (nltb→le a b)
  where
    go : (k : Bool) → (T k → a < b) → (T (not k) → b ≤ a) → Sum f (cond k (round f true (b - a) c) (round f false (a - b) c)) (a + 0) (0 + b) c
    go true h g = let l = h tt in record { sign = true; size = b - a; is = refl; val = omega arith }
    go false h g = let l = g tt in record { sign = false; size = a - b; is = refl; val = omega arith }
sum_is f true a false b c = go (ltb a b) (ltb→lt a b) (nltb→le a b) (ltb b a) (nltb→le b a)
  where
    go : (k : Bool) → (T k → a < b) → (T (not k) → b ≤ a) → (j : Bool) → (T (not j) → a ≤ b)
        → Sum f (cond k (round f false (b - a) c) (round f (true && j) (a - b) c)) (0 + b) (a + 0) c
    go true h g j i = let l = h tt in record { sign = false; size = b - a; is = refl; val = omega arith }
    go false h g true i = let l = g tt in record { sign = true; size = a - b; is = refl; val = omega arith }
    go false h g false i = let l = g tt in let r = i tt in record { sign = false; size = a - b; is = refl; val = omega arith }

pub add_is : (f : Format) (x y : Float) → T (finite x) → T (finite y)
    → Sum f (add f x y) (plus (sgn x) (num x * den y) + plus (sgn y) (num y * den x)) (less (sgn x) (num x * den y) + less (sgn y) (num y * den x)) (den x * den y)
unfolding add
add_is f nan y p q = absurd p
add_is f (inf s) y p q = absurd p
add_is f (fin s m e) nan p q = absurd q
add_is f (fin s m e) (inf t) p q = absurd q
add_is f (fin s m e) (fin t n d) p q = sum_is f s (m * up e * down d) t (n * up d * down e) (down e * down d)

plus-mul : (s : Bool) (a k : ℕ) → plus s (a * k) ≡ plus s a * k
plus-mul true a k = sym (zero-mul k)
plus-mul false a k = refl

less-mul : (s : Bool) (a k : ℕ) → less s (a * k) ≡ less s a * k
less-mul true a k = refl
less-mul false a k = sym (zero-mul k)

-- x / a ≤ x' / a' and y / b ≤ y' / b', each x a difference p - n
sum-le : (p n a q m b p' n' a' q' m' b' : ℕ) → Le p n a p' n' a' → Le q m b q' m' b'
    → Le (p * b + q * a) (n * b + m * a) (a * b) (p' * b' + q' * a') (n' * b' + m' * a') (a' * b')
sum-le p n a q m b p' n' a' q' m' b' h g =
    let x : (p * a' + n' * a) * (b * b') ≤ (p' * a + n * a') * (b * b') = mul-le-mul_right (b * b') h in
    let y : (q * b' + m' * b) * (a * a') ≤ (q' * b + m * b') * (a * a') = mul-le-mul_right (a * a') g in
    let X = simp (add-mul, mul_assoc, mul_comm, mul_left_comm) at x in
    let Y = simp (add-mul, mul_assoc, mul_comm, mul_left_comm) at y in
    simp (add-mul, mul_assoc, mul_comm, mul_left_comm) (omega (arith, X, Y))

pub add-mono : (f : Format) (x x' y y' : Float) → T (finite x) → T (finite x') → T (finite y) → T (finite y') → T (le x x') → T (le y y') → T (le (add f x y) (add f x' y'))
add-mono f x x' y y' p p' q q' h k =
    let s = add_is f x y p q in
    let s' = add_is f x' y' p' q' in
    rw (s.is, s'.is)
    (round-le f s.sign s.size (den x * den y) s'.sign s'.size (den x' * den y') (mul-pos (den_pos x) (den_pos y)) (mul-pos (den_pos x') (den_pos y'))
    (Le-same _ _ (den x * den y) _ _ (den x' * den y') _ _ _ _ s.val s'.val
    (simp (plus-mul, less-mul)
    (sum-le (plus (sgn x) (num x)) (less (sgn x) (num x)) (den x) (plus (sgn y) (num y)) (less (sgn y) (num y)) (den y)
    (plus (sgn x') (num x')) (less (sgn x') (num x')) (den x') (plus (sgn y') (num y')) (less (sgn y') (num y')) (den y')
    (le→ x x' p p' h) (le→ y y' q q' k)))))

pub sub-mono : (f : Format) (x x' y y' : Float) → T (finite x) → T (finite x') → T (finite y) → T (finite y') → T (le x x') → T (le y' y) → T (le (sub f x y) (sub f x' y'))
unfolding sub
sub-mono f x x' y y' p p' q q' h k = add-mono f x x' (neg y) (neg y') p p' (neg-finite y q) (neg-finite y' q') h (neg-le y y' k)

-- ---- what lies between two finite values is finite
pub between-finite : (lo x hi : Float) → T (finite lo) → T (finite hi) → T (le lo x) → T (le x hi) → T (finite x)
unfolding le
between-finite nan x hi p q h k = absurd p
between-finite (inf s) x hi p q h k = absurd p
between-finite (fin s m e) x nan p q h k = absurd q
between-finite (fin s m e) x (inf t) p q h k = absurd q
between-finite (fin s m e) nan (fin t n d) p q h k = absurd h
between-finite (fin s m e) (inf true) (fin t n d) p q h k = absurd h
between-finite (fin s m e) (inf false) (fin t n d) p q h k = absurd k
between-finite (fin s m e) (fin u i j) (fin t n d) p q h k = tt

pub le-trans-finite : (x y z : Float) → T (finite x) → T (finite y) → T (finite z) → T (le x y) → T (le y z) → T (le x z)
le-trans-finite x y z p q r h k = →le x z p r (Le-trans (plus (sgn x) (num x)) (less (sgn x) (num x)) (den x) (plus (sgn y) (num y)) (less (sgn y) (num y)) (den y) (plus (sgn z) (num z)) (less (sgn z) (num z)) (den z) (den_pos y) (le→ x y p q h) (le→ y z q r k))

pub le-self : (x : Float) → T (finite x) → T (le x x)
le-self x p = →le x x p p (le_refl (plus (sgn x) (num x) * den x + less (sgn x) (num x) * den x))

-- ---- values that are not negative: -0 is one of them
abbrev Zero : Bool → ℕ → Type 0
Zero true a = a ≡ 0
Zero false a = Unit

nonneg : (z x : Float) → T (finite z) → T (finite x) → num z ≡ 0 → T (le z x) → Zero (sgn x) (num x)
nonneg z x p q e h = go (sgn x) (le→ z x p q h)
  where
    go : (s : Bool) → Le (plus (sgn z) (num z)) (less (sgn z) (num z)) (den z) (plus s (num x)) (less s (num x)) (den x) → Zero s (num x)
    go false l = tt
    go true l = vanish (num x) (den z) 0 (den_pos z) (first (plus (sgn z) (num z) * den x) (num x * den z) (den z) (less (sgn z) (num z)) (den x) (gone (sgn z) (num z) e) l)
      where
        gone : (s : Bool) (a : ℕ) → a ≡ 0 → less s a ≡ 0
        gone true a e = e
        gone false a e = refl

        first : (a b c n d : ℕ) → n ≡ 0 → a + b ≤ 0 * c + n * d → b + 0 ≤ 0
        first a b c n d e h = let h' : a + b ≤ 0 * c + 0 * d = rw e at h in omega arith

-- magnitudes in order, and each zero where its sign is negative
nonneg-le : (s : Bool) (a c : ℕ) (t : Bool) (b d : ℕ) → 0 < d → Zero s a → Zero t b → a * d ≤ b * c → Le (plus s a) (less s a) c (plus t b) (less t b) d
nonneg-le false a c false b d D z w h = omega arith
nonneg-le false a c true b d D z w h = let h' : a * d ≤ 0 * c = rw w at h in rw w (omega arith)
nonneg-le true a c false b d D z w h = omega arith
nonneg-le true a c true b d D z w h = rw (z, w) (omega arith)

zero-mul-sign : (s t : Bool) (a b : ℕ) → Zero s a → Zero t b → Zero (unlike s t) (a * b)
zero-mul-sign false false a b z w = tt
zero-mul-sign false true a b z w = rw w (mul-zero a)
zero-mul-sign true false a b z w = rw z (zero-mul b)
zero-mul-sign true true a b z w = tt

mag-le : (s : Bool) (a c : ℕ) (t : Bool) (b d : ℕ) → Zero s a → Zero t b → Le (plus s a) (less s a) c (plus t b) (less t b) d → a * d ≤ b * c
mag-le false a c false b d z w h = omega arith
mag-le false a c true b d z w h = let h' : a * d + 0 * c ≤ 0 * c + 0 * d = rw w at h in rw w (omega arith)
mag-le true a c t b d z w h = rw z (le_trans (le_of_eq (zero-mul d)) zero-le)

pub mul_is : (f : Format) (x y : Float) → T (finite x) → T (finite y) → mul f x y ≡ round f (unlike (sgn x) (sgn y)) (num x * num y) (den x * den y)
unfolding mul
mul_is f nan y p q = absurd p
mul_is f (inf s) y p q = absurd p
mul_is f (fin s m e) nan p q = absurd q
mul_is f (fin s m e) (inf t) p q = absurd q
mul_is f (fin s m e) (fin t n d) p q = refl

-- z is a zero, and x, y are not below it
pub mul_mono : (f : Format) (z x x' y y' : Float) → T (finite z) → num z ≡ 0 → T (finite x) → T (finite x') → T (finite y) → T (finite y')
    → T (le z x) → T (le z y) → T (le x x') → T (le y y') → T (le (mul f x y) (mul f x' y'))
mul_mono f z x x' y y' pz ez p p' q q' zx zy h k =
    let X = nonneg z x pz p ez zx in
    let Y = nonneg z y pz q ez zy in
    let X' = nonneg z x' pz p' ez (le-trans-finite z x x' pz p p' zx h) in
    let Y' = nonneg z y' pz q' ez (le-trans-finite z y y' pz q q' zy k) in
    rw (mul_is f x y p q, mul_is f x' y' p' q')
    (round-le f (unlike (sgn x) (sgn y)) (num x * num y) (den x * den y) (unlike (sgn x') (sgn y')) (num x' * num y') (den x' * den y')
    (mul-pos (den_pos x) (den_pos y)) (mul-pos (den_pos x') (den_pos y'))
    (nonneg-le (unlike (sgn x) (sgn y)) (num x * num y) (den x * den y) (unlike (sgn x') (sgn y')) (num x' * num y') (den x' * den y') (mul-pos (den_pos x') (den_pos y'))
    (zero-mul-sign (sgn x) (sgn y) (num x) (num y) X Y) (zero-mul-sign (sgn x') (sgn y') (num x') (num y') X' Y')
    (le_trans (le_of_eq (mul-mul-mul_comm (num x) (num y) (den x') (den y')))
    (le_trans (mul-le-mul (mag-le (sgn x) (num x) (den x) (sgn x') (num x') (den x') X X' (le→ x x' p p' h)) (mag-le (sgn y) (num y) (den y) (sgn y') (num y') (den y') Y Y' (le→ y y' q q' k)))
    (le_of_eq (mul-mul-mul_comm (num x') (den x) (num y') (den y)))))))

-- ---- division by a value above zero
cond_no : {X : Type 0} (b : Bool) (x y : X) → T (not b) → cond b x y ≡ y
cond_no true x y t = absurd t
cond_no false x y t = refl

not-zero : (m : ℕ) → T (ltb 0 m) → T (not (eqb m 0))
not-zero m h = go (eqb m 0) (eqb→eq m 0)
  where
    go : (b : Bool) → (T b → m ≡ 0) → T (not b)
    go true e = absurd (clash m (ltb→lt 0 m h) (e tt))
      where
        clash : (k : ℕ) → 0 < k → k ≡ 0 → ⊥
        clash k p h = omega arith
    go false e = tt

pub positive-num : (y : Float) → T (positive y) → 0 < num y
positive-num nan p = absurd p
positive-num (inf s) p = absurd p
positive-num (fin true m e) p = absurd p
positive-num (fin false m e) p = mul-pos (ltb→lt 0 m p) (up_pos e)

pub div_is : (f : Format) (x y : Float) → T (finite x) → T (positive y) → div f x y ≡ round f (sgn x) (num x * den y) (num y * den x)
unfolding div
div_is f nan y p q = absurd p
div_is f (inf s) y p q = absurd p
div_is f (fin s m e) nan p q = absurd q
div_is f (fin s m e) (inf t) p q = absurd q
div_is f (fin s m e) (fin true n d) p q = absurd q
div_is f (fin true m e) (fin false n d) p q = cond_no (eqb n 0) _ _ (not-zero n q)
div_is f (fin false m e) (fin false n d) p q = cond_no (eqb n 0) _ _ (not-zero n q)

scale-le : (p n c q m d k l : ℕ) → Le p n c q m d → Le (p * k) (n * k) (l * c) (q * k) (m * k) (l * d)
scale-le p n c q m d k l h =
    let x : (p * d + m * c) * (k * l) ≤ (q * c + n * d) * (k * l) = mul-le-mul_right (k * l) h in
    let X = simp (add-mul, mul_assoc, mul_comm) at x in
    simp (mul_assoc, mul_comm, mul_left_comm) (omega (arith, X))

pub div_mono : (f : Format) (x x' y : Float) → T (finite x) → T (finite x') → T (positive y) → T (le x x') → T (le (div f x y) (div f x' y))
div_mono f x x' y p p' q h =
    rw (div_is f x y p q, div_is f x' y p' q)
    (round-le f (sgn x) (num x * den y) (num y * den x) (sgn x') (num x' * den y) (num y * den x')
    (mul-pos (positive-num y q) (den_pos x)) (mul-pos (positive-num y q) (den_pos x'))
    (simp (plus-mul, less-mul)
    (scale-le (plus (sgn x) (num x)) (less (sgn x) (num x)) (den x) (plus (sgn x') (num x')) (less (sgn x') (num x')) (den x') (den y) (num y) (le→ x x' p p' h))))

-- y / y is 1
pub div_self : (f : Format) (y : Float) → T (positive y) → div f y y ≡ round f false 1 1
div_self f nan q = absurd q
div_self f (inf s) q = absurd q
div_self f (fin true m e) q = absurd q
div_self f (fin false m e) q =
    let y = fin false m e in
    div_is f y y tt q ∙ round_same f false (num y * den y) (num y * den y) 1 1 (mul-pos (positive-num y q) (den_pos y)) (zero-lt-suc 0) (mul_comm (num y * den y) 1)

-- -y / y is -1
pub div-neg-self : (f : Format) (y : Float) → T (positive y) → div f (neg y) y ≡ round f true 1 1
unfolding neg
div-neg-self f nan q = absurd q
div-neg-self f (inf s) q = absurd q
div-neg-self f (fin true m e) q = absurd q
div-neg-self f (fin false m e) q =
    let y = fin false m e in
    div_is f (fin true m e) y tt q ∙ round_same f true (num y * den y) (num y * den y) 1 1 (mul-pos (positive-num y q) (den_pos y)) (zero-lt-suc 0) (mul_comm (num y * den y) 1)

-- ---- the strict order
abbrev pub LtF : Float → Float → Type 0
LtF x y = plus (sgn x) (num x) * den y + less (sgn y) (num y) * den x < plus (sgn y) (num y) * den x + less (sgn x) (num x) * den y

pub lt→ : (x y : Float) → T (finite x) → T (finite y) → T (lt x y) → LtF x y
unfolding lt
lt→ nan y p q h = absurd p
lt→ (inf s) y p q h = absurd p
lt→ (fin s m e) nan p q h = absurd q
lt→ (fin s m e) (inf t) p q h = absurd q
lt→ (fin false m e) (fin false n d) p q h = let k = ltb→lt (m * up e * down d) (n * up d * down e) h in omega arith
lt→ (fin false m e) (fin true n d) p q h = absurd h
lt→ (fin true m e) (fin false n d) p q h = let k = ltb→lt 0 (m * up e * down d + n * up d * down e) h in omega arith
lt→ (fin true m e) (fin true n d) p q h = let k = ltb→lt (n * up d * down e) (m * up e * down d) h in omega arith

pub →lt : (x y : Float) → T (finite x) → T (finite y) → LtF x y → T (lt x y)
unfolding lt
→lt nan y p q h = absurd p
→lt (inf s) y p q h = absurd p
→lt (fin s m e) nan p q h = absurd q
→lt (fin s m e) (inf t) p q h = absurd q
→lt (fin false m e) (fin false n d) p q h = lt→ltb (m * up e * down d) (n * up d * down e) (omega arith)
→lt (fin false m e) (fin true n d) p q h = absurd (none (m * up e * down d) (n * up d * down e) (omega arith))
  where
    none : (A B : ℕ) → A + B < 0 → ⊥
    none A B h = omega arith
→lt (fin true m e) (fin false n d) p q h = lt→ltb 0 (m * up e * down d + n * up d * down e) (omega arith)
→lt (fin true m e) (fin true n d) p q h = lt→ltb (n * up d * down e) (m * up e * down d) (omega arith)

abbrev Lt : ℕ → ℕ → ℕ → ℕ → ℕ → ℕ → Type 0
Lt p n c q m d = p * d + m * c < q * c + n * d

Le-Lt : (p n c q m d r k e : ℕ) → 0 < c → 0 < d → Le p n c q m d → Lt q m d r k e → Lt p n c r k e
Le-Lt p n c q m d r k e C D h g =
    lt_of_mul-lt-mul_right d
    (let a : p * d * e + m * c * e ≤ q * c * e + n * d * e = simp (← add-mul) (mul-le-mul_right e h) in
    let b : q * e * c + k * d * c < r * d * c + m * e * c = simp (← add-mul) (mul-lt-mul_of_pos_right g C) in
    omega (arith, mul_right_comm p d e, mul_right_comm m c e, mul_right_comm q c e, mul_right_comm n d e, mul_right_comm k d c, mul_right_comm r d c, add-mul (p * e) (k * c) d, add-mul (r * c) (n * e) d))

Lt-Le : (p n c q m d r k e : ℕ) → 0 < e → 0 < d → Lt p n c q m d → Le q m d r k e → Lt p n c r k e
Lt-Le p n c q m d r k e C D h g =
    lt_of_mul-lt-mul_right d
    (let a : p * d * e + m * c * e < q * c * e + n * d * e = simp (← add-mul) (mul-lt-mul_of_pos_right h C) in
    let b : q * e * c + k * d * c ≤ r * d * c + m * e * c = simp (← add-mul) (mul-le-mul_right c g) in
    omega (arith, mul_right_comm p d e, mul_right_comm m c e, mul_right_comm q c e, mul_right_comm n d e, mul_right_comm k d c, mul_right_comm r d c, add-mul (p * e) (k * c) d, add-mul (r * c) (n * e) d))

pub le_lt_trans : (x y z : Float) → T (finite x) → T (finite y) → T (finite z) → T (le x y) → T (lt y z) → T (lt x z)
le_lt_trans x y z p q r h k = →lt x z p r (Le-Lt (plus (sgn x) (num x)) (less (sgn x) (num x)) (den x) (plus (sgn y) (num y)) (less (sgn y) (num y)) (den y) (plus (sgn z) (num z)) (less (sgn z) (num z)) (den z) (den_pos x) (den_pos y) (le→ x y p q h) (lt→ y z q r k))

pub lt-le-trans : (x y z : Float) → T (finite x) → T (finite y) → T (finite z) → T (lt x y) → T (le y z) → T (lt x z)
lt-le-trans x y z p q r h k = →lt x z p r (Lt-Le (plus (sgn x) (num x)) (less (sgn x) (num x)) (den x) (plus (sgn y) (num y)) (less (sgn y) (num y)) (den y) (plus (sgn z) (num z)) (less (sgn z) (num z)) (den z) (den_pos z) (den_pos y) (lt→ x y p q h) (le→ y z q r k))

-- ---- the laws, for ranges. The ends are finite: at constants each of those arguments is `tt`
pub Between-finite : (lo x hi : Float) → T (finite lo) → T (finite hi) → Between lo x hi → T (finite x)
Between-finite lo x hi p q b = between-finite lo x hi p q b.low b.high

pub in-add : (f : Format) (lo x hi lo' y hi' : Float) → T (finite lo) → T (finite hi) → T (finite lo') → T (finite hi') → Between lo x hi → Between lo' y hi'
    → Between (add f lo lo') (add f x y) (add f hi hi')
in-add f lo x hi lo' y hi' p q p' q' b b' =
    let X = Between-finite lo x hi p q b in
    let Y = Between-finite lo' y hi' p' q' b' in
    record { low = add-mono f lo x lo' y p X p' Y b.low b'.low; high = add-mono f x hi y hi' X q Y q' b.high b'.high }

pub in-sub : (f : Format) (lo x hi lo' y hi' : Float) → T (finite lo) → T (finite hi) → T (finite lo') → T (finite hi') → Between lo x hi → Between lo' y hi'
    → Between (sub f lo hi') (sub f x y) (sub f hi lo')
in-sub f lo x hi lo' y hi' p q p' q' b b' =
    let X = Between-finite lo x hi p q b in
    let Y = Between-finite lo' y hi' p' q' b' in
    record { low = sub-mono f lo x hi' y p X q' Y b.low b'.high; high = sub-mono f x hi y lo' X q Y p' b.high b'.low }

-- of values from zero up
pub in-mul : (f : Format) (lo x hi lo' y hi' : Float) → T (finite lo) → T (finite hi) → T (finite lo') → T (finite hi') → num lo ≡ 0 → num lo' ≡ 0
    → Between lo x hi → Between lo' y hi' → Between (mul f lo lo') (mul f x y) (mul f hi hi')
in-mul f lo x hi lo' y hi' p q p' q' e e' b b' =
    let X = Between-finite lo x hi p q b in
    let Y = Between-finite lo' y hi' p' q' b' in
    let z : T (le lo lo') = →le lo lo' p p' (zeros (sgn lo) (num lo) (den lo) (sgn lo') (num lo') (den lo') e e') in
    let z' : T (le lo lo) = →le lo lo p p (zeros (sgn lo) (num lo) (den lo) (sgn lo) (num lo) (den lo) e e) in
    record {
      low = mul_mono f lo lo x lo' y p e p X p' Y z' z b.low b'.low;
      high = mul_mono f lo x hi y hi' p e X q Y q' b.low (le-trans-finite lo lo' y p p' Y z b'.low) b.high b'.high;
    }
  where
    zeros : (s : Bool) (a c : ℕ) (t : Bool) (b d : ℕ) → a ≡ 0 → b ≡ 0 → Le (plus s a) (less s a) c (plus t b) (less t b) d
    zeros false a c false b d p q = rw (p, q) (omega arith)
    zeros false a c true b d p q = rw (p, q) (omega arith)
    zeros true a c false b d p q = rw (p, q) (omega arith)
    zeros true a c true b d p q = rw (p, q) (omega arith)

pub in-div : (f : Format) (lo x hi y : Float) → T (finite lo) → T (finite hi) → T (positive y) → Between lo x hi → Between (div f lo y) (div f x y) (div f hi y)
in-div f lo x hi y p q r b =
    let X = Between-finite lo x hi p q b in
    record { low = div_mono f lo x y p X r b.low; high = div_mono f x hi y X q r b.high }

-- ---- a signed value times one above zero
unlike-false : (s : Bool) → unlike s false ≡ s
unlike-false true = refl
unlike-false false = refl

pub positive-sign : (y : Float) → T (positive y) → sgn y ≡ false
positive-sign nan p = absurd p
positive-sign (inf s) p = absurd p
positive-sign (fin true m e) p = absurd p
positive-sign (fin false m e) p = refl

scale-mul : (p n c q m d k l : ℕ) → Le p n c q m d → Le (p * k) (n * k) (c * l) (q * k) (m * k) (d * l)
scale-mul p n c q m d k l h = rw (mul_comm c l, mul_comm d l) (scale-le p n c q m d k l h)

pub mul-mono-by : (f : Format) (x x' y : Float) → T (finite x) → T (finite x') → T (positive y) → T (le x x') → T (le (mul f x y) (mul f x' y))
mul-mono-by f x x' y p p' q h =
    rw (mul_is f x y p (positive-finite y q), mul_is f x' y p' (positive-finite y q), positive-sign y q, unlike-false (sgn x), unlike-false (sgn x'))
    (round-le f (sgn x) (num x * num y) (den x * den y) (sgn x') (num x' * num y) (den x' * den y)
    (mul-pos (den_pos x) (den_pos y)) (mul-pos (den_pos x') (den_pos y))
    (simp (plus-mul, less-mul)
    (scale-mul (plus (sgn x) (num x)) (less (sgn x) (num x)) (den x) (plus (sgn x') (num x')) (less (sgn x') (num x')) (den x') (num y) (den y) (le→ x x' p p' h))))

pub in-mul-by : (f : Format) (lo x hi y : Float) → T (finite lo) → T (finite hi) → T (positive y) → Between lo x hi → Between (mul f lo y) (mul f x y) (mul f hi y)
in-mul-by f lo x hi y p q r b =
    let X = Between-finite lo x hi p q b in
    record { low = mul-mono-by f lo x y p X r b.low; high = mul-mono-by f x hi y X q r b.high }

-- ---- a rounded value lies between two rounded ones where its fraction does: any operation, by its Sum
pub sum-in : (f : Format) (z : Float) (p n c : ℕ) (s : Bool) (a u : ℕ) (t : Bool) (b w : ℕ) → 0 < c → 0 < u → 0 < w → Sum f z p n c
    → Le (plus s a) (less s a) u p n c → Le p n c (plus t b) (less t b) w → Between (round f s a u) z (round f t b w)
sum-in f z p n c s a u t b w C U W k h g = record {
  low = rw k.is (round-le f s a u k.sign k.size c U C (Le-same (plus s a) (less s a) u p n c (plus s a) (less s a) (plus k.sign k.size) (less k.sign k.size) refl k.val h));
  high = rw k.is (round-le f k.sign k.size c t b w C W (Le-same p n c (plus t b) (less t b) w (plus k.sign k.size) (less k.sign k.size) (plus t b) (less t b) k.val refl g));
}

pub sub_is : (f : Format) (x y : Float) → T (finite x) → T (finite y)
    → Sum f (sub f x y) (plus (sgn x) (num x) * den y + less (sgn y) (num y) * den x) (less (sgn x) (num x) * den y + plus (sgn y) (num y) * den x) (den x * den y)
sub_is f x y p q = subst₂ (λ (a b : ℕ). Sum f (sub f x y) a b (den x * den y)) (as-plus (sgn x) (sgn y)) (as-less (sgn x) (sgn y)) (raw x y p q)
  where
    raw : (x y : Float) → T (finite x) → T (finite y)
        → Sum f (sub f x y) (plus (sgn x) (num x * den y) + plus (not (sgn y)) (num y * den x)) (less (sgn x) (num x * den y) + less (not (sgn y)) (num y * den x)) (den x * den y)
    raw nan y p q = absurd p
    raw (inf s) y p q = absurd p
    raw (fin s m e) nan p q = absurd q
    raw (fin s m e) (inf t) p q = absurd q
    raw (fin s m e) (fin t n d) p q = unfold sub neg in sum_is f s (m * up e * down d) (not t) (n * up d * down e) (down e * down d)

    as-plus : (s t : Bool) → plus s (num x * den y) + plus (not t) (num y * den x) ≡ plus s (num x) * den y + less t (num y) * den x
    as-plus s true = ap (λ (z : ℕ). z + num y * den x) (plus-mul s (num x) (den y))
    as-plus s false = ap₂ ◌+◌ (plus-mul s (num x) (den y)) (sym (zero-mul (den x)))

    as-less : (s t : Bool) → less s (num x * den y) + less (not t) (num y * den x) ≡ less s (num x) * den y + plus t (num y) * den x
    as-less s true = ap₂ ◌+◌ (less-mul s (num x) (den y)) (sym (zero-mul (den x)))
    as-less s false = ap (λ (z : ℕ). z + num y * den x) (less-mul s (num x) (den y))

-- ---- a value within -a to a, times one above zero that is at most b, lies within -(a * b) to a * b
pub neg-neg : (x : Float) → neg (neg x) ≡ x
unfolding neg
neg-neg nan = refl
neg-neg (inf true) = refl
neg-neg (inf false) = refl
neg-neg (fin true m e) = refl
neg-neg (fin false m e) = refl

round-not : (f : Format) (s : Bool) (a c : ℕ) → round f (not s) a c ≡ neg (round f s a c)
round-not f false a c = round-neg f a c
round-not f true a c = sym (neg-neg (round f false a c)) ∙ ap neg (sym (round-neg f a c))

unlike-not : (s t : Bool) → unlike (not s) t ≡ not (unlike s t)
unlike-not true true = refl
unlike-not true false = refl
unlike-not false true = refl
unlike-not false false = refl

pub mul-neg : (f : Format) (x y : Float) → T (finite x) → T (finite y) → mul f (neg x) y ≡ neg (mul f x y)
mul-neg f nan y p q = absurd p
mul-neg f (inf s) y p q = absurd p
mul-neg f (fin s m e) y p q =
    unfold neg in mul_is f (fin (not s) m e) y tt q ∙ ap (λ (b : Bool). round f b (m * up e * num y) (down e * den y)) (unlike-not s (sgn y)) ∙ round-not f (unlike s (sgn y)) (m * up e * num y) (down e * den y)
    ∙ ap neg (sym (mul_is f (fin s m e) y tt q))

pub neg-order : (x y : Float) → T (le y x) → T (le (neg x) (neg y))
neg-order x y h = neg-le x y h

-- z is a zero
pub in-mul-abs : (f : Format) (z a x y b : Float) → T (finite z) → num z ≡ 0 → T (finite a) → T (le z a) → T (positive y) → T (le z y) → T (finite b) → T (le y b) → T (finite (mul f a b)) → T (finite (mul f z z))
    → T (le z z) → Between (neg a) x a → Between (neg (mul f a b)) (mul f x y) (mul f a b)
in-mul-abs f z a x y b Z E A za Y zy B yb F G zz k =
    let X = Between-finite (neg a) x a (neg-finite a A) A k in
    let Yf = positive-finite y Y in
    let top : T (le (mul f a y) (mul f a b)) = mul_mono f z a a y b Z E A A Yf B za zy (le-self a A) yb in
    let bottom : T (le (mul f z z) (mul f a y)) = mul_mono f z z a z y Z E Z A Z Yf zz zz za zy in
    let M : T (finite (mul f a y)) = between-finite (mul f z z) (mul f a y) (mul f a b) G F bottom top in
    let xy : T (finite (mul f x y)) = between-finite (mul f (neg a) y) (mul f x y) (mul f a y) (rw (mul-neg f a y A Yf) (neg-finite (mul f a y) M)) M (mul-mono-by f (neg a) x y (neg-finite a A) X Y k.low) (mul-mono-by f x a y X A Y k.high) in
    record {
      low = le-trans-finite (neg (mul f a b)) (neg (mul f a y)) (mul f x y) (neg-finite (mul f a b) F) (neg-finite (mul f a y) M) xy (neg-le (mul f a b) (mul f a y) top)
          (subst (λ (w : Float). T (le w (mul f x y))) (mul-neg f a y A Yf) (mul-mono-by f (neg a) x y (neg-finite a A) X Y k.low));
      high = le-trans-finite (mul f x y) (mul f a y) (mul f a b) xy M F (mul-mono-by f x a y X A Y k.high) top;
    }
