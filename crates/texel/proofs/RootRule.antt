-- The square root by the nearest-value rule. `sqrt_of x` is the correctly rounded root of x, and no other f32 is: the search finds a pattern
-- that keeps the rule, the rule fixes its pattern, and it sees only the fraction that x is. The root keeps the order, so a range goes
-- through it: from 0 to 1 into 0 to 1, from 1 to 4 into 1 to 2. Assumes nothing.
use mathlib.Core.Path.{◌≡◌, refl, sym, ap, ◌∙◌, subst, subst₂}
use mathlib.Core.Logic.{⊎_elim}
use Prim.Native.Nat.{ℕ, ◌+◌, ◌-◌, ◌*◌, ◌%◌, ◌^◌, ◌≤◌, ◌<◌, zero-le}
use native.Mathlib.Nat.{le_trans, le_of_eq, le_of_suc-le-suc, lt_of_le_of_lt, lt_of_not-le, not-le_of_lt, zero-mul, mul-one, mul_comm, mul_assoc, mul_right_comm, mul-pos, mul-le-mul_left, mul-le-mul_right, le_of_mul-le-mul_right, mul-lt-mul_of_pos_right, lt_of_mul-lt-mul_right, pow-lt-pow_left}
use native.Mathlib.Omega.{arith}
use mathlib.Core.Bool.{Bool, true, false}
use lib.Dec.{T, leb, ltb, eqb, leb→le, ltb→lt, le→leb, lt→ltb, lit<, lit≤}
use lib.Pow.{pow_pos}
use lib.Ieee.{Float, binary32, le, lt, of_bits, to_bits, fits}
use lib.Ieee.Fits.{and_i, and_l, and_r}
use lib.Ieee.Scale.{finite}
use lib.Ieee.Positive.{num, den, den_pos, positive, positive-finite}
use Rattle.rules.specs.Floats.{Between, zero32, one32, two32, four32, largest}
use Rattle.rules.specs.NearestValue.{units, within, nearest_root, reaches, found, root_pattern}
use Rattle.rules.specs.Root.{RootOf, sqrt_of}
use Rattle.texel.proofs.Range.{plus, less, sgn, lt→, →lt, positive-num, positive-sign, Between-finite, le-trans-finite}
use Rattle.texel.proofs.FromZero.{no_sign, fractions-le, fraction-le, zero-or-above}
use Rattle.texel.proofs.Magnitudes.{wider}
use Rattle.texel.proofs.Units.{units-le, units_lt}
use Rattle.texel.proofs.Unique.{reached-le, nearest-reached, nearest-mono, unique, mul-pow, nearest-found}
use Rattle.texel.proofs.Patterns.{pattern-le, cross}

-- ---- the rule sees only the fraction: n / d is n' / d'
within-scale : (k : Bool) (l v h a b : ℕ) → 0 < a → 0 < b → (l' v' h' : ℕ) → l * a ≡ l' * b → v * a ≡ v' * b → h * a ≡ h' * b → T (within k l v h) → T (within k l' v' h')
within-scale true l v h a b A B l' v' h' p q r t =
    and_i (leb l' v') (leb v' h')
    (le→leb l' v' (le_of_mul-le-mul_right (subst₂ (λ (x y : ℕ). x ≤ y) p q (mul-le-mul_right a (leb→le l v (and_l (leb l v) (leb v h) t)))) B))
    (le→leb v' h' (le_of_mul-le-mul_right (subst₂ (λ (x y : ℕ). x ≤ y) q r (mul-le-mul_right a (leb→le v h (and_r (leb l v) (leb v h) t)))) B))
within-scale false l v h a b A B l' v' h' p q r t =
    and_i (ltb l' v') (ltb v' h')
    (lt→ltb l' v' (lt_of_mul-lt-mul_right b (subst₂ (λ (x y : ℕ). x < y) p q (mul-lt-mul_of_pos_right (ltb→lt l v (and_l (ltb l v) (ltb v h) t)) A))))
    (lt→ltb v' h' (lt_of_mul-lt-mul_right b (subst₂ (λ (x y : ℕ). x < y) q r (mul-lt-mul_of_pos_right (ltb→lt v h (and_r (ltb l v) (ltb v h) t)) A))))

pub nearest-same : (p n d n' d' b : ℕ) → 0 < d → 0 < d' → n * d' ≡ n' * d → T (nearest_root p n d b) → T (nearest_root p n' d' b)
unfolding nearest_root
nearest-same p n d n' d' b D D' e t =
    within-scale (eqb (b % 2) 0) ((units (b - 1) + units b) ^ p * d) ((2 ^ 150) ^ p * n) ((units b + units (b + 1)) ^ p * d) d' d D' D
    ((units (b - 1) + units b) ^ p * d') ((2 ^ 150) ^ p * n') ((units b + units (b + 1)) ^ p * d')
    (mul_right_comm ((units (b - 1) + units b) ^ p) d d')
    (mul_assoc ((2 ^ 150) ^ p) n d' ∙ ap (λ (z : ℕ). (2 ^ 150) ^ p * z) e ∙ sym (mul_assoc ((2 ^ 150) ^ p) n' d))
    (mul_right_comm ((units b + units (b + 1)) ^ p) d d') t

-- ---- one root only
pub root-unique : (x r r' : Float) → RootOf x r → RootOf x r' → r ≡ r'
root-unique x r r' a b = a.is ∙ ap (of_bits binary32) (unique 1 (num x) (den x) a.pattern b.pattern (den_pos x) a.nearest b.nearest) ∙ sym b.is

-- ---- a root that is at most the value of a pattern q has a pattern that is at most q
sum_lt : (u a b : ℕ) → u ≤ a → u < b → 2 * u < a + b
sum_lt u a b h g = omega arith

at_most : (n d p q : ℕ) → 0 < d → (2 ^ 149) ^ 2 * n ≤ units q ^ 2 * d → T (nearest_root 2 n d p) → p ≤ q
at_most n d p q D h t = le_of_suc-le-suc (lt_of_not-le (λ (l : q < p). over l))
  where
    over : q < p → ⊥
    over l =
        let g : 2 * units q < units (p - 1) + units p = sum_lt (units q) (units (p - 1)) (units p) (units-le q (p - 1) (omega arith)) (units_lt q p l) in
        let k : (2 * units q) ^ 2 * d < (units (p - 1) + units p) ^ 2 * d = mul-lt-mul_of_pos_right (pow-lt-pow_left g two-not-zero) D in
        let w = reached-le 2 n d p (nearest-reached 2 n d p t) in
        clash ((2 ^ 149) ^ 2 * n) (units q ^ 2 * d) ((2 ^ 150) ^ 2 * n) ((2 * units q) ^ 2 * d) ((units (p - 1) + units p) ^ 2 * d) h (mul_assoc 4 ((2 ^ 149) ^ 2) n) (four (units q)) k w
      where
        two-not-zero : ◌≡◌ {A = ℕ} 2 0 → ⊥
        two-not-zero h = omega arith

        four : (u : ℕ) → (2 * u) ^ 2 * d ≡ 4 * (u ^ 2 * d)
        four u = ap (λ (z : ℕ). z * d) (mul-pow 2 u 2) ∙ mul_assoc 4 (u ^ 2) d

        clash : (a b a4 b4 c : ℕ) → a ≤ b → a4 ≡ 4 * a → b4 ≡ 4 * b → b4 < c → c ≤ a4 → ⊥
        clash a b a4 b4 c h e f k w = omega arith

-- n / d is at most l, and the root of l at most u units
in-units : (n d l u : ℕ) → n * 1 ≤ l * d → (2 ^ 149) ^ 2 * l ≤ u ^ 2 → (2 ^ 149) ^ 2 * n ≤ u ^ 2 * d
in-units n d l u h g =
    le_trans (mul-le-mul_left ((2 ^ 149) ^ 2) (le_trans (le_of_eq (sym (mul-one n))) h))
    (le_trans (le_of_eq (sym (mul_assoc ((2 ^ 149) ^ 2) l d))) (mul-le-mul_right d g))

-- ---- `sqrt_of x` is the correctly rounded root
size : (x : Float) → Between zero32 x largest → num x * 1 ≤ num largest * den x
unfolding of_bits
size x b = fraction-le x largest (Between-finite zero32 x largest tt tt b) tt b.low b.high

near : (x : Float) → Between zero32 x largest → T (nearest_root 2 (num x) (den x) (root_pattern 2 (num x) (den x)))
unfolding of_bits
near x b =
    nearest-found 1 (num x) (den x) (den_pos x)
    (lt_of_le_of_lt (le_trans (le_of_eq (sym (mul-one (num x)))) (size x b)) (mul-lt-mul_of_pos_right (lit< tt) (den_pos x)))

pub root-of : (x : Float) → Between zero32 x largest → RootOf x (sqrt_of x)
unfolding of_bits sqrt_of units
root-of x b = record {
  pattern = root_pattern 2 (num x) (den x);
  is = refl;
  small = lt_of_le_of_lt (at_most (num x) (den x) (root_pattern 2 (num x) (den x)) 2139095039 (den_pos x) (in-units (num x) (den x) (num largest) (units 2139095039) (size x b) (lit≤ tt)) (near x b)) (lit< tt);
  nearest = near x b;
}

pub root_is : (x r : Float) → Between zero32 x largest → RootOf x r → r ≡ sqrt_of x
root_is x r b k = root-unique x r (sqrt_of x) k (root-of x b)

-- ---- the root keeps the order, so a range goes through it
pub root-mono : (x y : Float) → Between zero32 x largest → Between zero32 y largest → T (le x y) → T (le (sqrt_of x) (sqrt_of y))
unfolding of_bits
root-mono x y b k h =
    let r = root-of x b in
    let s = root-of y k in
    let D = mul-pos (den_pos x) (den_pos y) in
    rw (r.is, s.is)
    (pattern-le r.pattern s.pattern
    (nearest-mono 1 (num x * den y) (num y * den x) (den x * den y) r.pattern s.pattern D
    (fractions-le x y (Between-finite zero32 x largest tt tt b) (Between-finite zero32 y largest tt tt k) b.low k.low h)
    (nearest-same 2 (num x) (den x) (num x * den y) (den x * den y) r.pattern (den_pos x) D (one (num x) (den x) (den y)) r.nearest)
    (nearest-same 2 (num y) (den y) (num y * den x) (den x * den y) s.pattern (den_pos y) D (two (num y) (den x) (den y)) s.nearest))
    s.small)
  where
    one : (n c d : ℕ) → n * (c * d) ≡ n * d * c
    one n c d = simp (mul_assoc, mul_comm)

    two : (n c d : ℕ) → n * (c * d) ≡ n * c * d
    two n c d = sym (mul_assoc n c d)

pub in-root : (lo x hi : Float) → Between zero32 lo largest → Between zero32 hi largest → Between lo x hi → Between (sqrt_of lo) (sqrt_of x) (sqrt_of hi)
unfolding of_bits
in-root lo x hi l h b =
    let L = Between-finite zero32 lo largest tt tt l in
    let H = Between-finite zero32 hi largest tt tt h in
    let k = wider lo x hi zero32 largest L H tt tt l.low h.high b in
    record { low = root-mono lo x l k b.low; high = root-mono x hi k h b.high }

-- ---- the root of a value from 0 to 1
one-largest : T (le one32 largest)
unfolding of_bits le
one-largest = tt

pub widen : {x : Float} → Between zero32 x one32 → Between zero32 x largest
unfolding of_bits
widen {x} b = record { low = b.low; high = le-trans-finite x one32 largest (Between-finite zero32 x one32 tt tt b) tt tt b.high one-largest }

pub root_in : (x : Float) → Between zero32 x one32 → Between zero32 (sqrt_of x) one32
unfolding of_bits le sqrt_of root_pattern found reaches units
root_in x b = in-root zero32 x one32 (record { low = tt; high = tt }) (record { low = tt; high = tt }) b

-- ---- and from 1 to 4
pub root-from-one : (x : Float) → Between one32 x four32 → Between one32 (sqrt_of x) two32
unfolding of_bits le sqrt_of root_pattern found reaches units
root-from-one x b = in-root one32 x four32 (record { low = tt; high = tt }) (record { low = tt; high = tt }) b

-- ---- from the code to the rule: the root of a value above zero by its pattern, and that of a zero
pub root-of-pattern : (x : Float) (p : ℕ) → Between zero32 x largest → T (fits binary32 x) → T (positive x) → T (nearest_root 2 (units (to_bits binary32 x)) (2 ^ 149) p) → p < 2139095040 → of_bits binary32 p ≡ sqrt_of x
root-of-pattern x p b f h t l =
    root_is x (of_bits binary32 p) b
    (record { pattern = p; is = refl; small = l; nearest = nearest-same 2 (units (to_bits binary32 x)) (2 ^ 149) (num x) (den x) p (pow_pos 149) (den_pos x) (sym (cross x f h)) t })

zero-near : (d : ℕ) → T (nearest_root 2 0 d 0)
unfolding nearest_root
zero-near d = and_i (leb ((units 0 + units 0) ^ 2 * d) 0) (leb 0 ((units 0 + units 1) ^ 2 * d)) (le→leb ((units 0 + units 0) ^ 2 * d) 0 (le_of_eq (zero-mul d))) (le→leb 0 ((units 0 + units 1) ^ 2 * d) zero-le)

pub root-of-zero : (x : Float) → Between zero32 x largest → num x ≡ 0 → zero32 ≡ sqrt_of x
root-of-zero x b h =
    root_is x zero32 b
    (record { pattern = 0; is = refl; small = lit< tt; nearest = subst (λ (z : ℕ). T (nearest_root 2 z (den x) 0)) (sym h) (zero-near (den x)) })

-- what the test x > 0 says
pub test-above : (x : Float) → Between zero32 x largest → lt zero32 x ≡ true → T (positive x)
unfolding of_bits
test-above x b h =
    let f = Between-finite zero32 x largest tt tt b in
    ⊎_elim (λ z. absurd (not-le_of_lt (lt→ zero32 x tt f (subst T (sym h) tt)) (at_zero x f b.low z))) (λ p. p) (zero-or-above x f b.low)
  where
    at_zero : (x : Float) → T (finite x) → T (le zero32 x) → num x ≡ 0 → plus (sgn x) (num x) * 1 + 0 * den x ≤ 0 * den x + less (sgn x) (num x) * 1
    at_zero x f l z = let s = no_sign x f l in let a = s.0 in let b = s.1 in omega arith

pub test_zero : (x : Float) → Between zero32 x largest → lt zero32 x ≡ false → num x ≡ 0
unfolding of_bits
test_zero x b h = ⊎_elim (λ z. z) (λ p. absurd (subst T h (above x p))) (zero-or-above x (Between-finite zero32 x largest tt tt b) b.low)
  where
    above : (x : Float) → T (positive x) → T (lt zero32 x)
    above x p = let k = positive-num x p in let s = positive-sign x p in →lt zero32 x tt (positive-finite x p) (rw s (omega arith))
