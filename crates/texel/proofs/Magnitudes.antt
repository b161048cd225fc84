-- Bounds on magnitudes. That |x| ≤ a is said as -a ≤ x ≤ a, for an a above zero; of the fractions that they are it says num x / den x ≤
-- num a / den a. So |x| ≤ a and |y| ≤ b give |x * y| ≤ a * b, each product rounded, and |x / y| ≤ a for a y that is at least 1. Beside these:
-- a range inside another, a product of ranges from zero up, a square, and 0 / y. Assumes nothing.
use mathlib.Core.Path.{◌≡◌, refl, ap, ◌∙◌, subst}
use mathlib.Core.Bool.{Bool, true, false}
use Prim.Native.Nat.{ℕ, ◌+◌, ◌*◌, ◌≤◌, ◌<◌}
use native.Mathlib.Nat.{le_trans, le_of_eq, zero-lt-suc, mul_assoc, mul_comm, mul_right_comm, mul-pos, mul-le-mul, mul-mul-mul_comm}
use native.Mathlib.Omega.{arith}
use lib.IntN.{pos}
use lib.Dec.{T}
use lib.Ieee.{Float, nan, inf, fin, Format, binary32, unlike, fits, round, neg, mul, div, le, of_bits}
use lib.Ieee.Order.{round_mono}
use lib.Ieee.Scale.{finite, round_same}
use lib.Ieee.Positive.{num, den, den_pos, positive, positive-finite, between}
use Rattle.rules.specs.Floats.{Between, zero32, one32, minus1, square_of}
use Rattle.texel.proofs.Range.{plus, less, sgn, Le, le→, →le, le-self, round-neg, round-le, neg-neg, neg-order, mul_is, mul_mono, div_is, positive-num, positive-sign, neg-finite, Between-finite, le-trans-finite}
use Rattle.texel.proofs.Same.{round-own}

-- |x| ≤ a
abbrev pub Within : Float → Float → Type 0
Within a x = Between (neg a) x a

pub within-finite : (a x : Float) → T (positive a) → Within a x → T (finite x)
within-finite a x p b = let F = positive-finite a p in Between-finite (neg a) x a (neg-finite a F) F b

pub within-self : (a : Float) → T (positive a) → Within a a
unfolding neg
within-self nan p = absurd p
within-self (inf s) p = absurd p
within-self (fin true m e) p = absurd p
within-self (fin false m e) p = record { low = →le (fin true m e) (fin false m e) tt tt (omega arith); high = le-self (fin false m e) tt }

pub within-neg : (a x : Float) → Within a x → Within a (neg x)
within-neg a x b = record { low = neg-order a x b.high; high = subst (λ (z : Float). T (le (neg x) z)) (neg-neg a) (neg-order x (neg a) b.low) }

-- a range inside another
pub wider : (lo x hi lo' hi' : Float) → T (finite lo) → T (finite hi) → T (finite lo') → T (finite hi') → T (le lo' lo) → T (le hi hi') → Between lo x hi → Between lo' x hi'
wider lo x hi lo' hi' p q p' q' l h b =
    let X = Between-finite lo x hi p q b in
    record { low = le-trans-finite lo' lo x p' p X l b.low; high = le-trans-finite x hi hi' X q q' b.high h }

pub within_wider : (a b x : Float) → T (positive a) → T (positive b) → T (le a b) → Within a x → Within b x
within_wider a b x p q h k =
    let A = positive-finite a p in
    let B = positive-finite b q in
    wider (neg a) x a (neg b) b (neg-finite a A) A (neg-finite b B) B (neg-order b a h) h k

-- of the fractions
pub within-le : (a x : Float) → T (positive a) → Within a x → num x * den a ≤ num a * den x
unfolding neg
within-le a x p b = go a x p (within-finite a x p b) b
  where
    go : (a x : Float) → T (positive a) → T (finite x) → Within a x → num x * den a ≤ num a * den x
    go nan x p q b = absurd p
    go (inf s) x p q b = absurd p
    go (fin true n d) x p q b = absurd p
    go (fin false n d) nan p q b = absurd q
    go (fin false n d) (inf s) p q b = absurd q
    go (fin false n d) (fin true m e) p q b = let k = le→ (fin true n d) (fin true m e) tt tt b.low in omega arith
    go (fin false n d) (fin false m e) p q b = let k = le→ (fin false m e) (fin false n d) tt tt b.high in omega arith

-- and back, of fractions that are rounded
pub round-within : (f : Format) (s : Bool) (a c b d : ℕ) → 0 < c → 0 < d → a * d ≤ b * c → Within (round f false b d) (round f s a c)
round-within f s a c b d C D h = record {
  low = rw (← round-neg f b d) (round-le f true b d s a c D C (below s));
  high = round-le f s a c false b d C D (above s);
}
  where
    below : (s : Bool) → Le 0 b d (plus s a) (less s a) c
    below true = omega arith
    below false = omega arith

    above : (s : Bool) → Le (plus s a) (less s a) c b 0 d
    above true = omega arith
    above false = omega arith

-- ---- a product, and a quotient by a y that is at least 1
pub within-mul : (f : Format) (a x b y : Float) → T (positive a) → T (positive b) → Within a x → Within b y → Within (mul f a b) (mul f x y)
within-mul f a x b y p q h k =
    rw (mul_is f x y (within-finite a x p h) (within-finite b y q k), mul_is f a b (positive-finite a p) (positive-finite b q), positive-sign a p, positive-sign b q)
    (round-within f (unlike (sgn x) (sgn y)) (num x * num y) (den x * den y) (num a * num b) (den a * den b) (mul-pos (den_pos x) (den_pos y)) (mul-pos (den_pos a) (den_pos b))
    (le_trans (le_of_eq (mul-mul-mul_comm (num x) (num y) (den a) (den b)))
    (le_trans (mul-le-mul (within-le a x p h) (within-le b y q k)) (le_of_eq (mul-mul-mul_comm (num a) (den x) (num b) (den y))))))

from_one : (y : Float) → T (positive y) → T (le one32 y) → den y ≤ num y
unfolding of_bits
from_one y q h = let k : 1 * den y + 0 * 1 ≤ num y * 1 + 0 * den y = rw (positive-sign y q) at (le→ one32 y tt (positive-finite y q) h) in omega arith

pub within-div : (f : Format) (a x y hi : Float) → T (positive a) → T (fits f a) → T (positive hi) → Between one32 y hi → Within a x → Within a (div f x y)
unfolding of_bits
within-div f a x y hi p h t l b =
    let q = between one32 y hi tt t l.low l.high in
    let own : round f false (num a) (den a) ≡ a = rw (positive-sign a p) at (round-own f a (positive-finite a p) h) in
    subst (λ (z : Float). Within z (div f x y)) own
    (rw (div_is f x y (within-finite a x p b) q)
    (round-within f (sgn x) (num x * den y) (num y * den x) (num a) (den a) (mul-pos (positive-num y q) (den_pos x)) (den_pos a)
    (le_trans (le_of_eq (mul_right_comm (num x) (den y) (den a)))
    (le_trans (mul-le-mul (within-le a x p b) (from_one y q l.low)) (le_of_eq (mul_assoc (num a) (den x) (num y) ∙ ap (λ (z : ℕ). num a * z) (mul_comm (den x) (num y))))))))

-- ---- a product of ranges from zero up, a square, and 0 / y
pub in-mul-from : (f : Format) (lo x hi lo' y hi' : Float) → T (finite lo) → T (finite hi) → T (finite lo') → T (finite hi') → T (le zero32 lo) → T (le zero32 lo')
    → Between lo x hi → Between lo' y hi' → Between (mul f lo lo') (mul f x y) (mul f hi hi')
unfolding of_bits
in-mul-from f lo x hi lo' y hi' p q p' q' z z' b b' =
    let X = Between-finite lo x hi p q b in
    let Y = Between-finite lo' y hi' p' q' b' in
    record {
      low = mul_mono f zero32 lo x lo' y tt refl p X p' Y z z' b.low b'.low;
      high = mul_mono f zero32 x hi y hi' tt refl X q Y q' (le-trans-finite zero32 lo x tt p X z b.low) (le-trans-finite zero32 lo' y tt p' Y z' b'.low) b.high b'.high;
    }

square-of : (s : Bool) → unlike s s ≡ false
square-of true = refl
square-of false = refl

pub square-in : (u : Float) → Between minus1 u one32 → Between zero32 (square_of u) one32
unfolding of_bits round
square-in u b =
    let F = within-finite one32 u tt b in
    record {
      low =
          rw (mul_is binary32 u u F F, square-of (sgn u))
          (round_mono binary32 0 1 (num u * num u) (den u * den u) (zero-lt-suc 0) (mul-pos (den_pos u) (den_pos u)) (omega arith));
      high = unfold mul in (within-mul binary32 one32 u one32 u tt tt b b).high;
    }

pub div-nought : (f : Format) (y : Float) → T (positive y) → div f (fin false 0 (pos 0)) y ≡ round f false 0 1
div-nought f y p =
    div_is f (fin false 0 (pos 0)) y tt p
    ∙ round_same f false (0 * den y) (num y * 1) 0 1 (mul-pos (positive-num y p) (zero-lt-suc 0)) (zero-lt-suc 0) (omega arith)
