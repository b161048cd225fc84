-- The inverse of the sRGB curve. T grows with the byte, from 0 at 0 to 1 at 255, since the curve does and the nearest value keeps the order.
-- `encode_of x` is the greatest byte whose value is at most x, and no other byte is. Where the byte k has a value at most x and the byte
-- k + 1 has not, it is k; patterns have the order of their values, so an index on the pattern leaves two bytes. Assumes nothing.
use mathlib.Core.Path.{◌≡◌, refl, sym, ap, ◌∙◌, subst}
use mathlib.Core.Logic.{inl, inr, ⊎_elim}
use mathlib.Core.Bool.{Bool, true, false, not, cond}
use Prim.Native.Nat.{ℕ, zero, suc, ◌+◌, ◌-◌, ◌*◌, ◌/◌, ◌%◌, ◌^◌, ◌≤◌, ◌<◌, zero-le}
use native.Mathlib.Nat.{le_refl, le_trans, le_of_eq, le_of_suc-le-suc, le_antisymm, lt_of_lt_of_le, lt_of_le_of_lt, lt_of_not-le, not-le_of_lt, eq-or-lt_of_le, pow-le-pow_left}
use native.Mathlib.Omega.{arith}
use native.Mathlib.Decide.{dec_le}
use lib.Dec.{T, leb, le→leb, lit<, lit≤}
use lib.Arith.{lt→nleb}
use lib.Ieee.{Float, binary32, le, of_bits, to_bits, fits}
use lib.Ieee.Scale.{finite}
use Rattle.rules.specs.Floats.{Between, zero32, one32}
use Rattle.rules.specs.NearestValue.{nearest_root}
use Rattle.rules.specs.Curve.{nearest_curve, curve_pattern, curve, greatest_up_to, encode_of, Greatest}
use Rattle.texel.specs.Tables.{bucket, Entry, Bucket}
use Rattle.texel.proofs.Range.{Between-finite, le-trans-finite}
use Rattle.texel.proofs.Unique.{nearest-mono}
use Rattle.texel.proofs.Patterns.{Unsigned, unsigned, pattern-finite, pattern-le, le-pattern}
use Rattle.texel.proofs.Table.{curve-nearest}

-- ---- T grows
cond-first : (s a b : Bool) → T s → T (cond s a b) → T a
cond-first true a b h t = t
cond-first false a b h t = absurd h

cond-second : (s a b : Bool) → T (not s) → T (cond s a b) → T b
cond-second true a b h t = absurd h
cond-second false a b h t = t

low-root : (k : ℕ) → k ≤ 10 → T (nearest_root 1 (100 * k) 329460 (curve_pattern k))
unfolding nearest_curve
low-root k h = cond-first (leb k 10) _ _ (le→leb k 10 h) (curve-nearest k (omega arith))

high-root : (k : ℕ) → 10 < k → k < 256 → T (nearest_root 5 ((1000 * k + 14025) ^ 12) (269025 ^ 12) (curve_pattern k))
unfolding nearest_curve
high-root k h l = cond-second (leb k 10) _ _ (lt→nleb k 10 h) (curve-nearest k l)

low_step : (k : ℕ) → k + 1 ≤ 10 → curve_pattern k ≤ curve_pattern (k + 1)
low_step k h = nearest-mono 0 (100 * k) (100 * (k + 1)) 329460 (curve_pattern k) (curve_pattern (k + 1)) (lit< tt) (omega arith) (low-root k (omega arith)) (low-root (k + 1) h)

high-step : (k : ℕ) → 10 < k → k + 1 < 256 → curve_pattern k ≤ curve_pattern (k + 1)
high-step k h l =
    nearest-mono 4 ((1000 * k + 14025) ^ 12) ((1000 * (k + 1) + 14025) ^ 12) (269025 ^ 12) (curve_pattern k) (curve_pattern (k + 1)) (lit< tt)
    (pow-le-pow_left (more k) 12) (high-root k h (omega arith)) (high-root (k + 1) (omega arith) l)
  where
    more : (k : ℕ) → 1000 * k + 14025 ≤ 1000 * (k + 1) + 14025
    more k = omega arith

join : curve_pattern 10 ≤ curve_pattern 11
unfolding curve_pattern
join = lit≤ tt

step : (k : ℕ) → k + 1 < 256 → curve_pattern k ≤ curve_pattern (k + 1)
step k h = elim (dec_le (k + 1) 10) [
  | yes l ↦ low_step k l
  | no n ↦ elim (eq-or-lt_of_le (above k (lt_of_not-le n))) [ inl e ↦ subst (λ (z : ℕ). curve_pattern z ≤ curve_pattern (z + 1)) e join | inr l ↦ high-step k l h ]
]
  where
    above : (k : ℕ) → 10 < k + 1 → 10 ≤ k
    above k h = omega arith

pub pattern-mono : (k j : ℕ) → k ≤ j → j < 256 → curve_pattern k ≤ curve_pattern j
pattern-mono k j h l = subst (λ (z : ℕ). curve_pattern k ≤ curve_pattern z) (back k j h) (go (j - k) (omega arith))
  where
    back : (k j : ℕ) → k ≤ j → k + (j - k) ≡ j
    back k j h = omega arith

    none : (k : ℕ) → k ≡ k + 0
    none k = omega arith

    more : (k i : ℕ) → k + i + 1 ≡ k + suc i
    more k i = omega arith

    go : (i : ℕ) → k + i < 256 → curve_pattern k ≤ curve_pattern (k + i)
    go zero h = le_of_eq (ap curve_pattern (none k))
    go (suc i) h = le_trans (go i (omega arith)) (le_trans (step (k + i) (omega arith)) (le_of_eq (ap curve_pattern (more k i))))

pub curve-zero : curve 0 ≡ zero32
unfolding curve curve_pattern
curve-zero = refl

last-is : curve_pattern 255 ≡ 1065353216
unfolding curve_pattern
last-is = refl

pub pattern-small : (k : ℕ) → k < 256 → curve_pattern k ≤ 1065353216
pattern-small k h = subst (λ (z : ℕ). curve_pattern k ≤ z) last-is (pattern-mono k 255 (le_of_suc-le-suc h) (lit< tt))

under_top : (k : ℕ) → k < 256 → curve_pattern k < 2139095040
under_top k h = lt_of_le_of_lt (pattern-small k h) (lit< tt)

pub curve-mono : (k j : ℕ) → k ≤ j → j < 256 → T (le (curve k) (curve j))
unfolding curve
curve-mono k j h l = pattern-le (curve_pattern k) (curve_pattern j) (pattern-mono k j h l) (under_top j l)

-- T lies in 0 to 1
pub curve-in : (k : ℕ) → k < 256 → Between zero32 (curve k) one32
unfolding curve
curve-in k h = record { low = pattern-le 0 (curve_pattern k) zero-le (under_top k h); high = pattern-le (curve_pattern k) 1065353216 (pattern-small k h) (lit< tt) }

pub curve-finite : (k : ℕ) → k < 256 → T (finite (curve k))
unfolding of_bits
curve-finite k h = Between-finite zero32 (curve k) one32 tt tt (curve-in k h)

-- ---- the greatest byte whose value is at most x
record UpTo (n : ℕ) (x : Float) (k : ℕ) : Type 0 where
  pub small : k ≤ n
  pub fits : T (le (curve k) x)
  pub most : (j : ℕ) → j ≤ n → T (le (curve j) x) → j ≤ k

up_to : (n : ℕ) (x : Float) → T (le (curve 0) x) → UpTo n x (greatest_up_to n x)
unfolding greatest_up_to
up_to zero x z = record { small = le_refl 0; fits = z; most = λ j h t. h }
up_to (suc n) x z = go (le (curve (suc n)) x) refl (up_to n x z)
  where
    go : (b : Bool) → le (curve (suc n)) x ≡ b → UpTo n x (greatest_up_to n x) → UpTo (suc n) x (cond b (suc n) (greatest_up_to n x))
    go true e u = record { small = le_refl (suc n); fits = subst T (sym e) tt; most = λ j h t. h }
    go false e u = record {
      small = let l = u.small in omega arith;
      fits = u.fits;
      most = λ j h t. ⊎_elim (λ i. absurd (subst T (ap (λ (m : ℕ). le (curve m) x) i ∙ e) t)) (λ l. u.most j (le_of_suc-le-suc l) t) (eq-or-lt_of_le h);
    }

zero-fits : (x : Float) → Between zero32 x one32 → T (le (curve 0) x)
zero-fits x b = subst (λ (z : Float). T (le z x)) (sym curve-zero) b.low

pub greatest : (x : Float) → Between zero32 x one32 → Greatest x (encode_of x)
unfolding encode_of
greatest x b =
    let u = up_to 255 x (zero-fits x b) in
    record { small = let l = u.small in omega arith; fits = u.fits; most = λ j h t. u.most j (le_of_suc-le-suc h) t }

pub greatest-unique : (x : Float) (k j : ℕ) → Greatest x k → Greatest x j → k ≡ j
greatest-unique x k j p q = le_antisymm (q.most k p.small p.fits) (p.most j q.small q.fits)

-- where T(k) is at most x and T(k + 1) is not, the byte is k
pub encode-is : (x : Float) (k : ℕ) → Between zero32 x one32 → k < 256 → T (le (curve k) x) → (k < 255 → T (le (curve (k + 1)) x) → ⊥) → k ≡ encode_of x
encode-is x k b h t n = greatest-unique x k (encode_of x) (record { small = h; fits = t; most = λ j l s. le_of_suc-le-suc (lt_of_not-le (λ (g : k < j). over j l s g)) }) (greatest x b)
  where
    fx : T (finite x)
    fx = unfold of_bits in Between-finite zero32 x one32 tt tt b

    over : (j : ℕ) → j < 256 → T (le (curve j) x) → k < j → ⊥
    over j l s g = n (omega arith) (le-trans-finite (curve (k + 1)) (curve j) x (curve-finite (k + 1) (omega arith)) (curve-finite j l) fx (curve-mono (k + 1) j (omega arith) l) s)

-- ---- the bucket of an x from 0 to 1
module _ (x : Float) (held : T (fits binary32 x)) (b : Between zero32 x one32) where
  finite-x : T (finite x)
  unfolding of_bits
  finite-x = Between-finite zero32 x one32 tt tt b

  plain : Unsigned x
  plain = unsigned x held finite-x b.low

  finite-pattern : T (finite (of_bits binary32 (to_bits binary32 x % 2147483648)))
  finite-pattern = pattern-finite (to_bits binary32 x % 2147483648) plain.small

  pattern-le-one : to_bits binary32 x % 2147483648 ≤ 1065353216
  unfolding of_bits
  pattern-le-one = le-pattern (to_bits binary32 x % 2147483648) 1065353216 plain.small (lit< tt) (le-trans-finite (of_bits binary32 (to_bits binary32 x % 2147483648)) x one32 finite-pattern finite-x tt plain.under b.high)

  pub bucket-first : to_bits binary32 x % 2147483648 / 65536 < 14751 → Bucket x 0
  bucket-first h = record { small = lit< tt; low = zero-le; high = under (to_bits binary32 x % 2147483648) h }
    where
      under : (p : ℕ) → p / 65536 < 14751 → p < (14752 + 0) * 65536
      under p h = omega arith

  pub bucket-later : 14751 ≤ to_bits binary32 x % 2147483648 / 65536 → Bucket x (to_bits binary32 x % 2147483648 / 65536 - 14751)
  bucket-later h =
      let p = to_bits binary32 x % 2147483648 in
      let l = pattern-le-one in
      record { small = few p l; low = low p (p / 65536 - 14751) (omega arith); high = high p h }
    where
      few : (p : ℕ) → p ≤ 1065353216 → p / 65536 - 14751 < 1506
      few p l = omega arith

      low : (p i : ℕ) → 14751 + i ≡ p / 65536 → bucket i ≤ p
      low p zero e = zero-le
      low p (suc i) e = omega arith

      high : (p : ℕ) → 14751 ≤ p / 65536 → p < (14752 + (p / 65536 - 14751)) * 65536
      high p h = omega arith

  -- ---- the index leaves two bytes: k - 1, whose value is at most x, and k, since the value of k + 1 is past x
  module _ (i k : ℕ) (here : Bucket x i) (e : Entry i k) where
    pub before-fits : T (le (curve (k - 1)) x)
    unfolding curve
    before-fits =
        let l = e.byte in
        le-trans-finite (curve (k - 1)) (of_bits binary32 (to_bits binary32 x % 2147483648)) x (curve-finite (k - 1) (omega arith)) finite-pattern finite-x
        (pattern-le (curve_pattern (k - 1)) (to_bits binary32 x % 2147483648) (le_trans e.under here.low) plain.small) plain.under

    after-not : k < 255 → T (le (curve (k + 1)) x) → ⊥
    unfolding curve
    after-not l t =
        not-le_of_lt (lt_of_lt_of_le here.high (e.over l))
        (le-pattern (curve_pattern (k + 1)) (to_bits binary32 x % 2147483648) (under_top (k + 1) (omega arith)) plain.small
        (le-trans-finite (curve (k + 1)) x (of_bits binary32 (to_bits binary32 x % 2147483648)) (curve-finite (k + 1) (omega arith)) finite-x finite-pattern t plain.over))

    -- by what the compare of T(k), which is t, with x says
    pub settled_at : (t : Float) → t ≡ curve k → le t x ≡ true → k ≡ encode_of x
    settled_at t i h = encode-is x k b e.byte (subst T (sym (ap (λ (z : Float). le z x) (sym i) ∙ h)) tt) after-not

    pub settled_before : (t : Float) → t ≡ curve k → le t x ≡ false → k - 1 ≡ encode_of x
    settled_before t i h =
        let l = e.byte in
        encode-is x (k - 1) b (omega arith) before-fits
        (λ g s. subst T (ap (λ (z : Float). le z x) (sym i) ∙ h) (subst (λ (j : ℕ). T (le (curve j) x)) (again k e.some) s))
      where
        again : (k : ℕ) → 0 < k → k - 1 + 1 ≡ k
        again k h = omega arith
