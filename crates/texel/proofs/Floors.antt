-- The floor of an x of magnitude up to 2^23, as a float. Raised by 2^23 its fraction is n / d with no sign, and the floor is the quotient of n by
-- d, less 2^23. One sum gives the whole number nearest to the raised x: the quotient, or one more, which then is above x. Assumes nothing.
use mathlib.Core.Path.{◌≡◌, refl, sym, ap, ◌∙◌, subst, subst₂}
use mathlib.Core.Logic.{◌⊎◌, inl, inr}
use mathlib.Core.Bool.{Bool, true, false, not, ◌&&◌, cond}
use Prim.Native.Nat.{ℕ, zero, suc, ◌+◌, ◌-◌, ◌*◌, ◌/◌, ◌%◌, ◌^◌, ◌≤◌, ◌<◌, compare, zero-le}
use native.Mathlib.Nat.{le_trans, le_of_eq, le_antisymm, le_of_suc-le-suc, lt_of_not-le, lt_of_le_of_lt, eq-or-lt_of_le, zero-add, zero-mul, mul-one, mul-pos, mul_right_comm, add-mul, mul-lt-mul_of_pos_right, lt_of_mul-lt-mul_right, div-add-mod', div-lt_iff_lt-mul, add-mul-div_right, mod-lt}
use native.Mathlib.Omega.{arith}
use lib.IntN.{ℤ, pos, negsuc, neg_ℤ, nat_abs, sub_ℕ, pred_ℤ, ◌+ℤ◌, -ℤ_one}
use lib.Dec.{T, ltb, lit<, lit≤}
use lib.Arith.{digits_div}
use lib.Ieee.{Float, nan, inf, fin, Format, binary32, binary64, up, down, prec, low, hid, round, sub, le, lt, add, of_int, fits, is_nan}
use lib.Ieee.Fits.{down_pos, nearest-le, and_i, of_int-fits}
use lib.Ieee.Nearest.{closest, nearest-ge}
use lib.Ieee.Exact.{HasValue}
use lib.Ieee.Scale.{finite}
use lib.Ieee.Positive.{num, den, den_pos}
use native.Mathlib.Decide.{dec_le}
use borrow.Author.Tests.{lt-ltb, le-ltb, ltb-true, ltb-false}
use Rattle.rules.specs.Floats.{Between}
use Rattle.rules.specs.Whole.{floor_of}
use Rattle.texel.specs.Ends.{low23, high23, low12, high12}
use Rattle.texel.proofs.Range.{plus, less, sgn, le→, lt→, →lt, le-trans-finite, Between-finite}
use Rattle.texel.proofs.Wholes.{below-zero, value-finite, int_is, sub-int, narrow}
use Rattle.texel.proofs.Patterns.{no_nan}
use Rattle.texel.proofs.Sums.{Moved, moved, value, whole-value}

-- ---- u - 2^23 as a signed number
below : (u : ℕ) → u < 8388608 → sub_ℕ u 8388608 ≡ negsuc (8388608 - suc u)
below u h = rw (lt-ltb u 8388608 h)

above : (u : ℕ) → 8388608 ≤ u → sub_ℕ u 8388608 ≡ pos (u - 8388608)
above u h = rw (le-ltb u 8388608 h)

or_above : (u : ℕ) → (u < 8388608) ⊎ (8388608 ≤ u)
or_above u = elim (dec_le 8388608 u) [ yes h ↦ inr h | no n ↦ inl (lt_of_not-le n) ]

-- its sign and its size
pub lowered : (u : ℕ) (z : ℤ) → sub_ℕ u 8388608 ≡ z → plus (below-zero z) (nat_abs z) + 8388608 ≡ u + less (below-zero z) (nat_abs z)
lowered u z e = subst (λ (z : ℤ). plus (below-zero z) (nat_abs z) + 8388608 ≡ u + less (below-zero z) (nat_abs z)) e (go (or_above u))
  where
    go : (u < 8388608) ⊎ (8388608 ≤ u) → plus (below-zero (sub_ℕ u 8388608)) (nat_abs (sub_ℕ u 8388608)) + 8388608 ≡ u + less (below-zero (sub_ℕ u 8388608)) (nat_abs (sub_ℕ u 8388608))
    go (inl l) = rw (below u l) (omega arith)
    go (inr g) = rw (above u g) (omega arith)

pub lowered-near : (u : ℕ) → u ≤ 16777217 → nat_abs (sub_ℕ u 8388608) ≤ 8388609
lowered-near u h = go (or_above u)
  where
    go : (u < 8388608) ⊎ (8388608 ≤ u) → nat_abs (sub_ℕ u 8388608) ≤ 8388609
    go (inl l) = rw (below u l) (omega arith)
    go (inr g) = rw (above u g) (omega arith)

-- both with E more
more : (a b E : ℕ) → sub_ℕ (a + E) (b + E) ≡ sub_ℕ a b
more a b E = go (ltb a b) refl
  where
    go : (t : Bool) → ltb a b ≡ t → sub_ℕ (a + E) (b + E) ≡ cond t (negsuc (b - suc a)) (pos (a - b))
    go true e = let l = ltb-true a b e in rw (lt-ltb (a + E) (b + E) (omega arith)) (ap negsuc (omega arith))
    go false e = let l = ltb-false a b e in rw (le-ltb (a + E) (b + E) (omega arith)) (ap pos (omega arith))

lowered-pred : (u : ℕ) → sub_ℕ (suc u) 8388608 +ℤ negsuc 0 ≡ sub_ℕ u 8388608
lowered-pred u = -ℤ_one (sub_ℕ (suc u) 8388608) ∙ go (or_above u)
  where
    next : (a k : ℕ) → a ≡ suc k → pred_ℤ (pos a) ≡ pos k
    next a k e = ap (λ (z : ℕ). pred_ℤ (pos z)) e

    last : (u : ℕ) → 8388607 ≡ u → pred_ℤ (sub_ℕ (suc u) 8388608) ≡ sub_ℕ u 8388608
    last u e = subst (λ (z : ℕ). pred_ℤ (sub_ℕ (suc z) 8388608) ≡ sub_ℕ z 8388608) e refl

    go : (u < 8388608) ⊎ (8388608 ≤ u) → pred_ℤ (sub_ℕ (suc u) 8388608) ≡ sub_ℕ u 8388608
    go (inr g) = ap pred_ℤ (above (suc u) (omega arith)) ∙ next (suc u - 8388608) (u - 8388608) (omega arith) ∙ sym (above u g)
    go (inl l) = elim (eq-or-lt_of_le (le_of_suc-le-suc l)) [
      | inl e ↦ last u (sym e)
      | inr k ↦ ap pred_ℤ (below (suc u) (omega arith)) ∙ ap negsuc (one_less u k) ∙ sym (below u l)
    ]
      where
        one_less : (u : ℕ) → u < 8388607 → suc (8388608 - suc (suc u)) ≡ 8388608 - suc u
        one_less u h = omega arith

-- ---- x raised by 2^23, as the fraction n / den x
pub record Raised (x : Float) : Type 0 where
  pub n : ℕ
  pub val : n + less (sgn x) (num x) ≡ plus (sgn x) (num x) + 8388608 * den x
  pub few : n ≤ 16777216 * den x

raised_at : (x : Float) → T (finite x) → Between low23 x high23 → Raised x
raised_at nan f b = absurd f
raised_at (inf s) f b = absurd f
raised_at (fin false m e) f b = let h = le→ (fin false m e) high23 tt tt b.high in record { n = m * up e + 8388608 * down e; val = omega arith; few = omega arith }
raised_at (fin true m e) f b = let h = le→ low23 (fin true m e) tt tt b.low in record { n = 8388608 * down e - m * up e; val = omega arith; few = omega arith }

pub raised : (x : Float) → Between low23 x high23 → Raised x
raised x b = raised_at x (Between-finite low23 x high23 tt tt b) b

-- the floor is its quotient, less 2^23. For an x below zero: a is its numerator, and the quotient of a by d rounded up is what n / d lacks of 2^23
lacking : (n a d : ℕ) → 0 < d → n + a ≡ 8388608 * d → (a + (d - 1)) / d + n / d ≡ 8388608
lacking n a d D v =
    let f = div-add-mod' n d in
    let r = mod-lt n D in
    let l : n / d ≤ 8388608 = le_of_suc-le-suc ((div-lt_iff_lt-mul D).1 (omega arith)) in
    let k : 8388608 - n / d + n / d ≡ 8388608 = omega arith in
    let p : (8388608 - n / d) * d + n / d * d ≡ 8388608 * d = sym (add-mul (8388608 - n / d) (n / d) d) ∙ ap (λ (z : ℕ). z * d) k in
    let e : a + (d - 1) ≡ (8388608 - n / d) * d + (d - 1 - n % d) = omega arith in
    let q : (a + (d - 1)) / d ≡ 8388608 - n / d = ap (λ (z : ℕ). z / d) e ∙ digits_div (8388608 - n / d) (last (n % d) d r) in
    omega arith
  where
    last : (r d : ℕ) → r < d → d - 1 - r < d
    last r d h = omega arith

minus-of : (f c : ℕ) → c + f ≡ 8388608 → sub_ℕ f 8388608 ≡ neg_ℤ (pos c)
minus-of f zero e = above f (omega arith) ∙ ap pos (none f e)
  where
    none : (f : ℕ) → 0 + f ≡ 8388608 → f - 8388608 ≡ 0
    none f e = omega arith
minus-of f (suc c) e = below f (omega arith) ∙ ap negsuc (rest f c e)
  where
    rest : (f c : ℕ) → suc c + f ≡ 8388608 → 8388608 - suc f ≡ c
    rest f c e = omega arith

floor-at : (x : Float) → T (finite x) → (n : ℕ) → n + less (sgn x) (num x) ≡ plus (sgn x) (num x) + 8388608 * den x → sub_ℕ (n / den x) 8388608 ≡ floor_of x
unfolding floor_of
floor-at nan f n v = absurd f
floor-at (inf s) f n v = absurd f
floor-at (fin false m e) f n v =
    let q : n / down e ≡ m * up e / down e + 8388608 = ap (λ (z : ℕ). z / down e) (plain n (m * up e + 8388608 * down e) v) ∙ add-mul-div_right (m * up e) 8388608 (down_pos e) in
    ap (λ (z : ℕ). sub_ℕ z 8388608) q ∙ above (m * up e / down e + 8388608) (omega arith) ∙ ap pos (back (m * up e / down e))
  where
    plain : (n a : ℕ) → n + 0 ≡ a → n ≡ a
    plain n a h = omega arith

    back : (a : ℕ) → a + 8388608 - 8388608 ≡ a
    back a = omega arith
floor-at (fin true m e) f n v = minus-of (n / down e) ((m * up e + (down e - 1)) / down e) (lacking n (m * up e) (down e) (down_pos e) (v ∙ zero-add (8388608 * down e)))

pub floor-is : (x : Float) → Between low23 x high23 → (r : Raised x) → sub_ℕ (r.n / den x) 8388608 ≡ floor_of x
floor-is x b r = floor-at x (Between-finite low23 x high23 tt tt b) r.n r.val

-- ---- x beside a whole number u - 2^23: the order is that of n and u * den x
cross-to : (P L Q M D d : ℕ) → P * d + M * d * D < Q * d * D + L * d → P + M * D < Q * D + L
cross-to P L Q M D d g =
    lt_of_mul-lt-mul_right d
    (let a = add-mul P (M * D) d in
    let b = add-mul (Q * D) L d in
    let x = mul_right_comm M d D in
    let y = mul_right_comm Q d D in
    omega arith)

cross-from : (P L Q M D d : ℕ) → 0 < d → P + M * D < Q * D + L → P * d + M * d * D < Q * d * D + L * d
cross-from P L Q M D d h g =
    let a = add-mul P (M * D) d in
    let b = add-mul (Q * D) L d in
    let x = mul_right_comm M d D in
    let y = mul_right_comm Q d D in
    let k : (P + M * D) * d < (Q * D + L) * d = mul-lt-mul_of_pos_right g h in
    omega arith

pub plus-of : (s t : Bool) (K n d : ℕ) → s ≡ t → K ≡ n * d → plus s K ≡ plus t n * d
plus-of true true K n d p e = sym (zero-mul d)
plus-of false false K n d p e = e
plus-of true false K n d p e = absurd (subst T p tt)
plus-of false true K n d p e = absurd (subst T (sym p) tt)

pub less-of : (s t : Bool) (K n d : ℕ) → s ≡ t → K ≡ n * d → less s K ≡ less t n * d
less-of true true K n d p e = e
less-of false false K n d p e = sym (zero-mul d)
less-of true false K n d p e = absurd (subst T p tt)
less-of false true K n d p e = absurd (subst T (sym p) tt)

module _ (x b : Float) (f : T (finite x)) (s : Bool) (k u n : ℕ) (v : HasValue b s k 1) (w : plus s k + 8388608 ≡ u + less s k) (r : n + less (sgn x) (num x) ≡ plus (sgn x) (num x) + 8388608 * den x) where
  -- the same, times x's denominator
  pub times : plus s k * den x + 8388608 * den x ≡ u * den x + less s k * den x
  times = sym (add-mul (plus s k) 8388608 (den x)) ∙ ap (λ (z : ℕ). z * den x) w ∙ add-mul u (less s k) (den x)

  under : T (lt x b) → n < u * den x
  under t = go b v t
    where
      go : (b : Float) → HasValue b s k 1 → T (lt x b) → n < u * den x
      go nan v t = absurd v
      go (inf c) v t = absurd v
      go (fin c m e) v t =
          let q : m * up e ≡ k * down e = sym (mul-one (m * up e)) ∙ v.1 in
          let l = cross-to (plus (sgn x) (num x)) (less (sgn x) (num x)) (plus s k) (less s k) (den x) (down e)
          (subst₂ (λ (y z : ℕ). plus (sgn x) (num x) * down e + z * den x < y * den x + less (sgn x) (num x) * down e) (plus-of c s (m * up e) k (down e) v.0 q) (less-of c s (m * up e) k (down e) v.0 q)
          (lt→ x (fin c m e) f tt t)) in
          let z = times in
          omega arith

  from-under : n < u * den x → T (lt x b)
  from-under h = go b v
    where
      go : (b : Float) → HasValue b s k 1 → T (lt x b)
      go nan v = absurd v
      go (inf c) v = absurd v
      go (fin c m e) v =
          let q : m * up e ≡ k * down e = sym (mul-one (m * up e)) ∙ v.1 in
          let z = times in
          →lt x (fin c m e) f tt
          (subst₂ (λ (y z : ℕ). plus (sgn x) (num x) * down e + z * den x < y * den x + less (sgn x) (num x) * down e) (sym (plus-of c s (m * up e) k (down e) v.0 q)) (sym (less-of c s (m * up e) k (down e) v.0 q))
          (cross-from (plus (sgn x) (num x)) (less (sgn x) (num x)) (plus s k) (less s k) (den x) (down e) (down_pos e) (omega arith)))

-- ---- the sum x + c in a format f, c being E + 2^23, where it lies so high that its last place is 1
size-le : (s : Bool) (a n d : ℕ) → n + less s a ≡ plus s a + 8388608 * d → n ≤ 16777216 * d → a ≤ 8388608 * d
size-le true a n d e h = omega arith
size-le false a n d e h = omega arith

module _ (f : Format) (a j E : ℕ) (c : a * 2 ^ j ≡ E + 8388608) (some : 0 < E) (x : Float) (b : Between low23 x high23)
    (least : hid f * den x ≤ (raised x b).n + E * den x) (most : suc ((raised x b).n / den x + E) < 2 ^ prec f) (room : E + 8388608 ≤ 2 ^ prec f) (big : 8388609 ≤ 2 ^ prec f) where
  abbrev n : ℕ
  n = (raised x b).n

  abbrev d : ℕ
  d = den x

  abbrev added : Float
  added = fin false a (pos j)

  finite-x : T (finite x)
  finite-x = Between-finite low23 x high23 tt tt b

  scaled : a * 2 ^ j * d ≡ E * d + 8388608 * d
  scaled = ap (λ (z : ℕ). z * d) c ∙ add-mul E 8388608 d

  sum : Moved f x added (a * 2 ^ j)
  sum =
      let h = size-le (sgn x) (num x) n d (raised x b).val (raised x b).few in
      let l = mul-pos some (den_pos x) in
      let k = scaled in
      moved f x a j finite-x (omega arith)

  size_is : sum.size * 2 ^ 0 ≡ n + E * d
  size_is = let u = sum.val in let v = (raised x b).val in let k = scaled in omega arith

  quotient : sum.size * 2 ^ 0 / d ≡ n / d + E
  quotient = ap (λ (z : ℕ). z / d) size_is ∙ add-mul-div_right n E (den_pos x)

  small : n / d ≤ 16777216
  small = let h = (raised x b).few in let l = den_pos x in le_of_suc-le-suc ((div-lt_iff_lt-mul (den_pos x)).1 (omega arith))

  -- the whole number nearest to the sum, which is rounded once, is the quotient or one more
  abbrev whole : ℕ
  whole = closest (sum.size * 2 ^ 0) d

  from_low : n / d + E ≤ whole
  from_low = le_trans (le_of_eq (sym quotient)) (nearest-ge (sum.size * 2 ^ 0 / d) (compare (sum.size * 2 ^ 0 % d * 2) d))

  high : whole ≤ suc (n / d + E)
  high = le_trans (nearest-le (sum.size * 2 ^ 0 / d) (compare (sum.size * 2 ^ 0 % d * 2) d)) (le_of_eq (ap suc quotient))

  -- that less E
  abbrev u : ℕ
  u = whole - E

  between : (n / d ≤ u) × (u ≤ suc (n / d))
  between = let h = high in let l = from_low in (omega arith, omega arith)

  sum_is : HasValue (add f x added) false whole 1
  sum_is =
      subst (λ (y : Float). HasValue y false whole 1) (sym sum.is)
      (whole-value f (round f false sum.size d) whole
      (subst (λ (k : ℕ). HasValue (round f false sum.size d) false (whole * 2 ^ k) (2 ^ low f)) (all (low f))
      (value f sum.size d 0 (den_pos x) zero-le (le_trans least (le_of_eq (sym size_is))) (lt_of_le_of_lt high most))))
    where
      all : (n : ℕ) → n - 0 ≡ n
      all n = omega arith

  -- the sum less what was added is that whole number less 2^23
  abbrev pub near : Float
  near = sub f (add f x added) added

  near-is : near ≡ of_int f (sub_ℕ u 8388608)
  near-is =
      sub-int f (add f x added) added (pos whole) (E + 8388607) sum_is (refl, omega (arith, c)) (let l = lt_of_le_of_lt high most in omega arith) (omega (arith, room))
      (subst (λ (z : ℤ). nat_abs z ≤ 2 ^ prec f) (sym apart) (le_trans (lowered-near u few) big))
      ∙ ap (of_int f) apart
    where
      few : u ≤ 16777217
      few = let h = between.1 in let l = small in omega arith

      apart : sub_ℕ whole (suc (E + 8388607)) ≡ sub_ℕ u 8388608
      apart = ap (λ (z : ℕ). sub_ℕ z (suc (E + 8388607))) (back whole E low') ∙ ap (sub_ℕ (u + E)) (turn E) ∙ more u 8388608 E
        where
          low' : E ≤ whole
          low' = let l = from_low in omega arith

          back : (w E : ℕ) → E ≤ w → w ≡ w - E + E
          back w E h = omega arith

          turn : (E : ℕ) → suc (E + 8388607) ≡ 8388608 + E
          turn E = omega arith

  near-value : HasValue near (below-zero (sub_ℕ u 8388608)) (nat_abs (sub_ℕ u 8388608)) 1
  near-value =
      subst (λ (y : Float). HasValue y (below-zero (sub_ℕ u 8388608)) (nat_abs (sub_ℕ u 8388608)) 1) (sym near-is)
      (int_is f (sub_ℕ u 8388608) (le_trans (lowered-near u (let h = between.1 in let l = small in omega arith)) big))

  beside : n < u * d → T (lt x near)
  beside h = from-under x near finite-x (below-zero (sub_ℕ u 8388608)) (nat_abs (sub_ℕ u 8388608)) u n near-value (lowered u (sub_ℕ u 8388608) refl) (raised x b).val h

  -- where it is above x, the floor is the number before it; where it is not, it is the floor
  pub floor-same : lt x near ≡ false → near ≡ of_int f (floor_of x)
  floor-same h = near-is ∙ ap (of_int f) (ap (λ (z : ℕ). sub_ℕ z 8388608) e ∙ floor-is x b (raised x b))
    where
      not-above : n / d < u → ⊥
      not-above k = subst T h (beside ((div-lt_iff_lt-mul (den_pos x)).0 k))

      e : u ≡ n / d
      e = le_antisymm (le_of_suc-le-suc (lt_of_not-le not-above)) between.0

  pub floor-before : (one : Float) → HasValue one false 1 1 → lt x near ≡ true → sub f near one ≡ of_int f (floor_of x)
  floor-before one v h =
      sub-int f near one (sub_ℕ u 8388608) 0 near-value v (le_trans near-u big) (le_trans (omega arith) big) (subst (λ (z : ℤ). nat_abs z ≤ 2 ^ prec f) (sym before) (le_trans near-q big))
      ∙ ap (of_int f) (before ∙ floor-is x b (raised x b))
    where
      e : u ≡ suc (n / d)
      e =
          let k : n / d < u = (div-lt_iff_lt-mul (den_pos x)).1 (under x near finite-x (below-zero (sub_ℕ u 8388608)) (nat_abs (sub_ℕ u 8388608)) u n near-value (lowered u (sub_ℕ u 8388608) refl) (raised x b).val (subst T (sym h) tt)) in
          let t = between.1 in
          omega arith

      near-u : nat_abs (sub_ℕ u 8388608) ≤ 8388609
      near-u = lowered-near u (let h = between.1 in let l = small in omega arith)

      near-q : nat_abs (sub_ℕ (n / d) 8388608) ≤ 8388609
      near-q = lowered-near (n / d) (let l = small in omega arith)

      before : sub_ℕ u 8388608 +ℤ negsuc 0 ≡ sub_ℕ (n / d) 8388608
      before = ap (λ (z : ℕ). sub_ℕ z 8388608 +ℤ negsuc 0) e ∙ lowered-pred (n / d)

-- ---- in f64, with c = 2^52 + 2^23, and in f32, with c = 2^22 + 2^23 and an x of magnitude up to 2^12
module _ (x : Float) (b : Between low23 x high23) where
  abbrev pub wide : Float
  wide = sub binary64 (add binary64 x (fin false 536870913 (pos 23))) (fin false 536870913 (pos 23))

  quotient-near : (raised x b).n / den x ≤ 16777216
  quotient-near = let l = (raised x b).few in let D = den_pos x in le_of_suc-le-suc ((div-lt_iff_lt-mul D).1 (omega arith))

  most-wide : suc ((raised x b).n / den x + 2 ^ 52) < 2 ^ 53
  most-wide = let l = quotient-near in omega arith

  least-wide : 2 ^ 52 * den x ≤ (raised x b).n + 2 ^ 52 * den x
  least-wide = omega arith

  -- the floor is no further from 0 than 2^23, and so an f32
  floor-small : nat_abs (floor_of x) ≤ 2 ^ 24
  floor-small = subst (λ (z : ℤ). nat_abs z ≤ 2 ^ 24) (floor-is x b (raised x b)) (le_trans (lowered-near ((raised x b).n / den x) (let l = quotient-near in omega arith)) (lit≤ tt))

  -- so it narrows to one
  pub narrows : (y : Float) → y ≡ of_int binary32 (floor_of x) → T (fits binary32 y && not (is_nan y))
  narrows y e = let i = of_int binary32 (floor_of x) in subst (λ (z : Float). T (fits binary32 z && not (is_nan z))) (sym e) (and_i (fits binary32 i) (not (is_nan i)) (of_int-fits binary32 (floor_of x)) (no_nan i (value-finite i (below-zero (floor_of x)) (nat_abs (floor_of x)) 1 (int_is binary32 (floor_of x) floor-small))))

  pub wide-same : lt x wide ≡ false → wide ≡ of_int binary32 (floor_of x)
  wide-same h = floor-same binary64 536870913 23 (2 ^ 52) refl (lit< tt) x b least-wide most-wide (lit≤ tt) (lit≤ tt) h ∙ narrow (floor_of x) floor-small

  pub wide-before : (one : Float) → HasValue one false 1 1 → lt x wide ≡ true → sub binary64 wide one ≡ of_int binary32 (floor_of x)
  wide-before one v h = floor-before binary64 536870913 23 (2 ^ 52) refl (lit< tt) x b least-wide most-wide (lit≤ tt) (lit≤ tt) one v h ∙ narrow (floor_of x) floor-small

raised-near : (x : Float) → T (finite x) → Between low12 x high12 → (n : ℕ) → n + less (sgn x) (num x) ≡ plus (sgn x) (num x) + 8388608 * den x
    → (8384512 * den x ≤ n) × (n ≤ 8392704 * den x)
raised-near nan f b n v = absurd f
raised-near (inf s) f b n v = absurd f
raised-near (fin false m e) f b n v = let h = le→ (fin false m e) high12 tt tt b.high in (omega arith, omega arith)
raised-near (fin true m e) f b n v = let h = le→ low12 (fin true m e) tt tt b.low in (omega arith, omega arith)

module _ (x : Float) (b : Between low12 x high12) where
  finite-near : T (finite x)
  finite-near = Between-finite low12 x high12 tt tt b

  pub near-in : Between low23 x high23
  near-in = record {
    low = le-trans-finite low23 low12 x tt tt finite-near (unfold le in tt) b.low;
    high = le-trans-finite x high12 high23 finite-near tt tt b.high (unfold le in tt);
  }

  abbrev pub close : Float
  close = sub binary32 (add binary32 x (fin false 3 (pos 22))) (fin false 3 (pos 22))

  raised-in : (8384512 * den x ≤ (raised x near-in).n) × ((raised x near-in).n ≤ 8392704 * den x)
  raised-in = raised-near x finite-near b (raised x near-in).n (raised x near-in).val

  least-close : 8388608 * den x ≤ (raised x near-in).n + 4194304 * den x
  least-close = let h = raised-in.0 in omega arith

  most-close : suc ((raised x near-in).n / den x + 4194304) < 16777216
  most-close =
      let h = raised-in.1 in
      let D = den_pos x in
      let l : (raised x near-in).n / den x ≤ 8392704 = le_of_suc-le-suc ((div-lt_iff_lt-mul D).1 (omega arith)) in
      omega arith

  pub close-same : lt x close ≡ false → close ≡ of_int binary32 (floor_of x)
  close-same = floor-same binary32 3 22 4194304 refl (lit< tt) x near-in least-close most-close (lit≤ tt) (lit≤ tt)

  pub close-before : (one : Float) → HasValue one false 1 1 → lt x close ≡ true → sub binary32 close one ≡ of_int binary32 (floor_of x)
  close-before = floor-before binary32 3 22 4194304 refl (lit< tt) x near-in least-close most-close (lit≤ tt) (lit≤ tt)
