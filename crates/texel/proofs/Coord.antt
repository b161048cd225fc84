-- Coordinates times sides. A coordinate of magnitude up to 2,048 times a side up to 4,096 lies within 2^23; a coordinate from 0 to 1
-- times a side's last texel lies from 0 to that texel, and so does the whole number nearest to it: the operations keep the order, and
-- a side is held exactly. Assumes nothing.
use mathlib.Core.Path.{◌≡◌, refl, sym, ap, ◌∙◌, subst}
use mathlib.Core.Bool.{Bool, true, false, not, cond}
use Prim.Native.Nat.{ℕ, ◌+◌, ◌*◌, ◌/◌, ◌%◌, ◌^◌, ◌≤◌, ◌<◌, zero-le}
use native.Mathlib.Nat.{le_refl, le_trans, le_of_eq, zero-lt-suc, one-mul, mul-one, mul_right_comm, mul-le-mul_right, le_of_mul-le-mul_right, div-add-mod'}
use native.Mathlib.Omega.{arith}
use lib.IntN.{pos}
use lib.Dec.{T, ltb, nltb→le, le→leb}
use lib.Ieee.{Float, nan, inf, fin, binary32, up, down, le, neg, mul, round, of_int, of_bits, in_float, fits}
use lib.Ieee.Fits.{down_pos, of_int-fits}
use lib.Ieee.Exact.{HasValue}
use lib.Ieee.Back.{round_whole}
use lib.Ieee.Order.{round_mono}
use lib.Ieee.Scale.{finite}
use lib.Ieee.Positive.{positive, positive_of_value}
use Rattle.rules.specs.Floats.{Between, zero32, one32}
use Rattle.rules.specs.Whole.{half_even, even_of}
use Rattle.texel.specs.Ends.{low23, high23, high12}
use Rattle.texel.proofs.Range.{le→, Between-finite, in-mul, in-mul-abs, le-trans-finite}
use Rattle.texel.proofs.Unit.{ends}
use Rattle.texel.proofs.Same.{round-own}
use Rattle.texel.proofs.Wholes.{value-finite}

pub side-positive : (w : ℕ) → 1 ≤ w → w ≤ 4096 → T (positive (of_int binary32 (pos w)))
unfolding of_int
side-positive w a b = positive_of_value (round binary32 false w 1) w 1 (round_whole binary32 false w (omega arith)) a

side-in : (w : ℕ) → w ≤ 4096 → Between (fin false 0 (pos 0)) (of_int binary32 (pos w)) (fin false 1 (pos 12))
unfolding of_int round
side-in w h = record { low = round_mono binary32 0 1 w 1 (zero-lt-suc 0) (zero-lt-suc 0) (mul-le-mul_right 1 zero-le); high = round_mono binary32 w 1 4096 1 (zero-lt-suc 0) (zero-lt-suc 0) (mul-le-mul_right 1 h) }

pub coord-in : (u : Float) (w : ℕ) → 1 ≤ w → w ≤ 4096 → T (le (fin true 1 (pos 11)) u) → T (le u (fin false 1 (pos 11))) → Between low23 (mul binary32 u (of_int binary32 (pos w))) high23
unfolding mul neg le
coord-in u w a b l h =
    in-mul-abs binary32 (fin false 0 (pos 0)) (fin false 1 (pos 11)) u (of_int binary32 (pos w)) (fin false 1 (pos 12)) tt refl tt tt (side-positive w a b) (side-in w b).low tt (side-in w b).high tt tt tt
    (record { low = l; high = h })

pub side-float : (w : ℕ) → w ≤ 4096 → T (in_float binary32 (pos w))
unfolding in_float
side-float w h = le→leb w (2 ^ 24) (omega arith)

pub true-T : (b : Bool) → b ≡ true → T b
true-T b e = subst T (sym e) tt

-- ---- u * (width - 1), for a u from 0 to 1
one-times : (x : Float) (n : ℕ) → HasValue x false n 1 → T (fits binary32 x) → mul binary32 (fin false 1 (pos 0)) x ≡ x
unfolding mul
one-times nan n v h = absurd v
one-times (inf s) n v h = absurd v
one-times (fin true k d) n v h = absurd (subst T v.0 tt)
one-times (fin false k d) n v h = ap (λ (z : ℕ). round binary32 false z (1 * down d)) (one-mul (k * up d)) ∙ ap (λ (z : ℕ). round binary32 false (k * up d) z) (one-mul (down d)) ∙ round-own binary32 (fin false k d) tt h

side-value : (n : ℕ) → n ≤ 4095 → HasValue (of_int binary32 (pos n)) false n 1
unfolding of_int
side-value n h = round_whole binary32 false n (omega arith)

side-at : (n : ℕ) → n ≤ 4095 → Between zero32 (of_int binary32 (pos n)) (of_int binary32 (pos n))
unfolding of_int
side-at n h = ends z refl (record { low = round_mono binary32 0 1 n 1 (zero-lt-suc 0) (zero-lt-suc 0) (mul-le-mul_right 1 zero-le); high = round_mono binary32 n 1 n 1 (zero-lt-suc 0) (zero-lt-suc 0) (le_refl (n * 1)) })
  where
    z : round binary32 false 0 1 ≡ zero32
    z = unfold round of_bits in refl

pub across-in : (u : Float) (n : ℕ) → Between zero32 u one32 → n ≤ 4095 → Between zero32 (mul binary32 u (of_int binary32 (pos n))) (of_int binary32 (pos n))
unfolding of_bits
across-in u n b h =
    let w = of_int binary32 (pos n) in
    let v = side-value n h in
    let F = value-finite w false n 1 v in
    ends z (one-times w n v (of_int-fits binary32 (pos n))) (in-mul binary32 zero32 u one32 zero32 w w tt tt tt F refl refl b (side-at n h))
  where
    z : mul binary32 zero32 zero32 ≡ zero32
    z = unfold mul in refl

side-top : (n : ℕ) → n ≤ 4095 → T (le (of_int binary32 (pos n)) high12)
unfolding of_int
side-top n h = subst (λ (x : Float). T (le (round binary32 false n 1) x)) top (round_mono binary32 n 1 4096 1 (zero-lt-suc 0) (zero-lt-suc 0) (mul-le-mul_right 1 (more n h)))
  where
    top : round binary32 false 4096 1 ≡ high12
    top = unfold round in refl

    more : (n : ℕ) → n ≤ 4095 → n ≤ 4096
    more n h = omega arith

pub across-top : (u : Float) (n : ℕ) → Between zero32 u one32 → n ≤ 4095 → Between zero32 (mul binary32 u (of_int binary32 (pos n))) high12
unfolding of_bits
across-top u n b h =
    let w = of_int binary32 (pos n) in
    let k = across-in u n b h in
    let F = value-finite w false n 1 (side-value n h) in
    let p = mul binary32 u w in
    record { low = k.low; high = le-trans-finite p w high12 (Between-finite zero32 p w tt F k) F tt k.high (side-top n h) }

-- ---- a / d up to n rounds to n at most
half_le : (a d n t : ℕ) → 0 < d → t * d ≤ a → a ≤ n * d → half_even a d t ≤ n
unfolding half_even
half_le a d n t D l h =
    go (ltb (a * 2) ((2 * t + 1) * d)) (nltb→le (a * 2) ((2 * t + 1) * d)) (ltb ((2 * t + 1) * d) (a * 2))
  where
    last : (2 * t + 1) * d ≤ a * 2 → t + 1 ≤ n
    last g =
        let k : 2 * t + 1 ≤ n * 2 = le_of_mul-le-mul_right (le_trans g (le_trans (mul-le-mul_right 2 h) (le_of_eq (mul_right_comm n d 2)))) D in
        omega arith

    go : (b : Bool) → (T (not b) → (2 * t + 1) * d ≤ a * 2) → (k : Bool) → cond b t (cond k (t + 1) (t + t % 2)) ≤ n
    go true g k = le_of_mul-le-mul_right (le_trans l h) D
    go false g true = last (g tt)
    go false g false = let z = last (g tt) in omega arith

pub even-le : (p w : Float) (n : ℕ) → T (finite p) → HasValue w false n 1 → T (le p w) → even_of p ≤ n
unfolding even_of
even-le nan w n f v h = zero-le
even-le (inf s) w n f v h = zero-le
even-le (fin true m e) w n f v h = zero-le
even-le (fin false m e) nan n f v h = absurd v
even-le (fin false m e) (inf s) n f v h = absurd v
even-le (fin false m e) (fin true k d) n f v h = absurd (subst T v.0 tt)
even-le (fin false m e) (fin false k d) n f v h =
    half_le (m * up e) (down e) n (m * up e / down e) (down_pos e) (let q = div-add-mod' (m * up e) (down e) in omega arith)
    (cross (m * up e) (down e) (k * up d) (down d) (down_pos d) v.1 (le→ (fin false m e) (fin false k d) tt tt h))
  where
    cross : (A D K d : ℕ) → 0 < d → K * 1 ≡ n * d → A * d + 0 * D ≤ K * D + 0 * d → A ≤ n * D
    cross A D K d E q l = le_of_mul-le-mul_right (le_trans (le_trans (small (A * d) D d) l) (le_of_eq (big K D d ∙ ap (λ (z : ℕ). z * D) (sym (mul-one K) ∙ q) ∙ mul_right_comm n d D))) E
      where
        small : (x D d : ℕ) → x ≤ x + 0 * D
        small x D d = omega arith

        big : (K D d : ℕ) → K * D + 0 * d ≡ K * D
        big K D d = omega arith

pub texel-le : (u : Float) (n : ℕ) → Between zero32 u one32 → n ≤ 4095 → even_of (mul binary32 u (of_int binary32 (pos n))) ≤ n
unfolding of_bits
texel-le u n b h =
    let w = of_int binary32 (pos n) in
    let v = side-value n h in
    let k = across-in u n b h in
    even-le (mul binary32 u w) w n (Between-finite zero32 (mul binary32 u w) w tt (value-finite w false n 1 v) k) v k.high
