-- The texel numbers of a coordinate. With n = 2048 * width, u * width lies in -n to n and u * width - 0.5 in -n - 1 to n, since
-- these ends are floats as they are; so a floor t of them has |t| and |t + 1| up to n + 1, and the wrap takes both.
-- Assumes nothing.
use mathlib.Core.Path.{◌≡◌, refl, sym, ap, ◌∙◌, subst}
use mathlib.Core.Bool.{true, false}
use Prim.Native.Nat.{ℕ, zero, suc, ◌+◌, ◌-◌, ◌*◌, ◌/◌, ◌≤◌, ◌<◌, max, zero-le}
use native.Mathlib.Nat.{le_of_suc-le-suc, mul-one, div-lt_iff_lt-mul}
use native.Mathlib.Omega.{arith}
use lib.IntN.{ℤ, pos, negsuc, neg_ℤ, nat_abs, suc_ℤ, ◌+ℤ◌, +ℤ_one}
use lib.Dec.{T, lit≤}
use lib.Ieee.{Float, nan, inf, fin, binary32, up, down, neg, add, sub, mul, le, of_int, of_bits}
use lib.Ieee.Fits.{down_pos}
use lib.Ieee.Exact.{HasValue}
use lib.Ieee.Back.{round_whole}
use lib.Ieee.Scale.{finite}
use lib.Ieee.Positive.{positive_of_value}
use Rattle.rules.specs.Floats.{Between, zero32, half32, one32, float}
use Rattle.rules.specs.Whole.{floor_of}
use Rattle.rules.specs.Refusals.{high11, coordinate_taken}
use Rattle.rules.specs.Places.{nearest_of}
use Rattle.rules.specs.Bilinear.{span_of}
use Rattle.texel.specs.Ends.{low23, high23}
use Rattle.texel.proofs.Range.{neg-order, Between-finite, in-mul-by, in-sub, le-trans-finite}
use Rattle.texel.proofs.Unit.{ends}
use Rattle.texel.proofs.Coord.{coord-in}
use Rattle.texel.proofs.Wholes.{value-finite, IsInt, int_is, add-int, floor-int}
use Rattle.places.specs.Stands.{Counted, Stands}
use Rattle.places.proofs.Rests.{suc-mul}
use Rattle.places.proofs.Wholes.{below-value, neg_value, mul-whole, sub-whole, sub-apart}
use Rattle.places.proofs.Coordinates.{low11, taken_in}

-- ---- the floor of a value between two whole ends
pub record Floored (t : ℤ) (a b : ℕ) : Type 0 where
  pub near : nat_abs t ≤ max a b
  pub next : nat_abs (t +ℤ pos 1) ≤ max a (b + 1)

below : (n a b : ℕ) → n ≤ a → Floored (neg_ℤ (pos n)) a b
below zero a b h = record { near = omega arith; next = omega arith }
below (suc n) a b h = record { near = omega arith; next = rw (+ℤ_one (negsuc n)) (up n h) }
  where
    up : (n : ℕ) → suc n ≤ a → nat_abs (suc_ℤ (negsuc n)) ≤ max a (b + 1)
    up zero h = omega arith
    up (suc n) h = omega arith

-- A ≤ k * D: the quotient rounded up is at most k, and so is the quotient
pub up_le : (A D k : ℕ) → 0 < D → A ≤ k * D → (A + (D - 1)) / D ≤ k
up_le A D k h l = le_of_suc-le-suc ((div-lt_iff_lt-mul h).1 (let e = suc-mul k D in omega arith))

pub down_le : (A D k : ℕ) → 0 < D → A ≤ k * D → A / D ≤ k
down_le A D k h l = le_of_suc-le-suc ((div-lt_iff_lt-mul h).1 (let e = suc-mul k D in omega arith))

pub upper : (m : ℕ) (e : ℤ) (hi : Float) (b : ℕ) → HasValue hi false b 1 → T (le (fin false m e) hi) → m * up e ≤ b * down e
upper m e hi b v h = subst (λ (n : ℕ). n ≤ b * down e) (mul-one (m * up e)) (below-value m e hi b 1 v h)

lower : (m : ℕ) (e : ℤ) (lo : Float) (a : ℕ) → HasValue lo true a 1 → T (le lo (fin true m e)) → m * up e ≤ a * down e
unfolding neg
lower m e lo a v h = upper m e (neg lo) a (neg_value lo a 1 v) (neg-order (fin true m e) lo h)

floored : (x lo hi : Float) (a b : ℕ) → T (finite x) → HasValue lo true a 1 → HasValue hi false b 1 → Between lo x hi → Floored (floor_of x) a b
unfolding floor_of
floored nan lo hi a b f v w r = absurd f
floored (inf s) lo hi a b f v w r = absurd f
floored (fin true m e) lo hi a b f v w r = below _ a b (up_le (m * up e) (down e) a (down_pos e) (lower m e lo a v r.low))
floored (fin false m e) lo hi a b f v w r =
    let l = down_le (m * up e) (down e) b (down_pos e) (upper m e hi b w r.high) in
    record { near = omega arith; next = omega arith }

-- ---- a coordinate that is taken, along a side w
less_none : (n : ℕ) → n - 0 ≡ n
less_none n = omega arith

half_in : Between zero32 half32 one32
unfolding of_bits le
half_in = record { low = tt; high = tt }

half-self : Between half32 half32 half32
unfolding of_bits le
half-self = record { low = tt; high = tt }

low_end : sub binary32 low23 half32 ≡ low23
unfolding sub of_bits
low_end = refl

abbrev below23 : Float
below23 = fin false 16777215 (negsuc 0)

high_end : sub binary32 high23 half32 ≡ below23
unfolding sub of_bits
high_end = refl

module _ (u : Float) (w : ℕ) (t : T (coordinate_taken u)) (a : 1 ≤ w) (b : w ≤ 4096) where
  side : HasValue (float w) false w 1
  unfolding of_int
  side = round_whole binary32 false w (omega arith)

  lowest : HasValue (mul binary32 low11 (float w)) true (2048 * w) 1
  lowest = mul-whole low11 (float w) true 2048 w (refl, refl) side (omega arith)

  highest : HasValue (mul binary32 high11 (float w)) false (2048 * w) 1
  highest = mul-whole high11 (float w) false 2048 w (refl, refl) side (omega arith)

  product-in : Between (mul binary32 low11 (float w)) (mul binary32 u (float w)) (mul binary32 high11 (float w))
  product-in = in-mul-by binary32 low11 u high11 (float w) tt tt (positive_of_value (float w) w 1 side a) (taken_in u t)

  -- u * w lies within 2^23, and so does u * w - 0.5: -2^23 - 0.5 rounds to -2^23
  pub coordinate-in : Between low23 (mul binary32 u (float w)) high23
  coordinate-in = coord-in u w a b (taken_in u t).low (taken_in u t).high

  pub span-in : Between low23 (span_of u w) high23
  unfolding of_bits
  span-in =
      let k = ends low_end high_end (in-sub binary32 low23 _ high23 half32 half32 half32 tt tt tt tt coordinate-in half-self) in
      let F = Between-finite low23 (span_of u w) below23 tt tt k in
      record { low = k.low; high = le-trans-finite (span_of u w) below23 high23 F tt tt k.high (unfold le in tt) }

  -- their floors
  pub nearest-floored : Floored (nearest_of u w) (2048 * w) (2048 * w)
  unfolding nearest_of
  nearest-floored =
      floored _ _ _ (2048 * w) (2048 * w)
      (Between-finite low23 (mul binary32 u (float w)) high23 tt tt coordinate-in)
      lowest highest product-in

  pub span-floored : Floored (floor_of (span_of u w)) (2048 * w + 1) (2048 * w)
  unfolding of_bits
  span-floored =
      floored _ _ _ (2048 * w + 1) (2048 * w)
      (Between-finite low23 (span_of u w) high23 tt tt span-in)
      (sub-apart (mul binary32 low11 (float w)) one32 (2048 * w) 1 lowest (refl, refl) (omega arith))
      (subst (λ (n : ℕ). HasValue (sub binary32 (mul binary32 high11 (float w)) zero32) false n 1) (less_none (2048 * w)) (sub-whole (mul binary32 high11 (float w)) zero32 (2048 * w) 0 highest (refl, refl) zero-le (omega arith)))
      (in-sub binary32 _ _ _ zero32 half32 one32 (value-finite (mul binary32 low11 (float w)) true (2048 * w) 1 lowest) (value-finite (mul binary32 high11 (float w)) false (2048 * w) 1 highest) tt tt product-in half_in)

-- ---- a texel number as a float
pub counted : (t : Float) (z : ℤ) (d : ℕ) → t ≡ of_int binary32 z → nat_abs z ≤ 2048 * d + 1 → d ≤ 4096 → Counted t d × (floor_of t ≡ z)
counted t z d e h b =
    let i : floor_of t ≡ z = ap floor_of e ∙ floor-int (of_int binary32 z) z (int_is binary32 z (omega arith)) in
    (record { is = e ∙ ap (of_int binary32) (sym i); near = subst (λ (n : ℤ). nat_abs n ≤ 2048 * d + 1) (sym i) h }, i)

-- where a coordinate stands, from the floor of x_f
pub stands : (u : Float) (w : ℕ) → T (coordinate_taken u) → 1 ≤ w → w ≤ 4096 → (t : Float) → t ≡ of_int binary32 (floor_of (span_of u w))
    → Stands u w (record { first = t; second = add binary32 t one32; part = sub binary32 (span_of u w) t })
unfolding of_bits
stands u w taken a b t e =
    let z = floor_of (span_of u w) in
    let f = span-floored u w taken a b in
    let near : nat_abs z ≤ 2048 * w + 1 = let h = f.near in omega arith in
    let after : nat_abs (z +ℤ pos 1) ≤ 2048 * w + 1 = let h = f.next in omega arith in
    let here = counted t z w e near b in
    let sum : add binary32 t one32 ≡ of_int binary32 (z +ℤ pos 1) = add-int binary32 t one32 z (pos 1) (subst (λ (x : Float). IsInt x z) (sym e) (int_is binary32 z (omega arith))) (refl, refl) (omega arith) (lit≤ tt) (omega arith) in
    let next = counted (add binary32 t one32) (z +ℤ pos 1) w sum after b in
    record { first = here.0; second = next.0; floor = here.1; after = next.1; rest = ap (sub binary32 (span_of u w)) e }
