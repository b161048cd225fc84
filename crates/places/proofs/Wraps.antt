-- The code's wrapping in f32 is the rule over whole numbers, for a t that is one. Remainder and mirror are the source's own forms; t is held to
-- 0 and above before it is held to d - 1. Each is a whole number from 0 up, and an integer of 32 bits as it is. Assumes nothing.
use mathlib.Core.Path.{◌≡◌, refl, sym, ap, ◌∙◌, subst}
use mathlib.Core.Logic.{inl, inr}
use mathlib.Core.Bool.{Bool, true, false, cond, ◌&&◌}
use Prim.Native.Nat.{ℕ, ◌-◌, ◌*◌, ◌/◌, ◌%◌, ◌^◌, ◌≤◌, ◌<◌, min}
use native.Mathlib.Nat.{mul-one, mul-pos, mul-div_cancel, mul-mod_left, lt_of_lt_of_le, lt_irrefl, eq-zero-or-pos, zero-lt-suc}
use native.Mathlib.Omega.{arith}
use lib.IntN.{ℤ, pos, negsuc, nat_abs}
use lib.Dec.{T, leb, ltb, le→leb, lt→ltb}
use lib.Ieee.{Float, nan, inf, fin, binary32, up, down, round, sub, mul, div, lt, of_bits, whole, to_signed, in_signed}
use lib.Ieee.Fits.{down_pos, and_i}
use lib.Ieee.Exact.{HasValue}
use mir.Syntax.{w32}
use mir.Val.{to_z, of_z}
use mir.ValLaws.{to_z_pos}
use borrow.Author.Tests.{ltb-false}
use Rattle.rules.specs.Lanes.{Lanes}
use Rattle.rules.specs.declared.Mode.{Mode}
use Rattle.rules.specs.declared.Mode.TheVariants.{Repeat, Clamp, Mirror}
use Rattle.rules.specs.Floats.{Between, zero32, one32, two32, float}
use Rattle.rules.specs.Whole.{floor_of}
use Rattle.rules.specs.Wrapping.{remainder_of, held_of, mirrored_of, wrap_of}
use Rattle.rules.specs.Bilinear.{axis_of}
use Rattle.rules.proofs.Inside.{wrap-lt}
use Rattle.texel.specs.Ends.{low12, high12}
use Rattle.texel.proofs.Range.{round-le}
use Rattle.texel.proofs.Unit.{ends}
use Rattle.texel.proofs.Wholes.{below-zero, int_is}
use Rattle.places.specs.Sources.{least, most, rest_source}
use Rattle.places.specs.Sized.{Below}
use Rattle.places.specs.Stands.{Counted, nearests_of, axes_of}
use Rattle.places.proofs.Rests.{rest}
use Rattle.places.proofs.Wholes.{sub-whole, div-whole, least-whole}
use Rattle.places.proofs.SourceWraps.{side, last, two-sides, repeated, turned}

-- ---- a whole number n from 0 up, as an i32 and then as a u32
pub record Cut (x : Float) (n : ℕ) : Type 0 where
  pub is_whole : T (in_signed binary32 31 x)
  pub back : to_z w32 (of_z w32 (to_signed 31 x)) ≡ pos n
  pub few : n ≤ 8192

pub cut : (x : Float) (n : ℕ) → HasValue x false n 1 → n ≤ 8192 → Cut x n
unfolding in_signed whole to_signed
cut nan n v h = absurd v
cut (inf s) n v h = absurd v
cut (fin true m e) n v h = absurd (subst T v.0 tt)
cut (fin false m e) n v h =
    let k : m * up e ≡ n * down e = sym (mul-one (m * up e)) ∙ v.1 in
    let q : m * up e / down e ≡ n = ap (λ (z : ℕ). z / down e) k ∙ mul-div_cancel n (down_pos e) in
    let r : m * up e % down e ≡ 0 = ap (λ (z : ℕ). z % down e) k ∙ mul-mod_left n (down e) in
    record {
      is_whole = rw (q, r) (and_i (leb n (2 ^ 24) && true) (ltb n (2 ^ 31)) (and_i (leb n (2 ^ 24)) true (le→leb n (2 ^ 24) (omega arith)) tt) (lt→ltb n (2 ^ 31) (omega arith)));
      back = ap (λ (z : ℕ). to_z w32 (of_z w32 (pos z))) (ap (λ (z : ℕ). min z (2 ^ 31 - 1)) q ∙ below (2 ^ 31 - 1) (omega arith)) ∙ to_z_pos w32 n (omega arith);
      few = h;
    }
  where
    below : (k : ℕ) → n ≤ k → min n k ≡ n
    below k h = omega arith

-- ---- a quotient of at most 4,096 either way
low_end : round binary32 true 4096 1 ≡ low12
unfolding round
low_end = refl

high_end : round binary32 false 4096 1 ≡ high12
unfolding round
high_end = refl

quotient-in : (s : Bool) (a n : ℕ) → 0 < n → a ≤ 4096 * n → Between low12 (round binary32 s a n) high12
quotient-in s a n h l = ends low_end high_end (go s)
  where
    go : (s : Bool) → Between (round binary32 true 4096 1) (round binary32 s a n) (round binary32 false 4096 1)
    go true = record {
      low = round-le binary32 true 4096 1 true a n (zero-lt-suc 0) h (omega arith);
      high = round-le binary32 true a n false 4096 1 h (zero-lt-suc 0) (omega arith);
    }
    go false = record {
      low = round-le binary32 true 4096 1 false a n (zero-lt-suc 0) h (omega arith);
      high = round-le binary32 false a n false 4096 1 h (zero-lt-suc 0) (omega arith);
    }

-- ---- an integer held to 0 and above
abbrev above : ℤ → ℕ
above (pos n) = n
above (negsuc n) = 0

held-is : (t : ℤ) (d : ℕ) → min (above t) (d - 1) ≡ held_of t d
unfolding held_of
held-is (pos n) d = refl
held-is (negsuc n) d = none (d - 1)
  where
    none : (k : ℕ) → min 0 k ≡ 0
    none k = omega arith

raised : (x : Float) (z : ℤ) → HasValue x (below-zero z) (nat_abs z) 1 → HasValue (most x zero32) false (above z) 1
unfolding lt of_bits
raised nan z v = absurd v
raised (inf s) z v = absurd v
raised (fin true m e) (pos n) v = absurd (subst T v.0 tt)
raised (fin false m e) (negsuc n) v = absurd (subst T (sym v.0) tt)
raised (fin true m e) (negsuc n) v = (refl, refl)
raised (fin false m e) (pos n) v = go (lt zero32 (fin false m e)) refl
  where
    none : (n d : ℕ) → 0 < d → n * d ≤ 0 → n ≡ 0
    none n d h l = elim (eq-zero-or-pos n) [ inl z ↦ z | inr q ↦ absurd (lt_irrefl 0 (lt_of_lt_of_le (mul-pos q h) l)) ]

    go : (t : Bool) → lt zero32 (fin false m e) ≡ t → HasValue (cond t (fin false m e) zero32) false n 1
    go true h = v
    go false h =
        let l = ltb-false (0 * down e) (m * up e * 1) h in
        let w = v.1 in
        let z = none n (down e) (down_pos e) (omega arith) in
        (refl, omega arith)

-- ---- a counted t, of which z is the number
module _ (t : Float) (d : ℕ) (k : Counted t d) (a : 1 ≤ d) (b : d ≤ 4096) where
  abbrev z : ℤ
  z = floor_of t

  value : HasValue t (below-zero z) (nat_abs z) 1
  value = subst (λ (x : Float). HasValue x (below-zero z) (nat_abs z) 1) (sym k.is) (int_is binary32 z (let n = k.near in omega arith))

  divided-in : (y : Float) (n : ℕ) → d ≤ n → HasValue y false n 1 → Between low12 (div binary32 t y) high12
  divided-in y n h v =
      subst (λ (x : Float). Between low12 x high12) (sym (div-whole t y (below-zero z) (nat_abs z) n value v (omega arith)))
      (quotient-in (below-zero z) (nat_abs z) n (omega arith) (let l = k.near in omega arith))

  pub side-in : Between low12 (div binary32 t (float d)) high12
  side-in = divided-in (float d) d (omega arith) (side z d a b k.near)

  pub two_in : Between low12 (div binary32 t (mul binary32 (float d) two32)) high12
  two_in = divided-in (mul binary32 (float d) two32) (2 * d) (omega arith) (two-sides z d a b k.near)

  -- the three modes
  pub repeated-cut : Cut (rest_source t (float d)) (wrap_of Repeat z d)
  unfolding wrap_of
  repeated-cut =
      let r = (rest z d a).small in
      cut _ (remainder_of z d) (subst (λ (x : Float). HasValue (rest_source x (float d)) false (remainder_of z d) 1) (sym k.is) (repeated z d a b k.near)) (omega arith)

  pub mirrored-cut : Cut (least (least (rest_source t (mul binary32 (float d) two32)) (sub binary32 (mul binary32 (float d) two32) (rest_source t (mul binary32 (float d) two32)))) (sub binary32 (float d) one32)) (wrap_of Mirror z d)
  unfolding wrap_of mirrored_of
  mirrored-cut =
      let r = remainder_of z (2 * d) in
      let s = (rest z (2 * d) (omega arith)).small in
      let w = subst (λ (x : Float). HasValue (rest_source x (mul binary32 (float d) two32)) false r 1) (sym k.is) (turned z d a b k.near) in
      let v = sub-whole _ _ (2 * d) r (two-sides z d a b k.near) w (omega arith) (omega arith) in
      cut _ (min (min r (2 * d - r)) (d - 1)) (least-whole _ _ (min r (2 * d - r)) (d - 1) (least-whole _ _ r (2 * d - r) w v) (last z d a b k.near)) (omega arith)

  pub held_cut : Cut (least (most t zero32) (sub binary32 (float d) one32)) (wrap_of Clamp z d)
  unfolding wrap_of
  held_cut =
      subst (Cut (least (most t zero32) (sub binary32 (float d) one32))) (held-is z d)
      (cut _ (min (above z) (d - 1)) (least-whole _ _ (above z) (d - 1) (raised t z value) (last z d a b k.near)) (omega arith))

-- ---- four lanes' wrapped numbers lie in their side
pub nearests-below : (mode : Mode) (u : Lanes) (w : ℕ) → 1 ≤ w → Below w (nearests_of mode u w)
unfolding nearests_of
nearests-below mode u w h = let at : (t : ℤ) → wrap_of mode t w < w = λ t. wrap-lt mode t w h in record { a = at _; b = at _; c = at _; d = at _ }

pub axes-below : (mode : Mode) (u : Lanes) (w : ℕ) → 1 ≤ w → Below w (axes_of mode u w).first × Below w (axes_of mode u w).second
unfolding axes_of axis_of
axes-below mode u w h =
    let at : (t : ℤ) → wrap_of mode t w < w = λ t. wrap-lt mode t w h in
    (record { a = at _; b = at _; c = at _; d = at _ }, record { a = at _; b = at _; c = at _; d = at _ })
