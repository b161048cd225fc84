-- A value less its floor lies in 0 to 1, each an f32: the weights of the bilinear lookup. The difference lies in 0 to 1 before it is rounded, and
-- rounding keeps the order. Assumes nothing.
use mathlib.Core.Path.{◌≡◌, refl, sym, ◌∙◌, subst}
use mathlib.Core.Bool.{Bool, false}
use Prim.Native.Nat.{ℕ, ◌+◌, ◌*◌, ◌/◌, ◌≤◌, ◌<◌}
use native.Mathlib.Nat.{le_trans, le_of_suc-le-suc, zero-lt-suc, mul-one, mul-pos, mul_right_comm, mul-le-mul_right, add-mul, div-lt_iff_lt-mul, div-add-mod', mod-lt}
use native.Mathlib.Omega.{arith}
use lib.IntN.{ℤ, nat_abs, sub_ℕ}
use lib.Dec.{T, lit≤}
use lib.Ieee.{Float, nan, inf, fin, binary32, up, down, sub, round, of_int, of_bits}
use lib.Ieee.Fits.{down_pos}
use lib.Ieee.Exact.{HasValue}
use lib.Ieee.Scale.{finite}
use lib.Ieee.Positive.{num, den, den_pos}
use Rattle.rules.specs.Floats.{Between, zero32, one32}
use Rattle.rules.specs.Whole.{floor_of}
use Rattle.texel.specs.Ends.{low23, high23}
use Rattle.texel.proofs.Range.{plus, less, sgn, sub_is, sum-in, Between-finite}
use Rattle.texel.proofs.Unit.{ends}
use Rattle.texel.proofs.Floors.{raised, floor-is, lowered, lowered-near, times, plus-of, less-of}
use Rattle.texel.proofs.Wholes.{below-zero, int_is}

-- ±n ≤ x ≤ ±n + 1, in whole numbers: x is (p - l) / D
abbrev Near : ℕ → ℕ → ℕ → Bool → ℕ → Type 0
Near p l D s n = (plus s n * D + l ≤ p + less s n * D) × (p + less s n * D ≤ D + l + plus s n * D)

scale : (P L D Q M d : ℕ) → Q * D + L ≤ P + M * D → P + M * D ≤ D + L + Q * D
    → (0 * (D * d) + (L * d + Q * d * D) * 1 ≤ (P * d + M * d * D) * 1 + 0 * (D * d)) × ((P * d + M * d * D) * 1 + 0 * (D * d) ≤ 1 * (D * d) + (L * d + Q * d * D) * 1)
scale P L D Q M d h g =
    let a : (Q * D + L) * d ≤ (P + M * D) * d = mul-le-mul_right d h in
    let b : (P + M * D) * d ≤ (D + L + Q * D) * d = mul-le-mul_right d g in
    let e1 = add-mul (Q * D) L d in
    let e2 = add-mul P (M * D) d in
    let e3 = add-mul (D + L) (Q * D) d in
    let e4 = add-mul D L d in
    let e5 = mul_right_comm Q D d in
    let e6 = mul_right_comm M D d in
    (omega arith, omega arith)

near-in : (x y : Float) (s : Bool) (n : ℕ) → T (finite x) → HasValue y s n 1 → Near (plus (sgn x) (num x)) (less (sgn x) (num x)) (den x) s n → Between zero32 (sub binary32 x y) one32
near-in x nan s n f v h = absurd v
near-in x (inf t) s n f v h = absurd v
near-in x (fin u k d) s n f v h =
    let y = fin u k d in
    let e : k * up d ≡ n * down d = sym (mul-one (k * up d)) ∙ v.1 in
    let w = scale (plus (sgn x) (num x)) (less (sgn x) (num x)) (den x) (plus s n) (less s n) (down d) h.0 h.1 in
    ends z o
    (sum-in binary32 (sub binary32 x y) (plus (sgn x) (num x) * down d + less u (k * up d) * den x) (less (sgn x) (num x) * down d + plus u (k * up d) * den x) (den x * down d) false 0 1 false 1 1
    (mul-pos (den_pos x) (down_pos d)) (zero-lt-suc 0) (zero-lt-suc 0) (sub_is binary32 x y f tt)
    (rw (plus-of u s (k * up d) n (down d) v.0 e, less-of u s (k * up d) n (down d) v.0 e) w.0)
    (rw (plus-of u s (k * up d) n (down d) v.0 e, less-of u s (k * up d) n (down d) v.0 e) w.1))
  where
    z : round binary32 false 0 1 ≡ zero32
    z = unfold round of_bits in refl

    o : round binary32 false 1 1 ≡ one32
    o = unfold round of_bits in refl

pub fraction-in : (x : Float) → Between low23 x high23 → Between zero32 (sub binary32 x (of_int binary32 (floor_of x))) one32
fraction-in x b =
    let r = raised x b in
    let q = r.n / den x in
    let l = r.few in
    let d = den_pos x in
    let i = sub_ℕ q 8388608 in
    let v = int_is binary32 i (le_trans (lowered-near q (small r.n (den x) d l)) (lit≤ tt)) in
    let w = lowered q i refl in
    let f = Between-finite low23 x high23 tt tt b in
    let z = times x (of_int binary32 i) f (below-zero i) (nat_abs i) q r.n v w r.val in
    let y = r.val in
    let e = div-add-mod' r.n (den x) in
    let m = mod-lt r.n d in
    subst (λ (t : ℤ). Between zero32 (sub binary32 x (of_int binary32 t)) one32) (floor-is x b r) (near-in x (of_int binary32 i) (below-zero i) (nat_abs i) f v (omega arith, omega arith))
  where
    small : (n d : ℕ) → 0 < d → n ≤ 16777216 * d → n / d ≤ 16777217
    small n d D h = le_of_suc-le-suc ((div-lt_iff_lt-mul D).1 (omega arith))
