-- A texel's centre lies in -1 to 1 along each side of its face, and its distance squared from the cube's centre, 1 + u*u + v*v, in 1 to 3. For
-- x + 1/2 lies from 0 to the side where x is below it, so that its part of the side lies from 0 to 1; each operation keeps the order, and the
-- ends are computed. Assumes nothing.
use mathlib.Core.Path.{◌≡◌, subst}
use mathlib.Core.Bool.{true, false}
use Prim.Native.Nat.{ℕ, ◌+◌, ◌*◌, ◌≤◌, ◌<◌}
use native.Mathlib.Nat.{zero-lt-suc, mul-pos, mul-le-mul_right}
use native.Mathlib.Omega.{arith}
use lib.Dec.{T}
use lib.Ieee.{Float, nan, inf, fin, binary32, up, down, round, add, div, le, of_int, of_bits}
use lib.Ieee.Fits.{down_pos}
use lib.Ieee.Exact.{HasValue}
use lib.Ieee.Back.{round_whole}
use lib.Ieee.Positive.{positive-finite}
use Rattle.rules.specs.Floats.{Between, zero32, half32, one32, minus1, two32, float, square_of}
use Rattle.rules.specs.Irradiance.{three32, centre_of, distance_of}
use Rattle.texel.proofs.Range.{add_is, sum-in, in-add, in-div, div_self}
use Rattle.texel.proofs.Magnitudes.{square-in, div-nought}
use Rattle.texel.proofs.Unit.{ends, spread-in}
use Rattle.texel.proofs.Coord.{side-positive}

-- ---- x + 1/2 lies from 0 to s
half-past : (z : Float) (x s : ℕ) → HasValue z false x 1 → x < s → Between (round binary32 false 0 1) (add binary32 z half32) (round binary32 false s 1)
unfolding of_bits
half-past nan x s v h = absurd v
half-past (inf t) x s v h = absurd v
half-past (fin true m e) x s v h = absurd (subst T v.0 tt)
half-past (fin false m e) x s v h =
    let z = fin false m e in
    sum-in binary32 (add binary32 z half32) (m * up e * 2 + 1 * down e) 0 (down e * 2) false 0 1 false s 1 (mul-pos (down_pos e) (zero-lt-suc 1)) (zero-lt-suc 0) (zero-lt-suc 0)
    (add_is binary32 z half32 tt tt) (omega arith) (fits (m * up e) (down e) v.1)
  where
    fits : (a d : ℕ) → a * 1 ≡ x * d → (a * 2 + 1 * d) * 1 + 0 * (d * 2) ≤ s * (d * 2) + 0 * 1
    fits a d e = let k : (x + 1) * d ≤ s * d = mul-le-mul_right d (omega arith) in omega arith

part_in : (x s : ℕ) → x < s → s ≤ 4096 → Between zero32 (div binary32 (add binary32 (float x) half32) (float s)) one32
unfolding of_int of_bits round
part_in x s h l =
    let p = side-positive s (omega arith) l in
    ends (div-nought binary32 (float s) p) (div_self binary32 (float s) p)
    (in-div binary32 zero32 (add binary32 (float x) half32) (float s) (float s) tt (positive-finite (float s) p) p
    (half-past (float x) x s (round_whole binary32 false x (omega arith)) h))

pub centre-in : (side x : ℕ) → x < side → side ≤ 4096 → Between minus1 (centre_of side x) one32
unfolding centre_of
centre-in side x h l = spread-in (div binary32 (add binary32 (float x) half32) (float side)) (part_in x side h l)

-- ---- 1 + u*u + v*v
pub distance_in : (u v : Float) → Between minus1 u one32 → Between minus1 v one32 → Between one32 (distance_of u v) three32
unfolding distance_of of_bits add le
distance_in u v p q =
    in-add binary32 one32 (add binary32 one32 (square_of u)) two32 zero32 (square_of v) one32 tt tt tt tt
    (in-add binary32 one32 one32 one32 zero32 (square_of u) one32 tt tt tt tt (record { low = tt; high = tt }) (square-in u p))
    (square-in v q)
