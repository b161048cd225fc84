-- A direction to a face and the place on it. Definitions only.
use Rattle.std.specs.Prelude.{Bool, not, cond, ◌&&◌, ◌||◌, ℕ, ◌+◌, pos, negsuc, Float, false}
use Rattle.std.specs.Float.{fin, binary32}
use Rattle.std.specs.Float.Ieee.{neg, add, mul, div, le, lt}
use Rattle.std.specs.Float.Ieee.Scale.{finite}
use Rattle.rules.specs.Lanes.{Spot}
use Rattle.rules.specs.Floats.{zero32, half32, one32, minus1, magnitude}

-- 2^-60 and 2^60
abbrev pub low60 : Float
low60 = fin false 1 (negsuc 59)

abbrev pub high60 : Float
high60 = fin false 1 (pos 60)

abbrev pub larger : Float → Float → Float
larger a b = cond (le a b) b a

-- a direction is taken unless a component is not finite, or the largest magnitude is below 2^-60 or above 2^60
unfoldable pub direction_taken : Float → Float → Float → Bool
direction_taken x y z =
    let most = larger (larger (magnitude x) (magnitude y)) (magnitude z) in
    finite x && (finite y && (finite z && not (lt most low60 || lt high60 most)))

-- a component >= 0, also -0, has the sign 1 and takes the even face
unfoldable pub sign_of : Float → Float
sign_of x = cond (le zero32 x) one32 minus1

unfoldable pub odd_of : Float → ℕ
odd_of x = cond (le zero32 x) 0 1

-- 0.5 * (q/major + 1)
abbrev pub on_face : Float → Float → Float
on_face q major = mul binary32 half32 (add binary32 (div binary32 q major) one32)

unfoldable pub spot_at : ℕ → Float → Float → Float → Spot
spot_at face q p major = record { face = face; u = on_face q major; v = on_face p major }

-- X if |x| >= |y| and |x| >= |z|; else Y if |y| > |x| and |y| >= |z|; else Z.
-- (u, v) before scaling: (-z*sx, -y), (x, z*sy), (x*sz, -y)
unfoldable pub spot_of : Float → Float → Float → Spot
spot_of x y z =
    let ax = magnitude x in
    let ay = magnitude y in
    let az = magnitude z in
    cond (le ay ax && le az ax) (spot_at (odd_of x) (mul binary32 (neg z) (sign_of x)) (neg y) ax)
    (cond (lt ax ay && le az ay) (spot_at (2 + odd_of y) x (mul binary32 z (sign_of y)) ay)
    (spot_at (4 + odd_of z) (mul binary32 x (sign_of z)) (neg y) az))
