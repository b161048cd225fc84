-- The footprint of four steps, and the level that it asks for. Width and height are those of level 0. Definitions only.
use Rattle.std.specs.Prelude.{cond, ℕ, zero, suc, ◌^◌, Float}
use Rattle.std.specs.Float.{binary32}
use Rattle.std.specs.Float.Ieee.{add, mul, le}
use Rattle.rules.specs.Lanes.{Lanes}
use Rattle.rules.specs.Floats.{half32, float, square_of}
use Rattle.rules.specs.Sizes.{top}

-- X, Y the first two steps times width and Z, W the last two times height: ((X*X + Z*Z) + (Y*Y + W*W)) * 0.5
unfoldable pub footprint_of : ℕ → ℕ → Lanes → Float
footprint_of w h steps =
    let X = mul binary32 steps.a (float w) in
    let Y = mul binary32 steps.b (float w) in
    let Z = mul binary32 steps.c (float h) in
    let W = mul binary32 steps.d (float h) in
    mul binary32 (add binary32 (add binary32 (square_of X) (square_of Z)) (add binary32 (square_of Y) (square_of W))) half32

-- the greatest m up to n with 4^m at most max(footprint, 1): 4^0 is, in any case
unfoldable pub four_of : ℕ → Float → ℕ
four_of zero f = 0
four_of (suc n) f = cond (le (float (4 ^ suc n)) f) (suc n) (four_of n f)

-- the greatest m with 4^m at most max(footprint, 1), lowered to the top level
unfoldable pub mip_level_of : ℕ → ℕ → Lanes → ℕ
unfolding footprint_of four_of
mip_level_of w h steps = four_of (top w h) (footprint_of w h steps)
