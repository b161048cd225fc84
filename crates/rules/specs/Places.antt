-- The places that a lookup reads, and what it makes of a texel. In texel places width and height are those of the level read.
-- Definitions only.
use Rattle.std.specs.Prelude.{List, ℕ, ◌+◌, ◌*◌, ◌<◌, ℤ, get_or, Float}
use Rattle.std.specs.Float.{binary32}
use Rattle.std.specs.Float.Ieee.{mul}
use Rattle.rules.specs.declared.Mode.{Mode}
use Rattle.rules.specs.declared.Plane.{Plane}
use Rattle.rules.specs.declared.Rgb.{Rgb}
use Rattle.rules.specs.Kinds.{faces_of, red_of, green_of, blue_of, alpha_of}
use Rattle.rules.specs.Sizes.{side_at, start}
use Rattle.rules.specs.Floats.{float, unpack_of}
use Rattle.rules.specs.Whole.{floor_of}
use Rattle.rules.specs.Wrapping.{wrap_of}

-- level m of a chain
unfoldable pub plane_of : ℕ → ℕ → ℕ → ℕ → Plane
plane_of kind w h m = record { start = start (faces_of kind) w h m; faces = faces_of kind; width = side_at m w; height = side_at m h }

-- texel (x, y) of face f as a place in the chain
unfoldable pub place_of : Plane → ℕ → ℕ → ℕ → ℕ
place_of p f x y = p.start + ((f * p.height + y) * p.width + x)

-- it lies inside its level
pub record InLevel (p : Plane) (f x y : ℕ) : Type 0 where
  pub face : f < p.faces
  pub across : x < p.width
  pub down : y < p.height

-- what a texel is to a lookup: its channels unpacked
unfoldable pub rgb_of : ℕ → Rgb
rgb_of t = record { r = unpack_of (red_of t); g = unpack_of (green_of t); b = unpack_of (blue_of t) }

unfoldable pub opacity_of : ℕ → Float
opacity_of t = unpack_of (alpha_of t)

-- nearest: t = floor(u * width)
unfoldable pub nearest_of : Float → ℕ → ℤ
nearest_of u w = floor_of (mul binary32 u (float w))

unfoldable pub nearest_place : Plane → Mode → Mode → Float → Float → ℕ
nearest_place p s t u v =
    place_of p 0 (wrap_of s (nearest_of u p.width) p.width) (wrap_of t (nearest_of v p.height) p.height)

-- one lane of the nearest lookup
unfoldable pub nearest_rgb : List ℕ → Plane → Mode → Mode → Float → Float → Rgb
nearest_rgb l p s t u v = rgb_of (get_or l (nearest_place p s t u v) 0)

unfoldable pub nearest_alpha : List ℕ → Plane → Mode → Mode → Float → Float → Float
nearest_alpha l p s t u v = opacity_of (get_or l (nearest_place p s t u v) 0)
