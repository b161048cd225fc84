-- One lane of the cubemap lookups. Definitions only.
use Rattle.std.specs.Prelude.{cond, List, ℕ, ◌+◌, ◌-◌, min, nat_abs, get_or, Float}
use Rattle.std.specs.Float.{binary32}
use Rattle.std.specs.Float.Ieee.{add, sub, mul, lt, of_int}
use Rattle.rules.specs.declared.Plane.{Plane}
use Rattle.rules.specs.Lanes.{Spot}
use Rattle.rules.specs.declared.Pairing.{Pairing}
use Rattle.rules.specs.declared.Rgb.{Rgb}
use Rattle.rules.specs.Kinds.{cubemap}
use Rattle.rules.specs.Sizes.{top}
use Rattle.rules.specs.Floats.{zero32, float}
use Rattle.rules.specs.Whole.{floor_of, even_of}
use Rattle.rules.specs.Places.{plane_of, place_of, rgb_of}
use Rattle.rules.specs.Faces.{spot_of}

-- the nearest cubemap texel along a side: round(u * (width - 1)), a half to the even neighbour
unfoldable pub cube_texel : Float → ℕ → ℕ
cube_texel u w = even_of (mul binary32 u (float (w - 1)))

unfoldable pub cube_place : Plane → Spot → ℕ
cube_place p s = place_of p s.face (cube_texel s.u p.width) (cube_texel s.v p.height)

unfoldable pub spot_rgb : List ℕ → Plane → Spot → Rgb
spot_rgb l p s = rgb_of (get_or l (cube_place p s) 0)

-- one lane of the cubemap lookup: the level is lowered to the top level
unfoldable pub cubemap_rgb : List ℕ → ℕ → ℕ → Float → Float → Float → ℕ → Rgb
cubemap_rgb l w h x y z m = spot_rgb l (plane_of cubemap w h (min m (top w h))) (spot_of x y z)

-- a fractional level held to 0..top
unfoldable pub hold_of : Float → Float → Float
hold_of x most = cond (lt x zero32) zero32 (cond (lt most x) most x)

-- lower level l, upper min(l + 1, top), and how far the level lies between them
unfoldable pub pairing_of : Float → ℕ → Pairing ℕ Float
pairing_of x n =
    let held = hold_of x (float n) in
    let l = nat_abs (floor_of held) in
    record { low = l; high = min (l + 1) n; part = sub binary32 held (of_int binary32 (floor_of held)) }

-- c0 + (c1 - c0) * t
abbrev pub lerp_of : Float → Float → Float → Float
lerp_of c0 c1 t = add binary32 c0 (mul binary32 (sub binary32 c1 c0) t)

unfoldable pub lerp_rgb : Rgb → Rgb → Float → Rgb
lerp_rgb p q t = record { r = lerp_of p.r q.r t; g = lerp_of p.g q.g t; b = lerp_of p.b q.b t }

-- the colours of the two levels, blended
unfoldable pub between_levels : List ℕ → ℕ → ℕ → Float → Float → Float → Pairing ℕ Float → Rgb
between_levels l w h x y z m = lerp_rgb (cubemap_rgb l w h x y z m.low) (cubemap_rgb l w h x y z m.high) m.part

-- one lane of the trilinear lookup
unfoldable pub trilinear_rgb : List ℕ → ℕ → ℕ → Float → Float → Float → Float → Rgb
trilinear_rgb l w h x y z m = between_levels l w h x y z (pairing_of m (top w h))
