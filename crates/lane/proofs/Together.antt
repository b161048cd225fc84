-- Four one-lane answers are one answer from the places of the four. Assumes nothing.
use mathlib.Core.Path.{◌≡◌, refl}
use mathlib.Core.List.{List}
use Prim.Native.Nat.{ℕ}
use Rattle.rules.specs.Lanes.{Lanes}
use Rattle.rules.specs.Lanes.{Wholes}
use Rattle.rules.specs.Lanes.{Directions}
use Rattle.rules.specs.declared.Mode.{Mode}
use Rattle.rules.specs.declared.Plane.{Plane}
use Rattle.rules.specs.Sizes.{top}
use Rattle.rules.specs.Lanes.{lanes_of, rgb_lanes}
use Rattle.rules.specs.Places.{nearest_rgb, nearest_alpha}
use Rattle.rules.specs.Bilinear.{corners_of, corners_at, bilinear_rgb, bilinear_alpha}
use Rattle.rules.specs.Cubemap.{spot_rgb, cubemap_rgb, lerp_rgb, between_levels, trilinear_rgb}
use Rattle.rules.specs.Answers.{spots_of, spots_at}
use Rattle.places.specs.Stands.{axes_of}
use Rattle.lane.specs.Cubes.{cube_four, two_levels, lerp_colours}
use Rattle.lane.specs.Reading.{nearest_four, places_of, squares_at, read_rgb, read_alpha, blended_rgb, blended_alpha}

module _ (l : List ℕ) (p : Plane) (s t : Mode) (u v : Lanes) where
  pub nearest-colours : rgb_lanes (nearest_rgb l p s t u.a v.a) (nearest_rgb l p s t u.b v.b) (nearest_rgb l p s t u.c v.c) (nearest_rgb l p s t u.d v.d) ≡ read_rgb l (nearest_four p s t u v)
  unfolding nearest_rgb nearest_four read_rgb
  nearest-colours = refl

  pub nearest-alphas : lanes_of (nearest_alpha l p s t u.a v.a) (nearest_alpha l p s t u.b v.b) (nearest_alpha l p s t u.c v.c) (nearest_alpha l p s t u.d v.d) ≡ read_alpha l (nearest_four p s t u v)
  unfolding nearest_alpha nearest_four read_alpha
  nearest-alphas = refl

  pub bilinear-colours : (f : Wholes) → rgb_lanes (bilinear_rgb l p f.a s t u.a v.a) (bilinear_rgb l p f.b s t u.b v.b) (bilinear_rgb l p f.c s t u.c v.c) (bilinear_rgb l p f.d s t u.d v.d) ≡ blended_rgb l (squares_at p f s t u v)
  unfolding bilinear_rgb corners_at corners_of squares_at axes_of places_of blended_rgb
  bilinear-colours f = refl

  pub bilinear-alphas : lanes_of (bilinear_alpha l p s t u.a v.a) (bilinear_alpha l p s t u.b v.b) (bilinear_alpha l p s t u.c v.c) (bilinear_alpha l p s t u.d v.d) ≡ blended_alpha l (squares_at p (record { a = 0; b = 0; c = 0; d = 0 }) s t u v)
  unfolding bilinear_alpha corners_at corners_of squares_at axes_of places_of blended_alpha
  bilinear-alphas = refl

module _ (l : List ℕ) (w h : ℕ) (n : Directions) where
  pub cubemap-colours : (m : Wholes) → rgb_lanes (cubemap_rgb l w h n.x.a n.y.a n.z.a m.a) (cubemap_rgb l w h n.x.b n.y.b n.z.b m.b) (cubemap_rgb l w h n.x.c n.y.c n.z.c m.c) (cubemap_rgb l w h n.x.d n.y.d n.z.d m.d) ≡ read_rgb l (cube_four w h (spots_at n) m)
  unfolding cubemap_rgb spot_rgb spots_of cube_four read_rgb
  cubemap-colours m = refl

  -- a trilinear lookup is two cubemap lookups, blended
  pub trilinear-colours : (levels : Lanes) → let m = two_levels levels (top w h) in rgb_lanes (trilinear_rgb l w h n.x.a n.y.a n.z.a levels.a) (trilinear_rgb l w h n.x.b n.y.b n.z.b levels.b) (trilinear_rgb l w h n.x.c n.y.c n.z.c levels.c) (trilinear_rgb l w h n.x.d n.y.d n.z.d levels.d) ≡ lerp_colours (read_rgb l (cube_four w h (spots_at n) m.low)) (read_rgb l (cube_four w h (spots_at n) m.high)) m.part
  unfolding trilinear_rgb between_levels lerp_rgb cubemap_rgb spot_rgb spots_of two_levels cube_four read_rgb
  trilinear-colours levels = refl
