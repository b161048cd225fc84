-- The places of four lanes, and what is read there. Definitions only.
use Rattle.std.specs.Prelude.{List, ℕ, length, get_or, Float}
use Rattle.rules.specs.Lanes.{Lanes, Wholes, Directions, rgb_lanes}
use Rattle.rules.specs.declared.Four.{Four}
use Rattle.rules.specs.declared.Mode.{Mode}
use Rattle.rules.specs.declared.Plane.{Plane}
use Rattle.rules.specs.declared.Rgb.{Rgb}
use Rattle.rules.specs.declared.Corners.{Corners}
use Rattle.rules.specs.Places.{place_of, nearest_place, rgb_of, opacity_of}
use Rattle.rules.specs.Bilinear.{corners_rgb, corners_alpha}
use Rattle.choice.specs.Each.{each_of, each_two}
use Rattle.places.specs.Sized.{Below}
use Rattle.places.specs.Stands.{axes_of}

-- the places of four lanes, each on its own face
unfoldable pub places_of : Plane → Wholes → Wholes → Wholes → Wholes
places_of p f x y = record { a = place_of p f.a x.a y.a; b = place_of p f.b x.b y.b; c = place_of p f.c x.c y.c; d = place_of p f.d x.d y.d }

-- those of a nearest lookup
unfoldable pub nearest_four : Plane → Mode → Mode → Lanes → Lanes → Wholes
nearest_four p s t u v = each_two (nearest_place p s t) u v

-- those of a bilinear lookup and its weights, the lanes side by side
unfoldable pub squares_at : Plane → Wholes → Mode → Mode → Lanes → Lanes → Corners Wholes Lanes
squares_at p f s t u v =
    let x = axes_of s u p.width in
    let y = axes_of t v p.height in
    record {
      p00 = places_of p f x.first y.first;
      p10 = places_of p f x.second y.first;
      p01 = places_of p f x.first y.second;
      p11 = places_of p f x.second y.second;
      fx = x.part;
      fy = y.part;
    }

-- lane by lane
abbrev pub corners_in : Corners Wholes Lanes → Four (Corners ℕ Float)
corners_in f =
    record {
      a = record { p00 = f.p00.a; p10 = f.p10.a; p01 = f.p01.a; p11 = f.p11.a; fx = f.fx.a; fy = f.fy.a };
      b = record { p00 = f.p00.b; p10 = f.p10.b; p01 = f.p01.b; p11 = f.p11.b; fx = f.fx.b; fy = f.fy.b };
      c = record { p00 = f.p00.c; p10 = f.p10.c; p01 = f.p01.c; p11 = f.p11.c; fx = f.fx.c; fy = f.fy.c };
      d = record { p00 = f.p00.d; p10 = f.p10.d; p01 = f.p01.d; p11 = f.p11.d; fx = f.fx.d; fy = f.fy.d };
    }

-- the places lie within the texels l
abbrev pub Inside : List ℕ → Wholes → Type 0
Inside l f = Below (length l) f

pub record AllWithin (l : List ℕ) (f : Corners Wholes Lanes) : Type 0 where
  pub in00 : Inside l f.p00
  pub in10 : Inside l f.p10
  pub in01 : Inside l f.p01
  pub in11 : Inside l f.p11

-- four colours, lane by lane
abbrev pub colours_of : Four Rgb → Directions
colours_of c = rgb_lanes c.a c.b c.c c.d

-- what four lanes answer from their places
unfoldable pub read_rgb : List ℕ → Wholes → Directions
read_rgb l f = colours_of (each_of (λ i. rgb_of (get_or l i 0)) f)

unfoldable pub read_alpha : List ℕ → Wholes → Lanes
read_alpha l f = each_of (λ i. opacity_of (get_or l i 0)) f

unfoldable pub blended_rgb : List ℕ → Corners Wholes Lanes → Directions
blended_rgb l f = colours_of (each_of (corners_rgb l) (corners_in f))

unfoldable pub blended_alpha : List ℕ → Corners Wholes Lanes → Lanes
blended_alpha l f = each_of (corners_alpha l) (corners_in f)
