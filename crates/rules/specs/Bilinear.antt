-- One lane of the bilinear lookups. Definitions only.
use Rattle.std.specs.Prelude.{List, ℕ, pos, ◌+ℤ◌, get_or, Float}
use Rattle.std.specs.Float.{binary32}
use Rattle.std.specs.Float.Ieee.{add, sub, mul, of_int}
use Rattle.rules.specs.declared.Mode.{Mode}
use Rattle.rules.specs.declared.Plane.{Plane}
use Rattle.rules.specs.declared.Axis.{Axis}
use Rattle.rules.specs.declared.Corners.{Corners}
use Rattle.rules.specs.declared.Weights.{Weights}
use Rattle.rules.specs.declared.Rgb.{Rgb}
use Rattle.rules.specs.Floats.{half32, float, rest_of}
use Rattle.rules.specs.Whole.{floor_of}
use Rattle.rules.specs.Wrapping.{wrap_of}
use Rattle.rules.specs.Places.{place_of, rgb_of, opacity_of}

-- x_f = u * width - 0.5
abbrev pub span_of : Float → ℕ → Float
span_of u w = sub binary32 (mul binary32 u (float w)) half32

-- x0 = floor, x1 = x0 + 1, both wrapped; fx = x_f - x0
unfoldable pub axis_of : Mode → Float → ℕ → Axis ℕ Float
axis_of mode x w =
    record {
      first = wrap_of mode (floor_of x) w;
      second = wrap_of mode (floor_of x +ℤ pos 1) w;
      part = sub binary32 x (of_int binary32 (floor_of x));
    }

-- the four places p00, p10, p01, p11 of face f, and the weights
unfoldable pub corners_of : Plane → ℕ → Axis ℕ Float → Axis ℕ Float → Corners ℕ Float
corners_of p f x y =
    record {
      p00 = place_of p f x.first y.first;
      p10 = place_of p f x.second y.first;
      p01 = place_of p f x.first y.second;
      p11 = place_of p f x.second y.second;
      fx = x.part;
      fy = y.part;
    }

unfoldable pub corners_at : Plane → ℕ → Mode → Mode → Float → Float → Corners ℕ Float
corners_at p f s t u v =
    corners_of p f (axis_of s (span_of u p.width) p.width) (axis_of t (span_of v p.height) p.height)

-- each corner's weight product
unfoldable pub weights_of : Float → Float → Weights
weights_of fx fy =
    record {
      w00 = mul binary32 (rest_of fx) (rest_of fy);
      w10 = mul binary32 fx (rest_of fy);
      w01 = mul binary32 (rest_of fx) fy;
      w11 = mul binary32 fx fy;
    }

-- RGB adds p00, p10, p01, p11, each times its weight product, left to right
unfoldable pub blend_of : Weights → Float → Float → Float → Float → Float
blend_of w p00 p10 p01 p11 =
    add binary32
    (add binary32
    (add binary32 (mul binary32 p00 w.w00) (mul binary32 p10 w.w10))
    (mul binary32 p01 w.w01))
    (mul binary32 p11 w.w11)

unfoldable pub blend_rgb : Weights → Rgb → Rgb → Rgb → Rgb → Rgb
blend_rgb w p00 p10 p01 p11 =
    record {
      r = blend_of w p00.r p10.r p01.r p11.r;
      g = blend_of w p00.g p10.g p01.g p11.g;
      b = blend_of w p00.b p10.b p01.b p11.b;
    }

-- a * (1 - f) + b * f
abbrev pub mix_of : Float → Float → Float → Float
mix_of a b f = add binary32 (mul binary32 a (rest_of f)) (mul binary32 b f)

-- alpha blends along x first and then along y
unfoldable pub blend_alpha : Float → Float → Float → Float → Float → Float → Float
blend_alpha fx fy p00 p10 p01 p11 = mix_of (mix_of p00 p10 fx) (mix_of p01 p11 fx) fy

-- what one lane answers from its four places
unfoldable pub corners_rgb : List ℕ → Corners ℕ Float → Rgb
corners_rgb l c =
    blend_rgb (weights_of c.fx c.fy) (rgb_of (get_or l c.p00 0)) (rgb_of (get_or l c.p10 0)) (rgb_of (get_or l c.p01 0)) (rgb_of (get_or l c.p11 0))

unfoldable pub corners_alpha : List ℕ → Corners ℕ Float → Float
corners_alpha l c =
    blend_alpha c.fx c.fy (opacity_of (get_or l c.p00 0)) (opacity_of (get_or l c.p10 0)) (opacity_of (get_or l c.p01 0)) (opacity_of (get_or l c.p11 0))

-- one lane of the bilinear lookups
unfoldable pub bilinear_rgb : List ℕ → Plane → ℕ → Mode → Mode → Float → Float → Rgb
bilinear_rgb l p f s t u v = corners_rgb l (corners_at p f s t u v)

unfoldable pub bilinear_alpha : List ℕ → Plane → Mode → Mode → Float → Float → Float
bilinear_alpha l p s t u v = corners_alpha l (corners_at p 0 s t u v)
