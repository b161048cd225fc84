-- Lighting coefficients: a cubemap as four irradiance coefficients per colour. Each operation is an f32 operation rounded once.
-- Definitions only.
use Rattle.std.specs.Prelude.{cond, List, ℕ, zero, suc, eqb, Float}
use Rattle.std.specs.Float.{binary32}
use Rattle.std.specs.Float.Ieee.{neg, add, sub, mul, div, of_bits}
use Rattle.rules.specs.declared.Rgb.{Rgb}
use Rattle.rules.specs.declared.Vector.{Vector}
use Rattle.rules.specs.declared.Basis.{Basis}
use Rattle.rules.specs.Kinds.{red_of, green_of, blue_of}
use Rattle.rules.specs.Levels.{texel}
use Rattle.rules.specs.Floats.{zero32, half32, one32, minus1, two32, float, square_of}
use Rattle.rules.specs.Root.{sqrt_of}
use Rattle.rules.specs.Curve.{curve}

-- 3.0, PI and the basis constants 0.282095 and 0.488603, by their bit patterns
abbrev pub three32 : Float
three32 = of_bits binary32 0x40400000

abbrev pub pi32 : Float
pi32 = of_bits binary32 0x40490fdb

abbrev pub basis0 : Float
basis0 = of_bits binary32 0x3e906ec1

abbrev pub basis1 : Float
basis1 = of_bits binary32 0x3efa2a2c

-- texel_omega = (2.0 / width) * (2.0 / height)
unfoldable pub omega_of : ℕ → ℕ → Float
omega_of w h = mul binary32 (div binary32 two32 (float w)) (div binary32 two32 (float h))

-- u = ((x + 0.5) / width) * 2.0 - 1.0, and v likewise with the height
unfoldable pub centre_of : ℕ → ℕ → Float
centre_of side x = sub binary32 (mul binary32 (div binary32 (add binary32 (float x) half32) (float side)) two32) one32

-- d = 1 + u*u + v*v, left to right
unfoldable pub distance_of : Float → Float → Float
distance_of u v = add binary32 (add binary32 one32 (square_of u)) (square_of v)

-- the weight's divisor is d times the rounded root of d
unfoldable pub weight_of : Float → Float → Float
weight_of omega d = div binary32 omega (mul binary32 d (sqrt_of d))

abbrev pub vector_of : Float → Float → Float → Vector Float
vector_of x y z = record { x = x; y = y; z = z }

-- cubemap_face_uv_to_direction, before it is divided, for the faces +X -X +Y -Y +Z -Z
unfoldable pub towards : ℕ → Float → Float → Vector Float
towards f u v =
    cond (eqb f 0) (vector_of one32 (neg v) (neg u))
    (cond (eqb f 1) (vector_of minus1 (neg v) u)
    (cond (eqb f 2) (vector_of u one32 v)
    (cond (eqb f 3) (vector_of u minus1 (neg v))
    (cond (eqb f 4) (vector_of u (neg v) one32) (vector_of (neg u) (neg v) minus1)))))

-- a direction is divided by the root
unfoldable pub divided_by : Float → Vector Float → Vector Float
divided_by r n = vector_of (div binary32 n.x r) (div binary32 n.y r) (div binary32 n.z r)

-- basis 0.282095, 0.488603 * y, 0.488603 * z, 0.488603 * x, each times the weight
unfoldable pub basis_of : Vector Float → Float → Basis Float
basis_of n weight =
    record {
      constant = mul binary32 basis0 weight;
      y = mul binary32 (mul binary32 basis1 n.y) weight;
      z = mul binary32 (mul binary32 basis1 n.z) weight;
      x = mul binary32 (mul binary32 basis1 n.x) weight;
    }

-- the basis at the place (u, v) of face f
unfoldable pub place_basis : Float → ℕ → Float → Float → Basis Float
place_basis omega f u v =
    let d = distance_of u v in
    basis_of (divided_by (sqrt_of d) (towards f u v)) (weight_of omega d)

-- a colour for each of the four
abbrev pub Sh4 : Type 0
Sh4 = Basis Rgb

-- each texel is decoded through T directly
unfoldable pub decoded_of : ℕ → Rgb
decoded_of t = record { r = curve (red_of t); g = curve (green_of t); b = curve (blue_of t) }

-- each sum gets colour * (basis * weight)
unfoldable pub gets : Rgb → Rgb → Float → Rgb
gets s c k =
    record {
      r = add binary32 s.r (mul binary32 c.r k);
      g = add binary32 s.g (mul binary32 c.g k);
      b = add binary32 s.b (mul binary32 c.b k);
    }

-- all four, each by its basis
unfoldable pub all_get : Rgb → Basis Float → Sh4 → Sh4
all_get c k s =
    record {
      constant = gets s.constant c k.constant;
      y = gets s.y c k.y;
      z = gets s.z c k.z;
      x = gets s.x c k.x;
    }

-- step 0, step 1, …: n of them, one after the other
unfoldable pub in_turn : {A : Type 0} → ℕ → (ℕ → A → A) → A → A
in_turn zero step s = s
in_turn (suc n) step s = step n (in_turn n step s)

-- the sums with the texel (x, y) of face f
unfoldable pub with_texel : ℕ → ℕ → List ℕ → ℕ → ℕ → ℕ → Sh4 → Sh4
with_texel w h l f y x = all_get (decoded_of (texel w h l f x y)) (place_basis (omega_of w h) f (centre_of w x) (centre_of h y))

-- nothing yet: +0
abbrev pub black : Rgb
black = record { r = zero32; g = zero32; b = zero32 }

abbrev pub unlit : Sh4
unlit = record { constant = black; y = black; z = black; x = black }

-- the sums, each from +0, in face, row and column order
unfoldable pub sums_of : ℕ → ℕ → List ℕ → Sh4
sums_of w h l = in_turn 6 (λ f. in_turn h (λ y. in_turn w (λ x. with_texel w h l f y x))) unlit

-- times one number, and then times another
unfoldable pub times_both : Float → Float → Rgb → Rgb
times_both a b c =
    record {
      r = mul binary32 (mul binary32 c.r a) b;
      g = mul binary32 (mul binary32 c.g a) b;
      b = mul binary32 (mul binary32 c.b a) b;
    }

-- 2.0 * PI / 3.0
abbrev pub two_thirds : Float
two_thirds = div binary32 (mul binary32 two32 pi32) three32

-- the first times PI and the others times 2.0 * PI / 3.0, then all times the basis constants again
unfoldable pub folded_of : Sh4 → Sh4
folded_of s =
    record {
      constant = times_both pi32 basis0 s.constant;
      y = times_both two_thirds basis1 s.y;
      z = times_both two_thirds basis1 s.z;
      x = times_both two_thirds basis1 s.x;
    }

-- of the picture whose level 0 is l
unfoldable pub irradiance_of : ℕ → ℕ → List ℕ → Sh4
irradiance_of w h l = folded_of (sums_of w h l)
