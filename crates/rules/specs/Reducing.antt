-- For each kind and packing mode, the texel that takes the place of p00, p10, p01, p11. Definitions only.
use Rattle.std.specs.Prelude.{cond, ℕ, eqb, Float}
use Rattle.std.specs.Float.{binary32}
use Rattle.std.specs.Float.Ieee.{add, sub, mul, div}
use Rattle.rules.specs.declared.Packing.{Packing}
use Rattle.rules.specs.Kinds.{srgb, normal, metallic_roughness, red_of, green_of, blue_of, alpha_of, rgba}
use Rattle.rules.specs.Floats.{one32, two32, unpack_of, mean_of, square_of}
use Rattle.rules.specs.Packing.{pack_of}
use Rattle.rules.specs.Root.{sqrt_of}
use Rattle.rules.specs.Curve.{curve, encode_of}

-- one channel's rule, on the channel of each of four texels
abbrev pub on_channel : (ℕ → ℕ → ℕ → ℕ → ℕ) → (ℕ → ℕ) → ℕ → ℕ → ℕ → ℕ → ℕ
on_channel rule channel p00 p10 p01 p11 = rule (channel p00) (channel p10) (channel p01) (channel p11)

-- one rule for all four channels
unfoldable pub each_of : (ℕ → ℕ → ℕ → ℕ → ℕ) → ℕ → ℕ → ℕ → ℕ → ℕ
each_of rule p00 p10 p01 p11 =
    rgba
    (on_channel rule red_of p00 p10 p01 p11)
    (on_channel rule green_of p00 p10 p01 p11)
    (on_channel rule blue_of p00 p10 p01 p11)
    (on_channel rule alpha_of p00 p10 p01 p11)

-- Linear, Cubemap: the mean of each channel
unfoldable pub mean_byte : Packing → ℕ → ℕ → ℕ → ℕ → ℕ
mean_byte packing a b c d = pack_of packing (mean_of (unpack_of a) (unpack_of b) (unpack_of c) (unpack_of d))

unfoldable pub linear_of : Packing → ℕ → ℕ → ℕ → ℕ → ℕ
linear_of packing = each_of (mean_byte packing)

-- Normal: p*2 - 1, mean, (mean + 1) / 2, alpha included
abbrev pub spread_of : Float → Float
spread_of p = sub binary32 (mul binary32 p two32) one32

abbrev pub back_of : Float → Float
back_of m = div binary32 (add binary32 m one32) two32

abbrev pub normal_mean : Float → Float → Float → Float → Float
normal_mean a b c d = back_of (mean_of (spread_of a) (spread_of b) (spread_of c) (spread_of d))

unfoldable pub normal_byte : Packing → ℕ → ℕ → ℕ → ℕ → ℕ
normal_byte packing a b c d = pack_of packing (normal_mean (unpack_of a) (unpack_of b) (unpack_of c) (unpack_of d))

unfoldable pub normal_of : Packing → ℕ → ℕ → ℕ → ℕ → ℕ
normal_of packing = each_of (normal_byte packing)

-- MetallicRoughness: red and alpha of p00; green the square root, correctly rounded, of the mean of squares; blue the mean
abbrev pub squares_mean : Float → Float → Float → Float → Float
squares_mean a b c d = mean_of (square_of a) (square_of b) (square_of c) (square_of d)

unfoldable pub rough_byte : Packing → ℕ → ℕ → ℕ → ℕ → ℕ
rough_byte packing a b c d = pack_of packing (sqrt_of (squares_mean (unpack_of a) (unpack_of b) (unpack_of c) (unpack_of d)))

unfoldable pub metallic_of : Packing → ℕ → ℕ → ℕ → ℕ → ℕ
metallic_of packing p00 p10 p01 p11 =
    rgba
    (red_of p00)
    (on_channel (rough_byte packing) green_of p00 p10 p01 p11)
    (on_channel (mean_byte packing) blue_of p00 p10 p01 p11)
    (alpha_of p00)

-- SRGB colour channels: the mean of the T values, then the greatest k with T(k) at most the mean, whatever the packing. Alpha as Linear
unfoldable pub srgb_byte : ℕ → ℕ → ℕ → ℕ → ℕ
srgb_byte a b c d = encode_of (mean_of (curve a) (curve b) (curve c) (curve d))

unfoldable pub srgb_of : Packing → ℕ → ℕ → ℕ → ℕ → ℕ
srgb_of packing p00 p10 p01 p11 =
    rgba
    (on_channel srgb_byte red_of p00 p10 p01 p11)
    (on_channel srgb_byte green_of p00 p10 p01 p11)
    (on_channel srgb_byte blue_of p00 p10 p01 p11)
    (on_channel (mean_byte packing) alpha_of p00 p10 p01 p11)

-- by kind; Linear and Cubemap are the plain mean
unfoldable pub reduce_of : ℕ → Packing → ℕ → ℕ → ℕ → ℕ → ℕ
reduce_of kind packing =
    cond (eqb kind srgb) (srgb_of packing)
    (cond (eqb kind normal) (normal_of packing)
    (cond (eqb kind metallic_roughness) (metallic_of packing) (linear_of packing)))
