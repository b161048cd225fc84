-- The f32 numbers that document 01 names, and a texel's bytes as f32. Each operation is an f32 operation rounded once.
-- Definitions only.
use Rattle.std.specs.Prelude.{ℕ, cond, T, pos, Float}
use Rattle.std.specs.Float.{binary32}
use Rattle.std.specs.Float.Ieee.{neg, add, sub, mul, div, le, lt, of_int, of_bits}

-- 0.0, 0.5, 1.0, -1.0, 2.0, 4.0 and 255.0, by their bit patterns
abbrev pub zero32 : Float
zero32 = of_bits binary32 0

abbrev pub half32 : Float
half32 = of_bits binary32 0x3f000000

abbrev pub one32 : Float
one32 = of_bits binary32 0x3f800000

abbrev pub minus1 : Float
minus1 = neg one32

abbrev pub two32 : Float
two32 = of_bits binary32 0x40000000

abbrev pub four32 : Float
four32 = of_bits binary32 0x40800000

abbrev pub top32 : Float
top32 = of_bits binary32 0x437f0000

-- the largest finite f32
abbrev pub largest : Float
largest = of_bits binary32 0x7f7fffff

-- lo ≤ x ≤ hi: so x is no nan
pub record Between (lo x hi : Float) : Type 0 where
  pub low : T (le lo x)
  pub high : T (le x hi)

-- |x|; of -0 it is -0, which compares as 0 does
unfoldable pub magnitude : Float → Float
magnitude x = cond (lt x zero32) (neg x) x

-- a whole number as an f32
abbrev pub float : ℕ → Float
float n = of_int binary32 (pos n)

-- unpack: byte / 255.0
abbrev pub unpack_of : ℕ → Float
unpack_of b = div binary32 (float b) top32

-- the sum runs p00, p10, p01, p11, left to right, then / 4.0
abbrev pub mean_of : Float → Float → Float → Float → Float
mean_of a b c d = div binary32 (add binary32 (add binary32 (add binary32 a b) c) d) four32

abbrev pub square_of : Float → Float
square_of x = mul binary32 x x

-- 1 - x
abbrev pub rest_of : Float → Float
rest_of x = sub binary32 one32 x
