-- How the station's source writes wrapping and the level: floats where document 01 has whole numbers. Definitions only.
use Rattle.std.specs.Prelude.{cond, ℕ, ◌/◌, min, Float}
use Rattle.std.specs.Float.{binary32}
use Rattle.std.specs.Float.Ieee.{sub, mul, div, lt, of_int, to_unsigned}
use Rattle.rules.specs.declared.Mode.{Mode}
use Rattle.rules.specs.declared.Mode.TheVariants.{Repeat, Clamp, Mirror}
use Rattle.rules.specs.Floats.{one32, two32}
use Rattle.rules.specs.Whole.{floor_of}
use Rattle.rules.specs.Sizes.{log2}

-- min and max of two floats; max takes the second where the first is no number
abbrev pub least : Float → Float → Float
least a b = cond (lt a b) a b

abbrev pub most : Float → Float → Float
most a b = cond (lt b a) a b

-- t - floor(t / d) * d; the floor as an f32, a zero's sign aside
abbrev pub rest_source : Float → Float → Float
rest_source t d = sub binary32 t (mul binary32 (of_int binary32 (floor_of (div binary32 t d))) d)

-- Repeat: t - floor(t / d) * d. Mirrored: with two = d * 2, r = t - floor(t / two) * two, then min(r, two - r). Then min(.., d - 1), as u32
unfoldable pub wrap_source : Mode → Float → Float → ℕ
wrap_source Repeat t d = to_unsigned 32 (least (rest_source t d) (sub binary32 d one32))
wrap_source Clamp t d = to_unsigned 32 (least t (sub binary32 d one32))
wrap_source Mirror t d =
    let two = mul binary32 d two32 in
    let r = rest_source t two in
    to_unsigned 32 (least (least r (sub binary32 two r)) (sub binary32 d one32))

-- (max(footprint, 1) as u32).ilog2() >> 1, lowered to the top level n
unfoldable pub level_source : ℕ → Float → ℕ
level_source n f = min (log2 (to_unsigned 32 (most f one32)) / 2) n
