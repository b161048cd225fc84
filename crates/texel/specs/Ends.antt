-- The ends of the ranges that floor, floor_near and round_even take. Definitions only.
use Rattle.std.specs.Prelude.{true, false, pos, Float}
use Rattle.std.specs.Float.{fin}

-- -2^23, 2^23, -2^12 and 2^12
abbrev pub low23 : Float
low23 = fin true 1 (pos 23)

abbrev pub high23 : Float
high23 = fin false 1 (pos 23)

abbrev pub low12 : Float
low12 = fin true 1 (pos 12)

abbrev pub high12 : Float
high12 = fin false 1 (pos 12)
