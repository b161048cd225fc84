-- Floats to whole numbers. Definitions only.
use Rattle.std.specs.Prelude.{true, false, cond, ℕ, ◌+◌, ◌-◌, ◌*◌, ◌/◌, ◌%◌, ltb, ℤ, pos, neg_ℤ, Float}
use Rattle.std.specs.Float.{nan, inf, fin}
use Rattle.std.specs.Float.Ieee.{up, down}

-- the floor: a quotient, and for a negative number the quotient rounded up
unfoldable pub floor_of : Float → ℤ
floor_of nan = pos 0
floor_of (inf s) = pos 0
floor_of (fin false m e) = pos (m * up e / down e)
floor_of (fin true m e) = neg_ℤ (pos ((m * up e + (down e - 1)) / down e))

-- floor(x + 1/2) of the exact x: nearest, a half upward; of a value below zero it is 0, and only -0 comes here
unfoldable pub upward_of : Float → ℕ
upward_of nan = 0
upward_of (inf s) = 0
upward_of (fin true m e) = 0
upward_of (fin false m e) = (2 * (m * up e) + down e) / (2 * down e)

-- a / d with the whole part t, to the nearest whole number, a half to the even neighbour: beside t + 1/2, which is (2t + 1) / 2
unfoldable pub half_even : ℕ → ℕ → ℕ → ℕ
half_even a d t = cond (ltb (a * 2) ((2 * t + 1) * d)) t (cond (ltb ((2 * t + 1) * d) (a * 2)) (t + 1) (t + t % 2))

-- round: a half to the even neighbour; of a value below zero it is 0, and only -0 comes here
unfoldable pub even_of : Float → ℕ
unfolding half_even
even_of nan = 0
even_of (inf s) = 0
even_of (fin true m e) = 0
even_of (fin false m e) = half_even (m * up e) (down e) (m * up e / down e)
