-- Wrap codes, and a texel number wrapped into a side, over whole numbers. Definitions only.
use Rattle.std.specs.Prelude.{cond, Result, Ok, Err, ℕ, ◌-◌, ◌*◌, ◌%◌, min, eqb, ℤ, pos, negsuc}
use Rattle.rules.specs.declared.Mode.{Mode}
use Rattle.rules.specs.declared.Mode.TheVariants.{Repeat, Clamp, Mirror}
use Rattle.rules.specs.declared.Refusal.{Refusal}
use Rattle.rules.specs.declared.Refusal.TheVariants.{UnknownWrap}

-- what code 0, not given, stands for: glTF 2.0's default along both axes
abbrev pub not_given : Mode
not_given = Repeat

-- 10497 Repeat, 33071 ClampToEdge, 33648 MirroredRepeat, 0 not given; every other code is refused
unfoldable pub wrap_code : ℕ → Result Mode Refusal
wrap_code code =
    cond (eqb code 10497) (Ok Repeat)
    (cond (eqb code 33071) (Ok Clamp)
    (cond (eqb code 33648) (Ok Mirror)
    (cond (eqb code 0) (Ok not_given) (Err UnknownWrap))))

-- the mode of a code that is known
abbrev pub mode_in : Result Mode Refusal → Mode
mode_in (Ok mode) = mode
mode_in (Err refusal) = not_given

abbrev pub mode_of : ℕ → Mode
mode_of code = mode_in (wrap_code code)

-- the remainder of t by d in 0..d-1: negsuc a is -1 - a, and its remainder is d - 1 less that of a
unfoldable pub remainder_of : ℤ → ℕ → ℕ
remainder_of (pos a) d = a % d
remainder_of (negsuc a) d = d - 1 - a % d

-- t held to 0..d-1
unfoldable pub held_of : ℤ → ℕ → ℕ
held_of (pos a) d = min a (d - 1)
held_of (negsuc a) d = 0

-- Mirrored: r the remainder by 2d, then min(r, 2d - r, d - 1)
unfoldable pub mirrored_of : ℤ → ℕ → ℕ
unfolding remainder_of
mirrored_of t d = let r = remainder_of t (2 * d) in min (min r (2 * d - r)) (d - 1)

-- Repeat, the remainder of t by d; Clamp, t held to 0..d-1; Mirrored
unfoldable pub wrap_of : Mode → ℤ → ℕ → ℕ
wrap_of Repeat t d = remainder_of t d
wrap_of Clamp t d = held_of t d
wrap_of Mirror t d = mirrored_of t d
