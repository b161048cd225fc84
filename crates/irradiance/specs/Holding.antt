-- What a list of numbers holds. Definitions only.
use Rattle.std.specs.Prelude.{◌≡◌, ◌<◌, List, ℕ, length, get_or, Float, EachIndex}
use Rattle.std.specs.Float.{nan}
use Rattle.irradiance.specs.declared.place.Coordinate.{Coordinate}

-- f 0, f 1, …, all along l
abbrev pub Holds : (ℕ → Float) → List Float → Type 0
Holds f l = EachIndex l (λ i. get_or l i nan ≡ f i)

-- the same of coordinates, whatever stands past the last
abbrev pub Placed : (ℕ → Float) → List Coordinate → Type 0
Placed f l = (i : ℕ) (past : Coordinate) → i < length l → (get_or l i past).at ≡ f i
