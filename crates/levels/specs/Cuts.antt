-- The cut as the code goes about it: along one side, and texel by texel, row by row. Definitions only.
use Rattle.std.specs.Prelude.{Bool, not, ◌&&◌, List, ℕ, ◌+◌, ◌*◌, ◌/◌, ◌%◌, leb, eqb, get_or}
use Rattle.rules.specs.Cuts.{aligned}

-- along a side s of the picture: the cut's side p is not 0, it lies inside, and its corner c and side are multiples of 2^k
unfoldable pub along : ℕ → ℕ → ℕ → ℕ → Bool
along k s c p = not (eqb p 0) && (leb (c + p) s && (aligned k c && aligned k p))

-- texel i of a cut p wide with its corner at (x, y) of a picture w wide
unfoldable pub cut_cell : ℕ → ℕ → ℕ → ℕ → List ℕ → ℕ → ℕ
cut_cell w x y p l i = get_or l ((y + i / p) * w + (x + i % p)) 0
