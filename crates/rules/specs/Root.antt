-- The square root, correctly rounded. Definitions only.
use Rattle.std.specs.Prelude.{◌≡◌, ℕ, ◌<◌, T, Float}
use Rattle.std.specs.Float.{binary32}
use Rattle.std.specs.Float.Ieee.{of_bits}
use Rattle.std.specs.Float.Ieee.Positive.{num, den}
use Rattle.rules.specs.NearestValue.{nearest_root, root_pattern}

-- the f32 nearest to the root of x, which is num x / den x, for an x that is finite and not negative
unfoldable pub sqrt_of : Float → Float
unfolding root_pattern
sqrt_of x = of_bits binary32 (root_pattern 2 (num x) (den x))

-- the same as a relation: r is the f32 nearest to the root of x
pub record RootOf (x r : Float) : Type 0 where
  pub pattern : ℕ
  pub is : r ≡ of_bits binary32 pattern
  pub small : pattern < 2139095040
  pub nearest : T (nearest_root 2 (num x) (den x) pattern)
