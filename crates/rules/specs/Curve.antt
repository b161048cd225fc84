-- The sRGB curve T and its inverse. Definitions only.
use Rattle.std.specs.Prelude.{ℕ, zero, suc, ◌+◌, ◌*◌, ◌^◌, ◌≤◌, ◌<◌, Bool, cond, T, leb, Float}
use Rattle.std.specs.Float.{binary32}
use Rattle.std.specs.Float.Ieee.{of_bits, le}
use Rattle.rules.specs.NearestValue.{nearest_root, root_pattern}

-- the rule: b is the pattern of the f32 nearest the curve at k, which is 100k/329460 for k up to 10, above that the number
-- whose fifth power is ((1000k + 14025)/269025)^12
unfoldable pub nearest_curve : ℕ → ℕ → Bool
unfolding nearest_root
nearest_curve k b = cond (leb k 10) (nearest_root 1 (100 * k) 329460 b) (nearest_root 5 ((1000 * k + 14025) ^ 12) (269025 ^ 12) b)

-- the pattern that the rule gives
unfoldable pub curve_pattern : ℕ → ℕ
unfolding root_pattern
curve_pattern k = cond (leb k 10) (root_pattern 1 (100 * k) 329460) (root_pattern 5 ((1000 * k + 14025) ^ 12) (269025 ^ 12))

-- T(k)
unfoldable pub curve : ℕ → Float
unfolding curve_pattern
curve k = of_bits binary32 (curve_pattern k)

-- the greatest k up to n with T(k) at most x, and 0 where there is none
unfoldable pub greatest_up_to : ℕ → Float → ℕ
greatest_up_to zero x = 0
greatest_up_to (suc n) x = cond (le (curve (suc n)) x) (suc n) (greatest_up_to n x)

-- the greatest k with T(k) at most the mean
unfoldable pub encode_of : Float → ℕ
unfolding greatest_up_to
encode_of x = greatest_up_to 255 x

-- the same as a relation: k is the greatest byte whose value is at most x
pub record Greatest (x : Float) (k : ℕ) : Type 0 where
  pub small : k < 256
  pub fits : T (le (curve k) x)
  pub most : (j : ℕ) → j < 256 → T (le (curve j) x) → j ≤ k
