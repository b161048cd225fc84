-- The tables of the sRGB curve. Definitions only.
use Rattle.std.specs.Prelude.{List, [], ◌∷◌, ℕ, zero, suc, ◌+◌, ◌-◌, ◌*◌, ◌%◌, ◌≤◌, ◌<◌, get_or, Float}
use Rattle.std.specs.Float.{binary32}
use Rattle.std.specs.Float.Ieee.{to_bits}
use Rattle.rules.specs.Curve.{curve, curve_pattern}

-- T at n bytes from k on
unfoldable pub curve_from : ℕ → ℕ → List Float
curve_from zero k = []
curve_from (suc n) k = curve k ∷ curve_from n (suc k)

-- the table: T at each byte
unfoldable pub curve_table : List Float
unfolding curve_from
curve_table = curve_from 256 0

-- the first pattern of bucket i of the index: 0, and after that the multiples of 2^16 from 14752 * 2^16 on
abbrev pub bucket : ℕ → ℕ
bucket zero = 0
bucket (suc i) = (14752 + i) * 65536

-- entry i of the index is k: the value of byte k - 1 is at most the bucket's first, and that of byte k + 1 lies past the bucket
pub record Entry (i k : ℕ) : Type 0 where
  pub some : 0 < k
  pub byte : k < 256
  pub under : curve_pattern (k - 1) ≤ bucket i
  pub over : k < 255 → bucket (suc i) ≤ curve_pattern (k + 1)

-- the index, entry for entry
pub record Index (l : List ℕ) : Type 0 where
  pub at : (i : ℕ) → i < 1506 → Entry i (get_or l i 0)

-- the bucket of an x from 0 to 1: the one that has its pattern, without the sign that -0 has
pub record Bucket (x : Float) (i : ℕ) : Type 0 where
  pub small : i < 1506
  pub low : bucket i ≤ to_bits binary32 x % 2147483648
  pub high : to_bits binary32 x % 2147483648 < bucket (suc i)
