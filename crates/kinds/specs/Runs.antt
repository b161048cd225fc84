-- A run of texels written over a buffer, and the texels of a row. Definitions only.
use Rattle.std.specs.Prelude.{ℕ, ◌+◌, ◌*◌, List, ◌++◌, get_or, take, drop}
use Rattle.rules.specs.Levels.{tab}
use Rattle.kinds.specs.declared.above.Rows.{Rows}

-- old, with f 0, f 1, …, n of them, from `at` on
unfoldable pub over : ℕ → List ℕ → ℕ → (ℕ → ℕ) → List ℕ
over at old n f = take at old ++ (tab n f ++ drop (at + n) old)

-- texel x of the row made from the rows a and b, of which each texel has its own pair
unfoldable pub pair_of : (ℕ → ℕ → ℕ → ℕ → ℕ) → List ℕ → List ℕ → ℕ → ℕ
pair_of reduce a b x = reduce (get_or a (2 * x) 0) (get_or a (2 * x + 1) 0) (get_or b (2 * x) 0) (get_or b (2 * x + 1) 0)

-- the same of two rows that are one value
abbrev pub pairs_of : (ℕ → ℕ → ℕ → ℕ → ℕ) → Rows → ℕ → ℕ
pairs_of reduce rows = pair_of reduce rows.first.now rows.second.now
