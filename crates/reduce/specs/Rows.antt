-- The texels of a row. Definitions only.
use Rattle.std.specs.Prelude.{ℕ, ◌+◌, ◌-◌, ◌*◌, ◌/◌, ◌%◌, min, List, length, get_or, drop}
use Rattle.rules.specs.Sizes.{half}
use Rattle.kinds.specs.declared.above.Rows.{Rows}

-- texel x of the row made from the rows a and b, both w wide: x0 = 2x, x1 = min(x0 + 1, previous width - 1)
unfoldable pub held_of : (ℕ → ℕ → ℕ → ℕ → ℕ) → ℕ → List ℕ → List ℕ → ℕ → ℕ
held_of reduce w a b x =
    let x₁ = min (2 * x + 1) (w - 1) in
    reduce (get_or a (2 * x) 0) (get_or a x₁ 0) (get_or b (2 * x) 0) (get_or b x₁ 0)

-- the same of two rows that are one value
abbrev pub row_of : (ℕ → ℕ → ℕ → ℕ → ℕ) → Rows → ℕ → ℕ
row_of reduce rows = held_of reduce (length rows.first.now) rows.first.now rows.second.now

-- texel k of rows one behind the other: the first is made from the rows at r0 and r1 of s, each further one from those two rows further on
unfoldable pub rows_of : (ℕ → ℕ → ℕ → ℕ → ℕ) → ℕ → ℕ → ℕ → List ℕ → ℕ → ℕ
rows_of reduce w r0 r1 s k =
    let on = 2 * (k / half w) * w in
    held_of reduce w (drop (r0 + on) s) (drop (r1 + on) s) (k % half w)
