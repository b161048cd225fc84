-- The cross as the code goes about it, texel by texel, row by row. Definitions only.
use Rattle.std.specs.Prelude.{List, ℕ, ◌+◌, ◌*◌, ◌/◌, ◌%◌, get_or}
use Rattle.rules.specs.Kinds.{rgba}
use Rattle.rules.specs.Cross.{cross_width, cross_height, column_of, row_of, byte_texel}

-- texel i of a picture of bytes
unfoldable pub bytes_at : List ℕ → ℕ → ℕ
bytes_at bytes i = rgba (get_or bytes (i * 4) 0) (get_or bytes (i * 4 + 1) 0) (get_or bytes (i * 4 + 2) 0) (get_or bytes (i * 4 + 3) 0)

-- texel i of the six faces of a cross
unfoldable pub cross_cell : ℕ → ℕ → List ℕ → ℕ → ℕ
cross_cell w h bytes i =
    let f = i / cross_width w / cross_height h in
    byte_texel w bytes (column_of f * cross_width w + i % cross_width w) (row_of f * cross_height h + i / cross_width w % cross_height h)
