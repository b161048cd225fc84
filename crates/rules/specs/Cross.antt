-- The cube cross, lent as RGBA bytes, row by row. Definitions only.
use Rattle.std.specs.Prelude.{cond, List, ℕ, ◌+◌, ◌*◌, ◌/◌, eqb, get_or}
use Rattle.rules.specs.Kinds.{rgba}
use Rattle.rules.specs.Levels.{grid}

-- a face is floor(width/4) by floor(height/3); leftover columns and rows are ignored
abbrev pub cross_width : ℕ → ℕ
cross_width w = w / 4

abbrev pub cross_height : ℕ → ℕ
cross_height h = h / 3

-- face places in faces (column, row), in layout order: (2,1) (0,1) (1,0) (1,2) (1,1) (3,1)
unfoldable pub column_of : ℕ → ℕ
column_of f = cond (eqb f 0) 2 (cond (eqb f 1) 0 (cond (eqb f 5) 3 1))

unfoldable pub row_of : ℕ → ℕ
row_of f = cond (eqb f 2) 0 (cond (eqb f 3) 2 1)

-- the texel at (x, y) of a picture of bytes, w wide
unfoldable pub byte_texel : ℕ → List ℕ → ℕ → ℕ → ℕ
byte_texel w bytes x y =
    let i = (y * w + x) * 4 in
    rgba (get_or bytes i 0) (get_or bytes (i + 1) 0) (get_or bytes (i + 2) 0) (get_or bytes (i + 3) 0)

-- the six faces of a cross
unfoldable pub cross_of : ℕ → ℕ → List ℕ → List ℕ
cross_of w h bytes =
    grid 6 (cross_width w) (cross_height h)
    (λ f x y. byte_texel w bytes (column_of f * cross_width w + x) (row_of f * cross_height h + y))
