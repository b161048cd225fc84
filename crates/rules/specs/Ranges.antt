-- Ranges beside level 0 of a picture that is no cubemap: of each tile the smallest and the largest value of each channel.
-- Definitions only.
use mathlib.Core.List.{List, [], ◌∷◌, ◌++◌, map, foldr}
use Rattle.std.specs.Prelude.{ℕ, zero, suc, ◌+◌, ◌-◌, ◌*◌, ◌/◌, ◌%◌, min, max, set}
use Rattle.std.proofs.lemmas.List.Edits.{sets}
use Rattle.rules.specs.Kinds.{red_of, green_of, blue_of, alpha_of}
use Rattle.rules.specs.Cuts.{cut}

-- tiles of 16 along a side: ceil(side/16)
abbrev pub tiles : ℕ → ℕ
tiles s = (s + 15) / 16

-- the texels of tile i along a side; the edge tile may have fewer
abbrev pub tile_side : ℕ → ℕ → ℕ
tile_side s i = min 16 (s - 16 * i)

-- the texels of the tile in column i and row j
unfoldable pub tile : ℕ → ℕ → List ℕ → ℕ → ℕ → List ℕ
tile w h l i j = cut w h (16 * i) (16 * j) (tile_side w i) (tile_side h j) l

-- the smallest and the largest of some bytes; of none 255 and 0, but every tile has some
unfoldable pub smallest : List ℕ → ℕ
smallest = foldr min 255

unfoldable pub largest : List ℕ → ℕ
largest = foldr max 0

-- eight bytes: red's smallest, red's largest, green's smallest, and so on to alpha's largest
unfoldable pub range_of : List ℕ → List ℕ
range_of t =
    smallest (map red_of t) ∷ largest (map red_of t)
    ∷ smallest (map green_of t) ∷ largest (map green_of t)
    ∷ smallest (map blue_of t) ∷ largest (map blue_of t)
    ∷ smallest (map alpha_of t) ∷ largest (map alpha_of t) ∷ []

-- f 0, f 1, …: n of them, one after the other
unfoldable pub joined : ℕ → (ℕ → List ℕ) → List ℕ
joined zero f = []
joined (suc n) f = joined n f ++ f n

-- the tiles' ranges, row by row
unfoldable pub ranges_of : ℕ → ℕ → List ℕ → List ℕ
ranges_of w h l = joined (tiles h * tiles w) (λ n. range_of (tile w h l (n % tiles w) (n / tiles w)))

-- how many bytes they take, and where those of the tile in column i and row j start
unfoldable pub ranges_size : ℕ → ℕ → ℕ
ranges_size w h = 8 * (tiles h * tiles w)

unfoldable pub range_start : ℕ → ℕ → ℕ → ℕ
range_start w i j = 8 * (j * tiles w + i)

-- level 0 with a new texel at (x, y)
unfoldable pub replaced : ℕ → List ℕ → ℕ → ℕ → ℕ → List ℕ
replaced w l x y t = set l (y * w + x) t

-- the ranges with eight bytes worked out of l: those of the tile that (x, y) lies in
unfoldable pub range_replaced : ℕ → ℕ → List ℕ → List ℕ → ℕ → ℕ → List ℕ
range_replaced w h l ranges x y = sets ranges (range_start w (x / 16) (y / 16)) (range_of (tile w h l (x / 16) (y / 16)))
