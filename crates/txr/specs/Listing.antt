-- Which bytes the listing program writes for which bytes it read. Definitions only.
use Rattle.std.specs.Prelude.{List, [], ◌∷◌, ◌++◌, ℕ, zero, suc, get_or}
use Rattle.rules.specs.declared.Packing.TheVariants.{Truncating}
use Rattle.rules.specs.Kinds.{faces_of}
use Rattle.rules.specs.Sizes.{side_at, start, top}
use Rattle.rules.specs.Pictures.{chain_of}
use Rattle.rules.specs.Answers.{answer}
use Rattle.txr.specs.File.{kind_in, width_in, height_in, level_in, file_refusal}
use Rattle.txr.specs.Digits.{decimal_of, hex_of}

-- a number and a space
unfoldable pub field_of : ℕ → List ℕ
field_of n = decimal_of n ++ (32 ∷ [])

-- what ends a line
abbrev pub newline : List ℕ
newline = 10 ∷ []

-- a level's number, width, height and first texel
unfoldable pub line_of : ℕ → ℕ → ℕ → ℕ → List ℕ
line_of m w h t = field_of m ++ (field_of w ++ (field_of h ++ (hex_of t ++ newline)))

-- the line of level m in the chain of a picture of a kind
unfoldable pub level_line : ℕ → ℕ → ℕ → List ℕ → ℕ → List ℕ
level_line kind w h chain m = line_of m (side_at m w) (side_at m h) (get_or chain (start (faces_of kind) w h m) 0)

-- the lines of the first n levels
unfoldable pub level_lines : ℕ → ℕ → ℕ → List ℕ → ℕ → List ℕ
level_lines kind w h chain zero = []
level_lines kind w h chain (suc n) = level_lines kind w h chain n ++ level_line kind w h chain n

-- `refused N`
unfoldable pub refused_line : ℕ → List ℕ
refused_line n = (0x72 ∷ 0x65 ∷ 0x66 ∷ 0x75 ∷ 0x73 ∷ 0x65 ∷ 0x64 ∷ 32 ∷ []) ++ (decimal_of n ++ newline)

-- one line a level, truncating
abbrev pub file_lines : List ℕ → List ℕ
file_lines b =
    let kind = kind_in b in
    let w = width_in b in
    let h = height_in b in
    level_lines kind w h (chain_of kind Truncating w h (level_in b)) (suc (top w h))

-- the same, or `refused N`
unfoldable pub listing_of : List ℕ → List ℕ
listing_of b = answer (file_refusal b) refused_line (file_lines b)
