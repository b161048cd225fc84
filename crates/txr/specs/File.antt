-- A TXR file: its header, the number that refuses it, and its level 0. Definitions only.
use Rattle.std.specs.Prelude.{Bool, ◌&&◌, Result, Ok, List, ℕ, ◌+◌, ◌*◌, leb, eqb, length, get_or}
use Rattle.rules.specs.Kinds.{faces_of, rgba}
use Rattle.rules.specs.Levels.{tab}
use Rattle.rules.specs.Refusals.{◌or_else◌, unless, chain_refusal}
use Rattle.rules.specs.Answers.{answer, refused}
use Rattle.txr.specs.declared.Header.{Header}
use Rattle.rules.specs.declared.Refusal.{Refusal}

-- the 16-bit number at byte i, little-endian
unfoldable pub word_at : List ℕ → ℕ → ℕ
word_at b i = get_or b i 0 + get_or b (i + 1) 0 * 256

-- mark TXR, 16-bit version 1
unfoldable pub marked : List ℕ → Bool
marked b = eqb (get_or b 0 0) 0x54 && (eqb (get_or b 1 0) 0x58 && (eqb (get_or b 2 0) 0x52 && eqb (word_at b 3) 1))

-- kind byte, 16-bit width and height
abbrev pub kind_in : List ℕ → ℕ
kind_in b = get_or b 5 0

abbrev pub width_in : List ℕ → ℕ
width_in b = word_at b 6

abbrev pub height_in : List ℕ → ℕ
height_in b = word_at b 8

-- the three of them together
abbrev pub header_in : List ℕ → Header
header_in b = record { kind = kind_in b; width = width_in b; height = height_in b }

-- the texels of level 0: six faces for a cubemap
abbrev pub size_in : List ℕ → ℕ
size_in b = faces_of (kind_in b) * height_in b * width_in b

-- texel i of level 0, as RGBA bytes behind the ten of the header
unfoldable pub texel_in : List ℕ → ℕ → ℕ
texel_in b i =
    let at = 10 + 4 * i in
    rgba (get_or b at 0) (get_or b (at + 1) 0) (get_or b (at + 2) 0) (get_or b (at + 3) 0)

-- level 0
unfoldable pub level_in : List ℕ → List ℕ
level_in b = tab (size_in b) (texel_in b)

-- fewer than 10 bytes, mark or version wrong, 12
unfoldable pub header_refusal : List ℕ → ℕ
header_refusal b = unless (leb 10 (length b) && marked b) 12

-- the longest chain that is listed
abbrev pub longest : ℕ
longest = 16384

-- 1; 2; a chain above 16,384 texels, 3
abbrev pub levels_refusal : List ℕ → ℕ
levels_refusal b = chain_refusal (kind_in b) (width_in b) (height_in b) longest

-- length not exact, 12
unfoldable pub length_refusal : List ℕ → ℕ
length_refusal b = unless (eqb (length b) (10 + 4 * size_in b)) 12

-- 12; 1; 2; 3; 12
unfoldable pub file_refusal : List ℕ → ℕ
file_refusal b = header_refusal b or_else levels_refusal b or_else length_refusal b

-- a file's header, or why it is refused
unfoldable pub file_answer : List ℕ → Result Header Refusal
file_answer b = answer (file_refusal b) refused (Ok (header_in b))
