-- Document 01's example: the two lines that its 18 bytes give, computed from the definitions. Assumes nothing.
use mathlib.Core.Path.{◌≡◌, refl}
use mathlib.Core.List.{List, [], ◌∷◌}
use Prim.Native.Nat.{ℕ}
use lib.Ieee.{add, mul, div, of_bits, of_int, to_unsigned}
use Rattle.rules.specs.Packing.{pack_of}
use Rattle.rules.specs.Kinds.{faces_of, rgba}
use Rattle.rules.specs.Sizes.{side_at, halvings, log2, top, size_at, start, count}
use Rattle.rules.specs.Levels.{tab, grid, texel, quad, next, chain}
use Rattle.rules.specs.Reducing.{each_of, mean_byte, linear_of, reduce_of}
use Rattle.rules.specs.Pictures.{chain_of}
use Rattle.rules.specs.Refusals.{◌or_else◌, kind_refusal, sides_refusal, buffer_refusal, picture_refusal, chain_refusal}
use Rattle.rules.specs.Answers.{answer}
use Rattle.txr.specs.File.{word_at, marked, texel_in, level_in, header_refusal, length_refusal, file_refusal}
use Rattle.txr.specs.Digits.{digit_of, digits_of, places_in, places_of, decimal_of, hex_of}
use Rattle.txr.specs.Listing.{field_of, line_of, level_line, level_lines, refused_line, listing_of}

-- a Linear picture, 2 by 1
abbrev example : List ℕ
example =
    0x54 ∷ 0x58 ∷ 0x52 ∷ 0x01 ∷ 0x00 ∷ 0x04 ∷ 0x02 ∷ 0x00 ∷ 0x01 ∷ 0x00 ∷ 0x00 ∷ 0xFF ∷ 0x00 ∷ 0xFF ∷ 0xFF ∷ 0x00 ∷ 0x00 ∷ 0xFF ∷ []

-- 0 2 1 00FF00FF
-- 1 1 1 7F7F00FF
abbrev listed : List ℕ
listed =
    0x30 ∷ 0x20 ∷ 0x32 ∷ 0x20 ∷ 0x31 ∷ 0x20 ∷ 0x30 ∷ 0x30 ∷ 0x46 ∷ 0x46 ∷ 0x30 ∷ 0x30 ∷ 0x46 ∷ 0x46 ∷ 0x0A
    ∷ 0x31 ∷ 0x20 ∷ 0x31 ∷ 0x20 ∷ 0x31 ∷ 0x20 ∷ 0x37 ∷ 0x46 ∷ 0x37 ∷ 0x46 ∷ 0x30 ∷ 0x30 ∷ 0x46 ∷ 0x46 ∷ 0x0A ∷ []

pub example-listed : listing_of example ≡ listed
unfolding faces_of rgba side_at halvings log2 top size_at start count tab grid texel quad next chain each_of pack_of mean_byte linear_of reduce_of chain_of ◌or_else◌ kind_refusal sides_refusal buffer_refusal picture_refusal chain_refusal answer word_at marked texel_in level_in header_refusal length_refusal file_refusal digit_of digits_of places_in places_of decimal_of hex_of field_of line_of level_line level_lines refused_line listing_of add mul div of_bits of_int to_unsigned
example-listed = refl
