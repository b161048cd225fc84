-- Small pictures and numbers, worked out by antt itself from the definitions: where levels, faces and cuts stand, which four texels
-- are taken, in which order refusals are given, and the slips that look right. Assumes nothing.
use Rattle.std.specs.Prelude.{None, Some}
use mathlib.Core.Path.{◌≡◌, refl}
use mathlib.Core.Bool.{true, false}
use mathlib.Core.List.{[], ◌∷◌, ◌++◌}
use Prim.Native.Nat.{ℕ, ◌+◌, ◌*◌, ◌%◌}
use lib.IntN.{pos, negsuc}
use lib.Ieee.{binary32, neg, add, sub, mul, div, le, lt, of_bits, of_int, to_unsigned}
use Rattle.rules.specs.declared.Packing.TheVariants.{Truncating, Nearest}
use Rattle.rules.specs.Kinds.{normal, cubemap, linear, faces_of, rgba}
use Rattle.rules.specs.Sizes.{side_at, halvings, log2, top, size_at, start, count}
use Rattle.rules.specs.Levels.{tab, grid, texel, quad, next, level, chain, filled}
use Rattle.rules.specs.Cuts.{cut, matching_cut, cut_taken}
use Rattle.rules.specs.View.{face_start, face_view}
use Rattle.rules.specs.Floats.{zero32, half32, one32, top32, magnitude, unpack_of}
use Rattle.rules.specs.Whole.{upward_of}
use Rattle.rules.specs.Packing.{packing_code, pack_of}
use Rattle.rules.specs.Reducing.{each_of, mean_byte, linear_of, normal_mean, normal_byte, normal_of, reduce_of}
use Rattle.rules.specs.Pictures.{chain_of, filled_of}
use Rattle.rules.specs.Checks.{standing, first_wrong, due, level_verdict, levels_verdict, child}
use Rattle.rules.specs.Wrapping.{wrap_code, mode_of, remainder_of, mirrored_of, wrap_of}
use Rattle.rules.specs.Faces.{sign_of, odd_of, spot_at, spot_of}
use Rattle.rules.specs.Ranges.{tile, smallest, largest, range_of, joined, ranges_of, ranges_size, range_start, replaced, range_replaced}
use Rattle.rules.specs.NearestValue.{units, reaches, found, root_pattern}
use Rattle.rules.specs.Root.{sqrt_of}
use Rattle.rules.specs.Curve.{curve_pattern, curve}
use Rattle.rules.specs.Irradiance.{omega_of, centre_of, distance_of, weight_of, towards, divided_by, basis_of, place_basis, decoded_of, gets, all_get, in_turn, with_texel, sums_of, times_both, folded_of, irradiance_of}
use Rattle.rules.specs.Refusals.{◌or_else◌, kind_refusal, sides_refusal, buffer_refusal, level_refusal, face_refusal, no_cubemap_refusal, cut_refusal, outside_refusal, mode_refusal, picture_refusal, chain_refusal, mipmaps_refusal, check_level_refusal, view_refusal, cut_call_refusal, ranges_refusal, replace_refusal}
use Rattle.rules.specs.Answers.{answer, chain_leaves, view_answer, cut_leaves, ranges_leaves, replace_ranges_leaves}

-- ---- sizes

-- a side is held to 1
five-halved : (side_at 1 5 ≡ 2) × (side_at 2 5 ≡ 1) × (side_at 3 5 ≡ 1)
unfolding side_at
five-halved = (refl, refl, refl)

-- 5 by 3 has levels 0 to 2 and 18 texels; the larger side counts
five-by-three : (top 5 3 ≡ 2) × (top 3 5 ≡ 2) × (start 1 5 3 1 ≡ 15) × (start 1 5 3 2 ≡ 17) × (count 1 5 3 ≡ 18)
unfolding count start size_at side_at top log2 halvings
five-by-three = (refl, refl, refl, refl, refl)

-- ---- levels, with a rule that shows which four texels were taken

show4 : ℕ → ℕ → ℕ → ℕ → ℕ
show4 a b c d = ((a * 100 + b) * 100 + c) * 100 + d

-- the third column of a level 3 wide takes no part, nor does the third row of one 3 high
three-wide : level show4 1 1 3 1 (1 ∷ 2 ∷ 3 ∷ []) ≡ 1020102 ∷ []
unfolding show4 level next grid tab quad texel
three-wide = refl

three-high : level show4 1 1 1 3 (1 ∷ 2 ∷ 3 ∷ []) ≡ 1010202 ∷ []
unfolding show4 level next grid tab quad texel
three-high = refl

-- each face of a cubemap is reduced by itself
six-faces : level show4 6 1 2 2 (tab 24 (λ i. i)) ≡ 10203 ∷ 4050607 ∷ 8091011 ∷ 12131415 ∷ 16171819 ∷ 20212223 ∷ []
unfolding show4 level next grid tab quad texel
six-faces = refl

-- each level is made from the one before
three-levels : chain show4 1 3 4 1 (1 ∷ 2 ∷ 3 ∷ 4 ∷ []) ≡ 1 ∷ 2 ∷ 3 ∷ 4 ∷ 1020102 ∷ 3040304 ∷ 1050610090504 ∷ []
unfolding show4 chain next grid tab quad texel
three-levels = refl

-- what a buffer of five holds after the two levels of a picture 3 by 1, the last entry as it was
filled-three : filled show4 1 2 3 1 (1 ∷ 2 ∷ 3 ∷ 77 ∷ 88 ∷ []) ≡ 1 ∷ 2 ∷ 3 ∷ 1020102 ∷ 88 ∷ []
unfolding show4 filled chain start size_at side_at next grid tab quad texel
filled-three = refl

-- a chain goes on to its top level
to-the-top : chain_of linear Truncating 2 1 (0 ∷ 0xFFFFFFFF ∷ []) ≡ 0 ∷ 0xFFFFFFFF ∷ 0x7F7F7F7F ∷ []
unfolding chain_of chain next grid tab quad texel top log2 halvings faces_of reduce_of linear_of each_of mean_byte pack_of rgba add mul div of_bits of_int to_unsigned
to-the-top = refl

-- ---- cuts

-- a cut of 2 by 1 at (1, 1) of a picture 3 by 2
cut-corner : cut 3 2 1 1 2 1 (1 ∷ 2 ∷ 3 ∷ 4 ∷ 5 ∷ 6 ∷ []) ≡ 5 ∷ 6 ∷ []
unfolding cut grid tab texel
cut-corner = refl

-- the matching cut of level 1, of sides 2 by 2, where level 0 was cut at (2, 2)
cut-matching : matching_cut 1 4 4 2 2 2 2 (1 ∷ 2 ∷ 3 ∷ 4 ∷ []) ≡ 4 ∷ []
unfolding matching_cut side_at cut grid tab texel
cut-matching = refl

-- of 4 by 4, order 1: taken; a corner, a side not a multiple of 2; not wholly inside; a side 0; an order above 12
cuts-taken : (cut_taken 1 4 4 2 2 2 2 ≡ true) × (cut_taken 1 4 4 1 2 2 2 ≡ false) × (cut_taken 1 4 4 2 2 2 1 ≡ false)
    × (cut_taken 1 4 4 2 2 2 4 ≡ false) × (cut_taken 1 4 4 2 2 2 0 ≡ false) × (cut_taken 13 4 4 0 0 4 4 ≡ false)
unfolding cut_taken
cuts-taken = (refl, refl, refl, refl, refl, refl)

-- ---- refusals, in their order

-- of the chain: 1 before 2 before 3
chain-order : (chain_refusal 5 0 1 0 ≡ 1) × (chain_refusal linear 0 1 0 ≡ 2) × (chain_refusal linear 1 1 0 ≡ 3) × (chain_refusal linear 1 1 1 ≡ 0)
unfolding chain_refusal picture_refusal kind_refusal sides_refusal buffer_refusal ◌or_else◌ faces_of count start size_at side_at top log2 halvings
chain-order = (refl, refl, refl, refl)

-- and with a packing mode 3 before 15
mipmaps-order : (mipmaps_refusal linear 1 1 2 0 ≡ 3) × (mipmaps_refusal linear 1 1 2 1 ≡ 15) × (mipmaps_refusal linear 1 1 1 1 ≡ 0) × (mipmaps_refusal linear 1 1 0 1 ≡ 0)
unfolding mipmaps_refusal mode_refusal packing_code chain_refusal picture_refusal kind_refusal sides_refusal buffer_refusal ◌or_else◌ faces_of count start size_at side_at top log2 halvings
mipmaps-order = (refl, refl, refl, refl)

-- of one level's check 3 before 15 before 6
check-level-order : (check_level_refusal linear 2 1 2 2 9 ≡ 3) × (check_level_refusal linear 2 1 2 3 9 ≡ 15) × (check_level_refusal linear 2 1 0 3 9 ≡ 6) × (check_level_refusal linear 2 1 0 3 1 ≡ 0)
unfolding check_level_refusal mipmaps_refusal mode_refusal packing_code chain_refusal picture_refusal kind_refusal sides_refusal buffer_refusal level_refusal ◌or_else◌ faces_of count start size_at side_at top log2 halvings
check-level-order = (refl, refl, refl, refl)

-- sides 1 to 4,096
side-range : (sides_refusal 4096 1 ≡ 0) × (sides_refusal 1 4096 ≡ 0) × (sides_refusal 4097 1 ≡ 2) × (sides_refusal 1 4097 ≡ 2) × (sides_refusal 1 0 ≡ 2)
unfolding sides_refusal
side-range = (refl, refl, refl, refl, refl)

-- of the view: 3 before 8 before 6
view-order : (view_refusal linear 1 1 0 1 1 ≡ 3) × (view_refusal linear 1 1 1 1 1 ≡ 8) × (view_refusal linear 1 1 1 1 0 ≡ 6) × (view_refusal linear 1 1 1 0 0 ≡ 0)
unfolding view_refusal chain_refusal picture_refusal kind_refusal sides_refusal buffer_refusal face_refusal level_refusal ◌or_else◌ faces_of count start size_at side_at top log2 halvings
view-order = (refl, refl, refl, refl)

-- of the cut: 3 (source) before 8 before 11 before 3 (target)
cut-order : (cut_call_refusal cubemap 1 1 5 13 (record { x = 0; y = 0 }) (record { x = 1; y = 1 }) 0 ≡ 3)
    × (cut_call_refusal cubemap 1 1 6 13 (record { x = 0; y = 0 }) (record { x = 1; y = 1 }) 0 ≡ 8)
    × (cut_call_refusal linear 1 1 1 13 (record { x = 0; y = 0 }) (record { x = 1; y = 1 }) 0 ≡ 11)
    × (cut_call_refusal linear 1 1 1 0 (record { x = 0; y = 0 }) (record { x = 1; y = 1 }) 0 ≡ 3)
    × (cut_call_refusal linear 1 1 1 0 (record { x = 0; y = 0 }) (record { x = 1; y = 1 }) 1 ≡ 0)
unfolding cut_call_refusal picture_refusal kind_refusal sides_refusal buffer_refusal no_cubemap_refusal cut_refusal cut_taken ◌or_else◌ faces_of
cut-order = (refl, refl, refl, refl, refl)

-- of a replacement: 3 for level 0 and for the ranges before 8 before 14
replace-order : (replace_refusal cubemap 17 1 101 16 17 0 ≡ 3)
    × (replace_refusal cubemap 17 1 102 15 17 0 ≡ 3)
    × (replace_refusal cubemap 17 1 102 16 17 0 ≡ 8)
    × (replace_refusal linear 17 1 17 16 17 0 ≡ 14)
    × (replace_refusal linear 17 1 17 16 16 1 ≡ 14)
    × (replace_refusal linear 17 1 17 16 16 0 ≡ 0)
unfolding replace_refusal ranges_refusal picture_refusal kind_refusal sides_refusal buffer_refusal no_cubemap_refusal outside_refusal ranges_size ◌or_else◌ faces_of
replace-order = (refl, refl, refl, refl, refl, refl)

-- ---- what calls leave and hand out

-- a refusal changes no buffer: two entries are too few for the chain of 2 by 1, and there is no mode 2
refused-unchanged : (chain_leaves linear 2 1 0 (1 ∷ 2 ∷ []) ≡ 1 ∷ 2 ∷ []) × (chain_leaves linear 2 1 2 (1 ∷ 2 ∷ 0 ∷ []) ≡ 1 ∷ 2 ∷ 0 ∷ [])
unfolding chain_leaves answer mipmaps_refusal mode_refusal packing_code chain_refusal picture_refusal kind_refusal sides_refusal buffer_refusal ◌or_else◌ filled_of filled chain faces_of count start size_at side_at top log2 halvings
refused-unchanged = (refl, refl)

-- a view of a cubemap's level is one face of it
fifth-face : view_answer cubemap 1 1 (1 ∷ 2 ∷ 3 ∷ 4 ∷ 5 ∷ 6 ∷ []) 0 4 ≡ 5 ∷ []
unfolding view_answer answer view_refusal chain_refusal picture_refusal kind_refusal sides_refusal buffer_refusal face_refusal level_refusal ◌or_else◌ face_view face_start faces_of count start size_at side_at top log2 halvings
fifth-face = refl

-- a cut is written to the front of the target
cut-written : cut_leaves linear 2 1 (5 ∷ 6 ∷ []) 0 (record { x = 1; y = 0 }) (record { x = 1; y = 1 }) (8 ∷ 9 ∷ []) ≡ 6 ∷ 9 ∷ []
unfolding cut_leaves answer cut_call_refusal picture_refusal kind_refusal sides_refusal buffer_refusal no_cubemap_refusal cut_refusal cut_taken ◌or_else◌ faces_of cut grid tab texel
cut-written = refl

-- 17 by 1 has two tiles, the second of one texel; only level 0 is read, and what lies behind the ranges stays
two-tiles : ranges_leaves linear 17 1 (tab 16 (λ i. 0x20406080 + i) ++ (0xFF000102 ∷ 0 ∷ [])) (tab 17 (λ i. 7))
    ≡ 0x20 ∷ 0x20 ∷ 0x40 ∷ 0x40 ∷ 0x60 ∷ 0x60 ∷ 0x80 ∷ 0x8F ∷ 0xFF ∷ 0xFF ∷ 0 ∷ 0 ∷ 1 ∷ 1 ∷ 2 ∷ 2 ∷ 7 ∷ []
unfolding ranges_leaves answer ranges_refusal picture_refusal kind_refusal sides_refusal buffer_refusal no_cubemap_refusal ◌or_else◌ faces_of ranges_of ranges_size joined range_of smallest largest tile cut grid tab texel
two-tiles = refl

-- the old extremes leave with their texel, and the other tile's bytes stay, right or wrong
range-shrinks : replace_ranges_leaves linear 2 17 (0xFF00FF00 ∷ tab 33 (λ i. 0x01020304)) (tab 17 (λ i. i % 2 * 255)) 0 0 0x01020305
    ≡ 1 ∷ 1 ∷ 2 ∷ 2 ∷ 3 ∷ 3 ∷ 4 ∷ 5 ∷ 0 ∷ 255 ∷ 0 ∷ 255 ∷ 0 ∷ 255 ∷ 0 ∷ 255 ∷ 0 ∷ []
unfolding replace_ranges_leaves replaced range_replaced answer replace_refusal outside_refusal ranges_refusal picture_refusal kind_refusal sides_refusal buffer_refusal no_cubemap_refusal ◌or_else◌ faces_of ranges_size range_start range_of smallest largest tile cut grid tab texel
range-shrinks = refl

-- three texels of face +X of a cubemap 2 by 2: the coefficients are others where a column comes before its row
three-lamps : let s = irradiance_of 2 2 (0xC8000000 ∷ 0xFF000000 ∷ 0x80000000 ∷ []) in
    (s.constant.r ≡ of_bits binary32 0x3e79ea04) × (s.y.r ≡ of_bits binary32 0x3e1aef0a) × (s.z.r ≡ of_bits binary32 0xbcbc03d5) × (s.x.r ≡ of_bits binary32 0x3ecc0dda)
unfolding irradiance_of folded_of times_both sums_of in_turn with_texel all_get gets decoded_of texel place_basis basis_of divided_by towards weight_of distance_of centre_of omega_of sqrt_of curve curve_pattern root_pattern found reaches units add sub mul div neg of_bits of_int
three-lamps = (refl, refl, refl, refl)

-- ---- another tool's chain, by a rule that adds the upper two

upper2 : ℕ → ℕ → ℕ → ℕ → ℕ
upper2 a b c d = a + b

-- 4 by 1: it follows, and what stands behind it is not looked at
four-wide-follows : (levels_verdict upper2 1 4 1 (1 ∷ 2 ∷ 3 ∷ 4 ∷ 3 ∷ 7 ∷ 10 ∷ []) 3 ≡ None) × (levels_verdict upper2 1 4 1 (1 ∷ 2 ∷ 3 ∷ 4 ∷ 3 ∷ 7 ∷ 10 ∷ 9 ∷ []) 3 ≡ None)
unfolding upper2 levels_verdict level_verdict first_wrong due standing start size_at side_at next grid tab quad texel
four-wide-follows = (refl, refl)

-- of two wrong texels the smaller place, and each level by the one before as it stands: 11 follows from 3 and 8
two-wrong : (levels_verdict upper2 1 4 1 (1 ∷ 2 ∷ 3 ∷ 4 ∷ 2 ∷ 8 ∷ 10 ∷ []) 3 ≡ Some 4) × (level_verdict upper2 1 4 1 (1 ∷ 2 ∷ 3 ∷ 4 ∷ 3 ∷ 8 ∷ 11 ∷ []) 1 ≡ Some 5)
    × (level_verdict upper2 1 4 1 (1 ∷ 2 ∷ 3 ∷ 4 ∷ 3 ∷ 8 ∷ 11 ∷ []) 2 ≡ None) × (level_verdict upper2 1 4 1 (1 ∷ 2 ∷ 3 ∷ 4 ∷ 3 ∷ 8 ∷ 11 ∷ []) 0 ≡ None)
unfolding upper2 levels_verdict level_verdict first_wrong due standing start size_at side_at next grid tab quad texel
two-wrong = (refl, refl, refl, refl)

-- a texel of level 0 is made into one of level 1; into none, where it stands in the third column of 3
level-0-changed : (levels_verdict upper2 1 4 1 (1 ∷ 2 ∷ 3 ∷ 5 ∷ 3 ∷ 7 ∷ 10 ∷ []) 3 ≡ Some 5) × (child 1 4 1 0 3 ≡ 5) × (levels_verdict upper2 1 3 1 (1 ∷ 2 ∷ 9 ∷ 3 ∷ []) 2 ≡ None)
unfolding upper2 levels_verdict level_verdict first_wrong due child standing start size_at side_at next grid tab quad texel
level-0-changed = (refl, refl, refl)

-- ---- slips that look right

-- truncating, bytes 0 and 255 give 7F, and not 80; nearest, 80: a half goes upward
truncated : (mean_byte Truncating 0 255 0 255 ≡ 0x7F) × (mean_byte Nearest 0 255 0 255 ≡ 0x80)
unfolding mean_byte pack_of upward_of add mul div of_bits of_int to_unsigned
truncated = (refl, refl)

-- seven squares of normals have the product 0.49999997: no half, though an f32 sum with 0.5 makes it 1
seven-below-a-half : (normal_byte Nearest 0 0 0 2 ≡ 0) × (normal_byte Nearest 0 0 2 0 ≡ 0) × (normal_byte Nearest 0 1 1 0 ≡ 0) × (normal_byte Nearest 0 2 0 0 ≡ 0)
    × (normal_byte Nearest 1 0 1 0 ≡ 0) × (normal_byte Nearest 1 1 0 0 ≡ 0) × (normal_byte Nearest 2 0 0 0 ≡ 0)
unfolding normal_byte pack_of upward_of add sub mul div of_bits of_int to_unsigned
seven-below-a-half = (refl, refl, refl, refl, refl, refl, refl)

half-in-f32 : to_unsigned 64 (add binary32 (mul binary32 (normal_mean (unpack_of 0) (unpack_of 0) (unpack_of 0) (unpack_of 2)) top32) half32) ≡ 1
unfolding add sub mul div of_bits of_int to_unsigned
half-in-f32 = refl

-- byte 1 survives a plain mean; as a normal it does not
byte_one : (mean_byte Truncating 1 1 1 1 ≡ 1) × (reduce_of normal Truncating 0x01FF80FF 0x01FF80FF 0x01FF80FF 0x01FF80FF ≡ 0x00FF80FF)
unfolding mean_byte pack_of reduce_of normal_of normal_byte each_of rgba add sub mul div of_bits of_int to_unsigned
byte_one = (refl, refl)

-- t = 5 mirrored into a side of 4 is 3, and not 2
mirrored-five : mirrored_of (pos 5) 4 ≡ 3
unfolding mirrored_of remainder_of
mirrored-five = refl

-- a code that is not given is Repeat's: beyond the first texel of a side of 4 stands the last, beyond the last the first
not-given-repeats : (wrap_code 0 ≡ wrap_code 10497) × (wrap_of (mode_of 0) (negsuc 0) 4 ≡ 3) × (wrap_of (mode_of 0) (pos 4) 4 ≡ 0)
unfolding wrap_code wrap_of remainder_of
not-given-repeats = (refl, refl, refl)

-- X wins a tie against Y
tie-to-x : (spot_of one32 one32 zero32).face ≡ 0
unfolding spot_of spot_at odd_of sign_of magnitude neg add mul div le lt of_bits
tie-to-x = refl
