-- The reference list holds: antt works every row out from the rules, and finds the two sides the same. Assumes nothing.
use mathlib.Core.Path.{refl}
use lib.Ieee.{add, sub, mul, div, neg, lt, le, of_bits, of_int, to_unsigned}
use Rattle.rules.specs.Kinds.{faces_of, rgba}
use Rattle.rules.specs.Sizes.{side_at, halvings, log2, top, size_at, start, count}
use Rattle.rules.specs.Levels.{tab, grid, texel, quad, next, chain, filled}
use Rattle.rules.specs.NearestValue.{units, reaches, found, root_pattern}
use Rattle.rules.specs.Root.{sqrt_of}
use Rattle.rules.specs.Curve.{curve_pattern, curve, greatest_up_to, encode_of}
use Rattle.rules.specs.Reducing.{each_of, mean_byte, linear_of, normal_byte, normal_of, rough_byte, metallic_of, srgb_byte, srgb_of, reduce_of}
use Rattle.rules.specs.Pictures.{filled_of}
use Rattle.rules.specs.Floats.{magnitude}
use Rattle.rules.specs.Lanes.{in_lanes, in_directions}
use Rattle.rules.specs.Wrapping.{wrap_code, remainder_of, held_of, mirrored_of, wrap_of}
use Rattle.rules.specs.Whole.{floor_of, upward_of}
use Rattle.rules.specs.Packing.{packing_code, pack_of}
use Rattle.rules.specs.Footprint.{footprint_of, four_of, mip_level_of}
use Rattle.rules.specs.Places.{plane_of, place_of, rgb_of, nearest_of, nearest_place, nearest_rgb}
use Rattle.rules.specs.Faces.{direction_taken, sign_of, odd_of, spot_at, spot_of}
use Rattle.rules.specs.Refusals.{refusal_of, ◌or_else◌, kind_refusal, sides_refusal, buffer_refusal, wrap_refusal, sampler_refusal, coordinate_taken, coordinates_refusal, finite_refusal, level_refusal, directions_refusal, no_cubemap_refusal, mode_refusal, picture_refusal, chain_refusal, mipmaps_refusal, level_sizes_refusal, mip_level_refusal, sample4_refusal}
use Rattle.rules.specs.Answers.{answer, level_sizes_answer, chain_leaves, mip_level_answer, spots_of, facing_answer, sample4_rgb_answer}
use Rattle.reference.specs.Items.{Holds, table}

-- a row that holds, and those behind it
infixr 2 ◌also◌
◌also◌ : {A B : Type 0} → A → B → A × B
a also b = (a, b)

pub reference : Holds table
unfolding refusal_of level_sizes_answer chain_leaves mip_level_answer spots_of facing_answer sample4_rgb_answer answer
    ◌or_else◌ kind_refusal sides_refusal buffer_refusal wrap_refusal sampler_refusal coordinate_taken coordinates_refusal finite_refusal level_refusal directions_refusal no_cubemap_refusal
    mode_refusal picture_refusal chain_refusal mipmaps_refusal level_sizes_refusal mip_level_refusal sample4_refusal
    side_at halvings log2 top size_at start count faces_of rgba
    tab grid texel quad next chain filled filled_of
    units reaches found root_pattern sqrt_of curve_pattern curve greatest_up_to encode_of
    upward_of packing_code pack_of each_of mean_byte linear_of normal_byte normal_of rough_byte metallic_of srgb_byte srgb_of reduce_of
    magnitude in_lanes in_directions wrap_code remainder_of held_of mirrored_of wrap_of floor_of footprint_of four_of mip_level_of
    plane_of place_of rgb_of nearest_of nearest_place nearest_rgb direction_taken sign_of odd_of spot_at spot_of
    add sub mul div neg lt le of_bits of_int to_unsigned
reference =
    refl also refl also refl also refl also refl also refl
    also refl also refl also refl also refl
    also refl also refl also refl
    also refl also refl also refl
    also refl also refl also refl also refl also refl also refl also refl also refl
    also refl also refl also refl
    also refl also refl also refl
    also refl also refl also refl also refl
    also refl also refl also refl
    also tt
