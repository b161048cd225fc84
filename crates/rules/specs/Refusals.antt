-- The refusal numbers, and for each call those that fit its arguments, in their order. 0 is no refusal. Definitions only.
use Rattle.std.specs.Prelude.{Bool, false, not, cond, ◌&&◌, ℕ, ◌*◌, leb, ltb, eqb, pos, Float, Result, Ok, Err}
use Rattle.std.specs.Float.{fin}
use Rattle.std.specs.Float.Ieee.{lt}
use Rattle.std.specs.Float.Ieee.Scale.{finite}
use Rattle.rules.specs.declared.Sampler.{Sampler}
use Rattle.rules.specs.declared.Pair.{Pair}
use Rattle.rules.specs.declared.Refusal.{Refusal}
use Rattle.rules.specs.declared.Refusal.TheVariants.{UnknownKind, SideOutside, ShortBuffer, UnknownWrap, NumberOutside, LevelAbove, DirectionOutside, KindNotTaken, CrossOutside, CutOutside, NotTheFile, PlaceOutside, UnknownPacking}
use Rattle.rules.specs.Kinds.{cubemap, faces_of}
use Rattle.rules.specs.Sizes.{top, count}
use Rattle.rules.specs.Cuts.{cut_taken}
use Rattle.rules.specs.Cross.{cross_width, cross_height}
use Rattle.rules.specs.Ranges.{ranges_size}
use Rattle.rules.specs.Floats.{magnitude}
use Rattle.rules.specs.Lanes.{Lanes, Wholes, Directions, in_lanes, in_directions}
use Rattle.rules.specs.Wrapping.{wrap_code}
use Rattle.rules.specs.Packing.{packing_code}
use Rattle.rules.specs.Faces.{direction_taken}

-- the first that is given
infixr 3 ◌or_else◌
unfoldable pub ◌or_else◌ : ℕ → ℕ → ℕ
n or_else m = cond (eqb n 0) m n

-- n where the test fails
abbrev pub unless : Bool → ℕ → ℕ
unless test n = cond test 0 n

-- each refusal's number
abbrev pub number_of : Refusal → ℕ
number_of UnknownKind = 1
number_of SideOutside = 2
number_of ShortBuffer = 3
number_of UnknownWrap = 4
number_of NumberOutside = 5
number_of LevelAbove = 6
number_of DirectionOutside = 7
number_of KindNotTaken = 8
number_of CrossOutside = 10
number_of CutOutside = 11
number_of NotTheFile = 12
number_of PlaceOutside = 14
number_of UnknownPacking = 15

-- the number that an answer gives
abbrev pub number_in : {A : Type 0} → Result A Refusal → ℕ
number_in (Ok given) = 0
number_in (Err refusal) = number_of refusal

-- the refusal of a number that one has
unfoldable pub refusal_of : ℕ → Refusal
refusal_of n =
    cond (eqb n 1) UnknownKind
    (cond (eqb n 2) SideOutside
    (cond (eqb n 3) ShortBuffer
    (cond (eqb n 4) UnknownWrap
    (cond (eqb n 5) NumberOutside
    (cond (eqb n 6) LevelAbove
    (cond (eqb n 7) DirectionOutside
    (cond (eqb n 8) KindNotTaken
    (cond (eqb n 10) CrossOutside
    (cond (eqb n 11) CutOutside
    (cond (eqb n 12) NotTheFile
    (cond (eqb n 14) PlaceOutside UnknownPacking)))))))))))

-- ---- the numbers

-- 1: kind above 4
unfoldable pub kind_refusal : ℕ → ℕ
kind_refusal kind = unless (leb kind 4) 1

-- 2: a picture's side is 0 or above 4,096
abbrev pub side_taken : ℕ → Bool
side_taken s = leb 1 s && leb s 4096

unfoldable pub sides_refusal : ℕ → ℕ → ℕ
sides_refusal w h = unless (side_taken w && side_taken h) 2

-- 3: a lent buffer of n entries is shorter than what is read or filled there
unfoldable pub buffer_refusal : ℕ → ℕ → ℕ
buffer_refusal needed n = unless (leb needed n) 3

-- 4: wrap code unknown
unfoldable pub wrap_refusal : ℕ → ℕ
wrap_refusal code = number_in (wrap_code code)

unfoldable pub sampler_refusal : Sampler → ℕ
sampler_refusal s = wrap_refusal s.wrap_s or_else wrap_refusal s.wrap_t

-- 5: a coordinate, step or fractional level is not finite, or a coordinate's magnitude is above 2,048
abbrev pub high11 : Float
high11 = fin false 1 (pos 11)

unfoldable pub coordinate_taken : Float → Bool
coordinate_taken u = finite u && not (lt high11 (magnitude u))

unfoldable pub coordinates_refusal : Lanes → Lanes → ℕ
coordinates_refusal u v = unless (in_lanes coordinate_taken u && in_lanes coordinate_taken v) 5

unfoldable pub finite_refusal : Lanes → ℕ
finite_refusal l = unless (in_lanes finite l) 5

-- 6: level above the top level
unfoldable pub level_refusal : ℕ → ℕ → ℕ → ℕ
level_refusal w h m = unless (leb m (top w h)) 6

-- 7: a direction component not finite, or the largest magnitude below 2^-60 or above 2^60
unfoldable pub directions_refusal : Directions → ℕ
directions_refusal n = unless (in_directions direction_taken n) 7

-- 8: the call does not take this kind; or face above 5 for a cubemap, or not 0 for another kind
unfoldable pub no_cubemap_refusal : ℕ → ℕ
no_cubemap_refusal kind = unless (not (eqb kind cubemap)) 8

unfoldable pub only_cubemap_refusal : ℕ → ℕ
only_cubemap_refusal kind = unless (eqb kind cubemap) 8

abbrev pub face_taken : ℕ → ℕ → Bool
face_taken kind f = ltb f (faces_of kind)

unfoldable pub face_refusal : ℕ → ℕ → ℕ
face_refusal kind f = unless (face_taken kind f) 8

unfoldable pub faces_refusal : ℕ → Wholes → ℕ
faces_refusal kind faces = unless (in_lanes (face_taken kind) faces) 8

-- 9 is retired and never used again. 10: a cross whose face sides fall outside 1 to 4,096
unfoldable pub cross_sides_refusal : ℕ → ℕ → ℕ
cross_sides_refusal w h = unless (side_taken (cross_width w) && side_taken (cross_height h)) 10

-- 11: cut order k above 12, a side 0, corner or side not a multiple of 2^k, or not wholly inside
unfoldable pub cut_refusal : ℕ → ℕ → ℕ → Pair → Pair → ℕ
cut_refusal k w h corner sides = unless (cut_taken k w h corner.x corner.y sides.x sides.y) 11

-- 14: a place outside the picture
unfoldable pub outside_refusal : ℕ → ℕ → ℕ → ℕ → ℕ
outside_refusal w h x y = unless (ltb x w && ltb y h) 14

-- 15: packing mode unknown
unfoldable pub mode_refusal : ℕ → ℕ
mode_refusal mode = number_in (packing_code mode)

-- ---- the calls: n is the length of a lent buffer

-- 1, 2
unfoldable pub picture_refusal : ℕ → ℕ → ℕ → ℕ
picture_refusal kind w h = kind_refusal kind or_else sides_refusal w h

-- sampling, level view: the whole chain. 1, 2, 3
unfoldable pub chain_refusal : ℕ → ℕ → ℕ → ℕ → ℕ
chain_refusal kind w h n = picture_refusal kind w h or_else buffer_refusal (count (faces_of kind) w h) n

-- generate_mipmaps, check_chain: 1, 2, 3, 15
unfoldable pub mipmaps_refusal : ℕ → ℕ → ℕ → ℕ → ℕ → ℕ
mipmaps_refusal kind w h mode n = chain_refusal kind w h n or_else mode_refusal mode

-- check_level: 1, 2, 3, 15, 6
unfoldable pub check_level_refusal : ℕ → ℕ → ℕ → ℕ → ℕ → ℕ → ℕ
check_level_refusal kind w h mode n m = mipmaps_refusal kind w h mode n or_else level_refusal w h m

-- level_sizes: 1, 2, 6
unfoldable pub level_sizes_refusal : ℕ → ℕ → ℕ → ℕ → ℕ
level_sizes_refusal kind w h m = picture_refusal kind w h or_else level_refusal w h m

-- level_view: 1, 2, 3, 8, 6
unfoldable pub view_refusal : ℕ → ℕ → ℕ → ℕ → ℕ → ℕ → ℕ
view_refusal kind w h n m f = chain_refusal kind w h n or_else face_refusal kind f or_else level_refusal w h m

-- cut: 1, 2, 3 (source), 8, 11, 3 (target): level 0 of each
unfoldable pub cut_call_refusal : ℕ → ℕ → ℕ → ℕ → ℕ → Pair → Pair → ℕ → ℕ
cut_call_refusal kind w h source k corner sides target =
    picture_refusal kind w h
    or_else buffer_refusal (faces_of kind * h * w) source
    or_else no_cubemap_refusal kind
    or_else cut_refusal k w h corner sides
    or_else buffer_refusal (sides.y * sides.x) target

-- cut_cross: 10, 3: width x height x 4 bytes in, six faces out
unfoldable pub cross_refusal : ℕ → ℕ → ℕ → ℕ → ℕ
cross_refusal w h bytes faces =
    cross_sides_refusal w h
    or_else buffer_refusal (h * w * 4) bytes
    or_else buffer_refusal (6 * cross_height h * cross_width w) faces

-- compute_mip_level: 2, 5
unfoldable pub mip_level_refusal : ℕ → ℕ → Lanes → ℕ
mip_level_refusal w h steps = sides_refusal w h or_else finite_refusal steps

-- sample4_rgb, sample4_alpha: 1, 2, 3, 8, 4, 5
unfoldable pub sample4_refusal : ℕ → ℕ → ℕ → ℕ → Sampler → Lanes → Lanes → Lanes → ℕ
sample4_refusal kind w h n s u v steps =
    chain_refusal kind w h n
    or_else no_cubemap_refusal kind
    or_else sampler_refusal s
    or_else coordinates_refusal u v
    or_else finite_refusal steps

-- sample_bilinear_rgb: 1, 2, 3, 8, 4, 6, 5
unfoldable pub bilinear_rgb_refusal : ℕ → ℕ → ℕ → ℕ → Sampler → Lanes → Lanes → ℕ → Wholes → ℕ
bilinear_rgb_refusal kind w h n s u v m faces =
    chain_refusal kind w h n
    or_else faces_refusal kind faces
    or_else sampler_refusal s
    or_else level_refusal w h m
    or_else coordinates_refusal u v

-- sample_bilinear_alpha: 1, 2, 3, 8, 4, 6, 5
unfoldable pub bilinear_alpha_refusal : ℕ → ℕ → ℕ → ℕ → Sampler → Lanes → Lanes → ℕ → ℕ
bilinear_alpha_refusal kind w h n s u v m =
    chain_refusal kind w h n
    or_else no_cubemap_refusal kind
    or_else sampler_refusal s
    or_else level_refusal w h m
    or_else coordinates_refusal u v

-- sample_cubemap_rgb: 1, 2, 3, 8, 7
unfoldable pub cubemap_refusal : ℕ → ℕ → ℕ → ℕ → Directions → ℕ
cubemap_refusal kind w h n normals =
    chain_refusal kind w h n
    or_else only_cubemap_refusal kind
    or_else directions_refusal normals

-- sample_cubemap_trilinear_rgb: 1, 2, 3, 8, 7, 5
unfoldable pub trilinear_refusal : ℕ → ℕ → ℕ → ℕ → Directions → Lanes → ℕ
trilinear_refusal kind w h n normals levels = cubemap_refusal kind w h n normals or_else finite_refusal levels

-- build_ranges: 1, 2, 3 (level 0), 3 (the ranges), 8
unfoldable pub ranges_refusal : ℕ → ℕ → ℕ → ℕ → ℕ → ℕ
ranges_refusal kind w h texels ranges =
    picture_refusal kind w h
    or_else buffer_refusal (faces_of kind * h * w) texels
    or_else buffer_refusal (ranges_size w h) ranges
    or_else no_cubemap_refusal kind

-- replace_texel: 1, 2, 3, 8, 14
unfoldable pub replace_refusal : ℕ → ℕ → ℕ → ℕ → ℕ → ℕ → ℕ → ℕ
replace_refusal kind w h texels ranges x y = ranges_refusal kind w h texels ranges or_else outside_refusal w h x y

-- irradiance_sh4: 1, 2, 3 (level 0 only), 8
unfoldable pub irradiance_refusal : ℕ → ℕ → ℕ → ℕ → ℕ
irradiance_refusal kind w h n =
    picture_refusal kind w h
    or_else buffer_refusal (faces_of kind * h * w) n
    or_else only_cubemap_refusal kind
