-- What each call answers, and what each buffer that it was lent holds afterwards, for every input. Definitions only.
use Rattle.std.specs.Prelude.{◌≡◌, cond, Option, Result, Ok, Err, List, [], ◌++◌, ℕ, ◌*◌, eqb, length, drop}
use Rattle.rules.specs.declared.Sampler.{Sampler}
use Rattle.rules.specs.declared.Pair.{Pair}
use Rattle.rules.specs.declared.LevelSizes.{LevelSizes}
use Rattle.rules.specs.declared.Refusal.{Refusal}
use Rattle.rules.specs.declared.Kind.{Kind}
use Rattle.rules.specs.declared.Packing.{Packing}
use Rattle.rules.specs.declared.Mode.{Mode}
use Rattle.rules.specs.Kinds.{faces_of, kind_of}
use Rattle.rules.specs.Sizes.{side_at, start, count}
use Rattle.rules.specs.Cuts.{cut}
use Rattle.rules.specs.View.{face_view}
use Rattle.rules.specs.Packing.{packing_of}
use Rattle.rules.specs.Pictures.{filled_of}
use Rattle.rules.specs.Checks.{level_verdict_of, chain_verdict_of}
use Rattle.rules.specs.Cross.{cross_width, cross_height, cross_of}
use Rattle.rules.specs.Lanes.{Lanes, Wholes, Directions, Spot, Spots, lanes_of, rgb_lanes}
use Rattle.rules.specs.Wrapping.{mode_of}
use Rattle.rules.specs.Footprint.{mip_level_of}
use Rattle.rules.specs.Places.{plane_of, nearest_rgb, nearest_alpha}
use Rattle.rules.specs.Bilinear.{bilinear_rgb, bilinear_alpha}
use Rattle.rules.specs.Faces.{spot_of}
use Rattle.rules.specs.Cubemap.{cubemap_rgb, trilinear_rgb}
use Rattle.rules.specs.Ranges.{ranges_of, ranges_size, replaced, range_replaced}
use Rattle.rules.specs.Irradiance.{Sh4, irradiance_of}
use Rattle.rules.specs.Refusals.{refusal_of, kind_refusal, wrap_refusal, mode_refusal, mipmaps_refusal, check_level_refusal, level_sizes_refusal, view_refusal, cut_call_refusal, cross_refusal, mip_level_refusal, sample4_refusal, bilinear_rgb_refusal, bilinear_alpha_refusal, directions_refusal, cubemap_refusal, trilinear_refusal, ranges_refusal, replace_refusal, irradiance_refusal}

-- the answer where the refusal number is 0, and else what is answered for that number
unfoldable pub answer : {A : Type 0} → ℕ → (ℕ → A) → A → A
answer n refused given = cond (eqb n 0) given (refused n)

-- a buffer: what it holds where nothing is refused; a refusal changes none
abbrev pub leaves : ℕ → List ℕ → List ℕ → List ℕ
leaves n found made = answer n (λ k. found) made

-- a number's refusal
abbrev pub refused : {A : Type 0} → ℕ → Result A Refusal
refused n = Err (refusal_of n)

-- a test: nothing is given where it holds
abbrev pub told : ℕ → Result Unit Refusal
told n = answer n refused (Ok tt)

-- whether something is given, and else why not
abbrev pub done : {A : Type 0} → Result A Refusal → Result Unit Refusal
done (Ok given) = Ok tt
done (Err refusal) = Err refusal

-- codes to kinds and modes
abbrev pub kind_decodes : ℕ → Result Kind Refusal → Type 0
kind_decodes code kind = kind ≡ answer (kind_refusal code) refused (Ok (kind_of code))

abbrev pub packing_decodes : ℕ → Result Packing Refusal → Type 0
packing_decodes code packing = packing ≡ answer (mode_refusal code) refused (Ok (packing_of code))

abbrev pub wrap_decodes : ℕ → Result Mode Refusal → Type 0
wrap_decodes code mode = mode ≡ answer (wrap_refusal code) refused (Ok (mode_of code))

-- the level's start and sides with the chain's texel count
unfoldable pub level_sizes_answer : ℕ → ℕ → ℕ → ℕ → Result LevelSizes Refusal
level_sizes_answer kind w h m =
    answer (level_sizes_refusal kind w h m) refused
    (Ok record { start = start (faces_of kind) w h m; width = side_at m w; height = side_at m h; total = count (faces_of kind) w h })

-- the chain call fills the rest by the packing mode and answers the chain's texel count
unfoldable pub chain_answer : ℕ → ℕ → ℕ → ℕ → List ℕ → Result ℕ Refusal
chain_answer kind w h mode l = answer (mipmaps_refusal kind w h mode (length l)) refused (Ok (count (faces_of kind) w h))

unfoldable pub chain_leaves : ℕ → ℕ → ℕ → ℕ → List ℕ → List ℕ
chain_leaves kind w h mode l = leaves (mipmaps_refusal kind w h mode (length l)) l (filled_of kind (packing_of mode) w h l)

-- check_chain judges every level by the packing mode, check_level one
unfoldable pub check_chain_answer : ℕ → ℕ → ℕ → ℕ → List ℕ → Result (Option ℕ) Refusal
check_chain_answer kind w h mode l =
    answer (mipmaps_refusal kind w h mode (length l)) refused (Ok (chain_verdict_of kind (packing_of mode) w h l))

unfoldable pub check_level_answer : ℕ → ℕ → ℕ → ℕ → List ℕ → ℕ → Result (Option ℕ) Refusal
check_level_answer kind w h mode l m =
    answer (check_level_refusal kind w h mode (length l) m) refused (Ok (level_verdict_of kind (packing_of mode) w h l m))

-- the level view, and an empty part where it refuses
unfoldable pub view_answer : ℕ → ℕ → ℕ → List ℕ → ℕ → ℕ → List ℕ
view_answer kind w h l m f = leaves (view_refusal kind w h (length l) m f) [] (face_view (faces_of kind) w h m f l)

-- the cut answers the texels written
unfoldable pub cut_answer : ℕ → ℕ → ℕ → List ℕ → ℕ → Pair → Pair → List ℕ → Result ℕ Refusal
cut_answer kind w h l k corner sides target =
    answer (cut_call_refusal kind w h (length l) k corner sides (length target)) refused (Ok (sides.y * sides.x))

unfoldable pub cut_leaves : ℕ → ℕ → ℕ → List ℕ → ℕ → Pair → Pair → List ℕ → List ℕ
cut_leaves kind w h l k corner sides target =
    leaves (cut_call_refusal kind w h (length l) k corner sides (length target)) target
    (cut w h corner.x corner.y sides.x sides.y l ++ drop (sides.y * sides.x) target)

-- the cross answers the texels written
unfoldable pub cross_answer : ℕ → ℕ → List ℕ → List ℕ → Result ℕ Refusal
cross_answer w h bytes faces =
    answer (cross_refusal w h (length bytes) (length faces)) refused (Ok (6 * cross_height h * cross_width w))

unfoldable pub cross_leaves : ℕ → ℕ → List ℕ → List ℕ → List ℕ
cross_leaves w h bytes faces =
    leaves (cross_refusal w h (length bytes) (length faces)) faces
    (cross_of w h bytes ++ drop (6 * cross_height h * cross_width w) faces)

unfoldable pub mip_level_answer : ℕ → ℕ → Lanes → Result ℕ Refusal
mip_level_answer w h steps = answer (mip_level_refusal w h steps) refused (Ok (mip_level_of w h steps))

-- sample4: the level that the steps ask for, then one nearest lookup a lane
unfoldable pub sample4_rgb_answer : ℕ → ℕ → ℕ → List ℕ → Sampler → Lanes → Lanes → Lanes → Result Directions Refusal
sample4_rgb_answer kind w h l sampler u v steps =
    let p = plane_of kind w h (mip_level_of w h steps) in
    let s = mode_of sampler.wrap_s in
    let t = mode_of sampler.wrap_t in
    answer (sample4_refusal kind w h (length l) sampler u v steps) refused
    (Ok (rgb_lanes (nearest_rgb l p s t u.a v.a) (nearest_rgb l p s t u.b v.b) (nearest_rgb l p s t u.c v.c) (nearest_rgb l p s t u.d v.d)))

unfoldable pub sample4_alpha_answer : ℕ → ℕ → ℕ → List ℕ → Sampler → Lanes → Lanes → Lanes → Result Lanes Refusal
sample4_alpha_answer kind w h l sampler u v steps =
    let p = plane_of kind w h (mip_level_of w h steps) in
    let s = mode_of sampler.wrap_s in
    let t = mode_of sampler.wrap_t in
    answer (sample4_refusal kind w h (length l) sampler u v steps) refused
    (Ok (lanes_of (nearest_alpha l p s t u.a v.a) (nearest_alpha l p s t u.b v.b) (nearest_alpha l p s t u.c v.c) (nearest_alpha l p s t u.d v.d)))

unfoldable pub bilinear_rgb_answer : ℕ → ℕ → ℕ → List ℕ → Sampler → Lanes → Lanes → ℕ → Wholes → Result Directions Refusal
bilinear_rgb_answer kind w h l sampler u v m f =
    let p = plane_of kind w h m in
    let s = mode_of sampler.wrap_s in
    let t = mode_of sampler.wrap_t in
    answer (bilinear_rgb_refusal kind w h (length l) sampler u v m f) refused
    (Ok (rgb_lanes (bilinear_rgb l p f.a s t u.a v.a) (bilinear_rgb l p f.b s t u.b v.b) (bilinear_rgb l p f.c s t u.c v.c) (bilinear_rgb l p f.d s t u.d v.d)))

unfoldable pub bilinear_alpha_answer : ℕ → ℕ → ℕ → List ℕ → Sampler → Lanes → Lanes → ℕ → Result Lanes Refusal
bilinear_alpha_answer kind w h l sampler u v m =
    let p = plane_of kind w h m in
    let s = mode_of sampler.wrap_s in
    let t = mode_of sampler.wrap_t in
    answer (bilinear_alpha_refusal kind w h (length l) sampler u v m) refused
    (Ok (lanes_of (bilinear_alpha l p s t u.a v.a) (bilinear_alpha l p s t u.b v.b) (bilinear_alpha l p s t u.c v.c) (bilinear_alpha l p s t u.d v.d)))

-- four directions to their faces and the places on them
unfoldable pub spots_of : Spot → Spot → Spot → Spot → Spots
spots_of a b c d =
    record {
      face = record { a = a.face; b = b.face; c = c.face; d = d.face };
      u = lanes_of a.u b.u c.u d.u;
      v = lanes_of a.v b.v c.v d.v;
    }

abbrev pub spots_at : Directions → Spots
spots_at n = spots_of (spot_of n.x.a n.y.a n.z.a) (spot_of n.x.b n.y.b n.z.b) (spot_of n.x.c n.y.c n.z.c) (spot_of n.x.d n.y.d n.z.d)

unfoldable pub facing_answer : Directions → Result Spots Refusal
facing_answer n = answer (directions_refusal n) refused (Ok (spots_at n))

unfoldable pub cubemap_answer : ℕ → ℕ → ℕ → List ℕ → Directions → Wholes → Result Directions Refusal
cubemap_answer kind w h l n m =
    answer (cubemap_refusal kind w h (length l) n) refused
    (Ok (rgb_lanes
    (cubemap_rgb l w h n.x.a n.y.a n.z.a m.a)
    (cubemap_rgb l w h n.x.b n.y.b n.z.b m.b)
    (cubemap_rgb l w h n.x.c n.y.c n.z.c m.c)
    (cubemap_rgb l w h n.x.d n.y.d n.z.d m.d)))

unfoldable pub trilinear_answer : ℕ → ℕ → ℕ → List ℕ → Directions → Lanes → Result Directions Refusal
trilinear_answer kind w h l n m =
    answer (trilinear_refusal kind w h (length l) n m) refused
    (Ok (rgb_lanes
    (trilinear_rgb l w h n.x.a n.y.a n.z.a m.a)
    (trilinear_rgb l w h n.x.b n.y.b n.z.b m.b)
    (trilinear_rgb l w h n.x.c n.y.c n.z.c m.c)
    (trilinear_rgb l w h n.x.d n.y.d n.z.d m.d)))

-- build_ranges fills the ranges' front and answers the bytes written
unfoldable pub ranges_answer : ℕ → ℕ → ℕ → List ℕ → List ℕ → Result ℕ Refusal
ranges_answer kind w h l ranges = answer (ranges_refusal kind w h (length l) (length ranges)) refused (Ok (ranges_size w h))

unfoldable pub ranges_leaves : ℕ → ℕ → ℕ → List ℕ → List ℕ → List ℕ
ranges_leaves kind w h l ranges =
    leaves (ranges_refusal kind w h (length l) (length ranges)) ranges (ranges_of w h l ++ drop (ranges_size w h) ranges)

-- replace_texel gives nothing, and leaves the new texel in level 0 and the tile's own range in the ranges
unfoldable pub replace_leaves : ℕ → ℕ → ℕ → List ℕ → List ℕ → ℕ → ℕ → ℕ → List ℕ
replace_leaves kind w h l ranges x y t =
    leaves (replace_refusal kind w h (length l) (length ranges) x y) l (replaced w l x y t)

unfoldable pub replace_ranges_leaves : ℕ → ℕ → ℕ → List ℕ → List ℕ → ℕ → ℕ → ℕ → List ℕ
replace_ranges_leaves kind w h l ranges x y t =
    leaves (replace_refusal kind w h (length l) (length ranges) x y) ranges (range_replaced w h (replaced w l x y t) ranges x y)

-- the four coefficients of each colour
unfoldable pub irradiance_answer : ℕ → ℕ → ℕ → List ℕ → Result Sh4 Refusal
irradiance_answer kind w h l = answer (irradiance_refusal kind w h (length l)) refused (Ok (irradiance_of w h l))
