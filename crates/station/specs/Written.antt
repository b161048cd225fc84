-- What an answer is at the C boundary. The number that a call answers is `number_in` (rules/specs/Refusals), 0 where it was done. An out
-- parameter holds afterwards the words of what is given, and what was found there where the call refuses. Definitions only.
use Rattle.std.specs.Prelude.{List, [], ◌∷◌, ◌++◌, Option, Some, None, Result, Ok, Err, ℕ, ◌*◌, get_or, Float}
use Rattle.std.specs.Float.{nan}
use Rattle.levels.specs.declared.view.Face.{Face}
use Rattle.rules.specs.declared.Four.{Four}
use Rattle.rules.specs.declared.LevelSizes.{LevelSizes}
use Rattle.rules.specs.declared.Pair.{Pair}
use Rattle.rules.specs.declared.Refusal.{Refusal}
use Rattle.rules.specs.declared.Rgb.{Rgb}
use Rattle.rules.specs.declared.Sampler.{Sampler}
use Rattle.rules.specs.Lanes.{Lanes, Wholes, Directions, Spots}
use Rattle.rules.specs.Irradiance.{Sh4}
use Rattle.rules.specs.Kinds.{faces_of}
use Rattle.rules.specs.Sizes.{side_at}
use Rattle.rules.specs.View.{face_start}
use Rattle.rules.specs.Refusals.{view_refusal}
use Rattle.rules.specs.Answers.{leaves}

-- ---- what is handed in

-- the first four of a list; `other` stands where it has fewer
abbrev pub to_four : {A : Type 0} → A → List A → Four A
to_four other l = record { a = get_or l 0 other; b = get_or l 1 other; c = get_or l 2 other; d = get_or l 3 other }

abbrev pub to_lanes : List Float → Lanes
to_lanes l = to_four nan l

abbrev pub to_wholes : List ℕ → Wholes
to_wholes l = to_four 0 l

abbrev pub to_directions : List Float → List Float → List Float → Directions
to_directions x y z = record { x = to_lanes x; y = to_lanes y; z = to_lanes z }

abbrev pub pair_of : ℕ → ℕ → Pair
pair_of x y = record { x = x; y = y }

abbrev pub sampler_of : ℕ → ℕ → Sampler
sampler_of s t = record { wrap_s = s; wrap_t = t }

-- ---- what is handed out

-- the words of what is given; what was found where the call refuses
abbrev pub handed : {A B : Type 0} → (A → B) → Result A Refusal → B → B
handed words (Ok given) found = words given
handed words (Err refusal) found = found

-- a count of texels or bytes, or a level: itself
abbrev pub number_words : ℕ → ℕ
number_words n = n

-- level_sizes
abbrev pub sizes_words : LevelSizes → List ℕ
sizes_words s = s.start ∷ s.width ∷ s.height ∷ s.total ∷ []

-- check_chain, check_level: 1 and 0 where it follows; else 0 and the first wrong texel's place
abbrev pub verdict_words : Option ℕ → List ℕ
verdict_words None = 1 ∷ 0 ∷ []
verdict_words (Some place) = 0 ∷ place ∷ []

-- four lanes: alphas, or the faces of four directions
abbrev pub four_words : {A : Type 0} → Four A → List A
four_words l = l.a ∷ l.b ∷ l.c ∷ l.d ∷ []

-- colours: four reds, four greens, four blues
abbrev pub colour_words : Directions → List Float
colour_words c = four_words c.x ++ (four_words c.y ++ four_words c.z)

-- cubemap_uv_from_normal: four u, then four v; and the faces
abbrev pub uv_words : Spots → List Float
uv_words s = four_words s.u ++ four_words s.v

abbrev pub faces_words : Spots → List ℕ
faces_words s = four_words s.face

-- irradiance_sh4: coefficient by coefficient, red, green, blue of each
abbrev pub rgb_words : Rgb → List Float
rgb_words c = c.r ∷ c.g ∷ c.b ∷ []

abbrev pub light_words : Sh4 → List Float
light_words s = rgb_words s.constant ++ (rgb_words s.y ++ (rgb_words s.z ++ rgb_words s.x))

-- level_view: where the part starts, and how long it is
abbrev pub part_words : Face → List ℕ
part_words f = f.start ∷ f.size ∷ []

unfoldable pub view_written : ℕ → ℕ → ℕ → ℕ → ℕ → ℕ → List ℕ → List ℕ
view_written kind w h n m f found =
    leaves (view_refusal kind w h n m f) found (face_start (faces_of kind) w h m f ∷ side_at m h * side_at m w ∷ [])
