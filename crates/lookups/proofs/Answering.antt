-- A call's answer from the places that it reads. Past the refusals the level is one of the picture's, each place is one of the texels that are
-- lent, and the four one-lane answers are one answer from the places of the four (`Together`). Assumes nothing.
use Rattle.std.specs.Prelude.{Ok}
use mathlib.Core.Path.{◌≡◌, sym, ap, ◌∙◌, subst}
use mathlib.Core.List.{List}
use Prim.Native.Nat.{ℕ, ◌≤◌}
use lib.ListN.{length}
use Rattle.rules.specs.Lanes.{Lanes}
use Rattle.rules.specs.Lanes.{Wholes}
use Rattle.rules.specs.Lanes.{Directions}
use Rattle.rules.specs.declared.Sampler.{Sampler}
use Rattle.rules.specs.declared.Plane.{Plane}
use Rattle.rules.specs.Lanes.{Spots}
use Rattle.rules.specs.Kinds.{cubemap, faces_of}
use Rattle.rules.specs.Sizes.{top, count}
use Rattle.rules.specs.Places.{plane_of}
use Rattle.rules.specs.Refusals.{◌or_else◌, face_taken, picture_refusal, chain_refusal, buffer_refusal, no_cubemap_refusal, sampler_refusal, coordinates_refusal, finite_refusal, sample4_refusal, bilinear_rgb_refusal, bilinear_alpha_refusal, cubemap_refusal, trilinear_refusal}
use Rattle.rules.specs.Answers.{answer, refused, told, spots_at, sample4_rgb_answer, sample4_alpha_answer, bilinear_rgb_answer, bilinear_alpha_answer, cubemap_answer, trilinear_answer}
use Rattle.rules.proofs.Refusing.{Chained, or_else-taken, answer-given}
use Rattle.rules.proofs.Answering.{first, or_else_assoc, answer_then, told_none, given_none, given_is}
use Rattle.rules.proofs.RefusingLookups.{EachWhole, Cubed, face-below, sample4-facts}
use Rattle.rules.proofs.Bounds.{faces-some}
use Rattle.rules.proofs.Inside.{mip-below}
use Rattle.places.specs.Sized.{Below}
use Rattle.places.specs.declared.wrap.Wrapping.{Wrapping}
use Rattle.places.specs.Samplers.{wrapping_of}
use Rattle.rules.specs.declared.Four.{Four}
use Rattle.rules.specs.declared.Pairing.{Pairing}
use Rattle.lane.specs.Cubes.{cube_four, two_levels, lerp_colours}
use Rattle.lane.specs.Reading.{Inside, AllWithin, squares_at, read_rgb, read_alpha, blended_rgb, blended_alpha}
use Rattle.lane.proofs.Holding.{nearest-inside, squares-within}
use Rattle.lane.proofs.Together.{nearest-colours, nearest-alphas, bilinear-colours, bilinear-alphas, cubemap-colours, trilinear-colours}
use Rattle.lookups.specs.Reads.{sample4_four}

-- what both sample4 calls refuse: a picture, and then what their places refuse
pub sample4_told : {A : Type 0} (kind w h n : ℕ) (s : Sampler) (u v steps : Lanes) (a : A) → answer (sample4_refusal kind w h n s u v steps) refused (Ok a)
    ≡ first (told (picture_refusal kind w h))
    (first (told (buffer_refusal (count (faces_of kind) w h) n or_else no_cubemap_refusal kind or_else sampler_refusal s or_else coordinates_refusal u v or_else finite_refusal steps)) (Ok a))
unfolding sample4_refusal chain_refusal
sample4_told kind w h n s u v steps a = ap (λ k. answer k refused (Ok a)) (or_else_assoc (picture_refusal kind w h) _ _) ∙ answer_then _ _ a

-- past them, where it reads
pub sample4-found : (kind w h n : ℕ) (s : Sampler) (u v steps : Lanes) {k x y : ℕ} {at : Four ℕ} → (k ≡ kind) × (x ≡ w) × (y ≡ h) → Ok tt ≡ told (picture_refusal kind w h)
    → Ok at ≡ answer (buffer_refusal (count (faces_of k) x y) n or_else no_cubemap_refusal k or_else sampler_refusal s or_else coordinates_refusal u v or_else finite_refusal steps) refused (Ok (sample4_four k x y s u v steps))
    → (sample4_refusal kind w h n s u v steps ≡ 0) × (at ≡ sample4_four kind w h s u v steps)
unfolding sample4_refusal chain_refusal
sample4-found kind w h n s u v steps is told reads =
    let e = rw (is.0, is.1, is.2) at (sym reads) in
    (or_else_assoc (picture_refusal kind w h) _ _ ∙ or_else-taken _ _ (told_none _ (sym told)) (given_none _ _ _ e), given_is _ _ _ e)

-- ---- by coordinates
pub faces-below : (kind : ℕ) (f : Wholes) → EachWhole (face_taken kind) f → Below (faces_of kind) f
faces-below kind f e = record { a = face-below kind _ e.a; b = face-below kind _ e.b; c = face-below kind _ e.c; d = face-below kind _ e.d }

module _ (kind w h : ℕ) (l : List ℕ) (sampler : Sampler) (u v steps : Lanes) {f : Four ℕ} (found : (sample4_refusal kind w h (length l) sampler u v steps ≡ 0) × (f ≡ sample4_four kind w h sampler u v steps)) where
  pub sample4-rgb-read : Ok (read_rgb l f) ≡ sample4_rgb_answer kind w h l sampler u v steps
  unfolding sample4_rgb_answer sample4_four
  sample4-rgb-read = rw found.1 (sym (answer-given _ _ _ found.0 ∙ ap Ok (nearest-colours l _ _ _ u v)))

  pub sample4-alpha-read : Ok (read_alpha l f) ≡ sample4_alpha_answer kind w h l sampler u v steps
  unfolding sample4_alpha_answer sample4_four
  sample4-alpha-read = rw found.1 (sym (answer-given _ _ _ found.0 ∙ ap Ok (nearest-alphas l _ _ _ u v)))

  pub sample4-inside : Inside l f
  unfolding sample4_four
  sample4-inside = rw found.1 (nearest-inside l _ (sample4-facts kind w h (length l) sampler u v steps found.0).chained (mip-below w h steps) _ _ u v)

-- a picture's first face is one of its faces
pub first-below : (kind : ℕ) → Below (faces_of kind) (record { a = 0; b = 0; c = 0; d = 0 })
first-below kind = let some = faces-some kind in record { a = some; b = some; c = some; d = some }

-- p is level m, by its modes
module _ (kind w h : ℕ) (l : List ℕ) (sampler : Sampler) (u v : Lanes) (m : ℕ) {p : Plane} {by : Wrapping} (e : p ≡ plane_of kind w h m) (g : by ≡ wrapping_of sampler) where
  pub bilinear-rgb-read : (f : Wholes) → bilinear_rgb_refusal kind w h (length l) sampler u v m f ≡ 0 → bilinear_rgb_answer kind w h l sampler u v m f ≡ Ok (blended_rgb l (squares_at p f by.s by.t u v))
  unfolding bilinear_rgb_answer wrapping_of
  bilinear-rgb-read f z = rw (e, g) (answer-given _ _ _ z ∙ ap Ok (bilinear-colours l _ _ _ u v f))

  pub bilinear-alpha-read : bilinear_alpha_refusal kind w h (length l) sampler u v m ≡ 0 → bilinear_alpha_answer kind w h l sampler u v m ≡ Ok (blended_alpha l (squares_at p (record { a = 0; b = 0; c = 0; d = 0 }) by.s by.t u v))
  unfolding bilinear_alpha_answer wrapping_of
  bilinear-alpha-read z = rw (e, g) (answer-given _ _ _ z ∙ ap Ok (bilinear-alphas l _ _ _ u v))

  pub level-faces : (f : Wholes) → Below (faces_of kind) f → Below p.faces f
  unfolding plane_of
  level-faces f b = rw e b

  pub level-squares : (f : Wholes) → Below (faces_of kind) f → Chained kind w h (length l) → m ≤ top w h → AllWithin l (squares_at p f by.s by.t u v)
  level-squares f b c below = rw e (squares-within l m c below _ _ u v f b)

-- ---- by directions: s is where they meet the cube

pub cube-chained : {kind w h n : ℕ} {d : Directions} → Cubed kind w h n d → Chained cubemap w h n
cube-chained {w = w} {h = h} {n = n} f = subst (λ (k : ℕ). Chained k w h n) f.cube f.chained

module _ (kind w h : ℕ) (l : List ℕ) (d : Directions) {s : Spots} where
  pub cubemap-read : (m : Wholes) → cubemap_refusal kind w h (length l) d ≡ 0 → s ≡ spots_at d → cubemap_answer kind w h l d m ≡ Ok (read_rgb l (cube_four w h s m))
  unfolding cubemap_answer
  cubemap-read m z e = rw e (answer-given _ _ _ z ∙ ap Ok (cubemap-colours l w h d m))

  trilinear-read : (levels : Lanes) → trilinear_refusal kind w h (length l) d levels ≡ 0 → s ≡ spots_at d → let m = two_levels levels (top w h) in trilinear_answer kind w h l d levels ≡ Ok (lerp_colours (read_rgb l (cube_four w h s m.low)) (read_rgb l (cube_four w h s m.high)) m.part)
  unfolding trilinear_answer
  trilinear-read levels z e = rw e (answer-given _ _ _ z ∙ ap Ok (trilinear-colours l w h d levels))

  -- the same from what a call works out in turn: the top level, the two levels, the places, the colours, and the blend
  pub trilinear-made : (levels : Lanes) → trilinear_refusal kind w h (length l) d levels ≡ 0 → s ≡ spots_at d → {n : ℕ} {m : Pairing Wholes Lanes} {at : Pairing Wholes Lanes} {low high blend : Directions}
      → n ≡ top w h → m ≡ two_levels levels n → at ≡ record { low = cube_four w h s m.low; high = cube_four w h s m.high; part = m.part } → low ≡ read_rgb l at.low → high ≡ read_rgb l at.high → blend ≡ lerp_colours low high m.part
      → Ok blend ≡ trilinear_answer kind w h l d levels
  trilinear-made levels z e i j k p q r = rw (r, p, q, k, j, i) (sym (trilinear-read levels z e))
