-- What the refusal numbers of the lookups say: 0 exactly when each of their parts is, and a part that looks at four lanes
-- exactly when every lane is taken: one bad lane refuses all four. Assumes nothing.
use Rattle.std.specs.Prelude.{Result, Ok, Err}
use mathlib.Core.Path.{◌≡◌, refl}
use mathlib.Core.Bool.{Bool, true, ◌&&◌}
use Prim.Native.Nat.{ℕ, ◌≤◌, ◌<◌}
use borrow.Author.Tests.{ltb-true, lt-ltb}
use lib.Ieee.{Float}
use lib.Ieee.Scale.{finite}
use Rattle.rules.specs.Lanes.{Lanes}
use Rattle.rules.specs.Lanes.{Wholes}
use Rattle.rules.specs.Lanes.{Directions}
use Rattle.rules.specs.declared.Sampler.{Sampler}
use Rattle.rules.specs.Wrapping.{wrap_code, mode_in, mode_of}
use Rattle.rules.specs.Kinds.{cubemap, faces_of}
use Rattle.rules.specs.Sizes.{top}
use Rattle.rules.specs.Lanes.{in_lanes, in_lanes, in_directions}
use Rattle.rules.specs.Faces.{direction_taken}
use Rattle.rules.specs.declared.Refusal.{Refusal}
use Rattle.rules.specs.declared.Mode.{Mode}
use Rattle.rules.proofs.Answering.{number-some}
use Rattle.rules.specs.Refusals.{number_in, ◌or_else◌, sides_refusal, wrap_refusal, sampler_refusal, coordinate_taken, coordinates_refusal, finite_refusal, level_refusal, directions_refusal, no_cubemap_refusal, only_cubemap_refusal, face_taken, faces_refusal, chain_refusal, mip_level_refusal, sample4_refusal, bilinear_rgb_refusal, bilinear_alpha_refusal, cubemap_refusal, trilinear_refusal}
use Rattle.rules.proofs.Refusing.{or_else-none, or_else-taken, unless-true, unless-false, unless-none, and-true, and_both, test-false, Sides, sides-taken, sides-facts, level-taken, level-facts, flat-taken, flat-facts, cube-taken, cube-facts, Chained, chain-taken, chain-facts}

-- ---- four lanes

-- a test that holds in every lane
pub record Four (p q r s : Bool) : Type 0 where
  pub a : p ≡ true
  pub b : q ≡ true
  pub c : r ≡ true
  pub d : s ≡ true

four-test : (a b c d : Bool) → Four a b c d → (a && (b && (c && d))) ≡ true
four-test a b c d f = rw (f.a, f.b, f.c, f.d)

four-fact : (a b c d : Bool) → (a && (b && (c && d))) ≡ true → Four a b c d
four-fact a b c d e =
    let p = and_both a (b && (c && d)) e in
    let q = and_both b (c && d) p.1 in
    let r = and_both c d q.1 in
    record { a = p.0; b = q.0; c = r.0; d = r.1 }

abbrev pub EachLane : (Float → Bool) → Lanes → Type 0
EachLane test l = Four (test l.a) (test l.b) (test l.c) (test l.d)

abbrev pub EachWhole : (ℕ → Bool) → Wholes → Type 0
EachWhole test l = Four (test l.a) (test l.b) (test l.c) (test l.d)

abbrev pub EachDirection : (Float → Float → Float → Bool) → Directions → Type 0
EachDirection test n =
    Four (test n.x.a n.y.a n.z.a) (test n.x.b n.y.b n.z.b) (test n.x.c n.y.c n.z.c) (test n.x.d n.y.d n.z.d)

pub lanes-test : (test : Float → Bool) (l : Lanes) → EachLane test l → in_lanes test l ≡ true
unfolding in_lanes
lanes-test test l f = four-test _ _ _ _ f

pub lanes-fact : (test : Float → Bool) (l : Lanes) → in_lanes test l ≡ true → EachLane test l
unfolding in_lanes
lanes-fact test l e = four-fact _ _ _ _ e

-- ---- 4: wrap code unknown

-- a code that is not refused stands for its mode
pub code-known : (code : ℕ) → wrap_refusal code ≡ 0 → wrap_code code ≡ Ok (mode_of code)
unfolding wrap_refusal
code-known code = by (wrap_code code)
  where
    by : (found : Result Mode Refusal) → number_in found ≡ 0 → found ≡ Ok (mode_in found)
    by (Ok mode) e = refl
    by (Err refusal) e = absurd (number-some refusal e)

pub codes-taken : (s : Sampler) → wrap_refusal s.wrap_s ≡ 0 → wrap_refusal s.wrap_t ≡ 0 → sampler_refusal s ≡ 0
unfolding sampler_refusal
codes-taken s p q = or_else-taken _ _ p q

pub codes-facts : (s : Sampler) → sampler_refusal s ≡ 0 → (wrap_refusal s.wrap_s ≡ 0) × (wrap_refusal s.wrap_t ≡ 0)
unfolding sampler_refusal
codes-facts s e = or_else-none _ _ e

-- ---- 5: a coordinate, step or fractional level is not finite, or a coordinate's magnitude is above 2,048

pub finite-taken : (l : Lanes) → EachLane finite l → finite_refusal l ≡ 0
unfolding finite_refusal
finite-taken l f = unless-true _ 5 (lanes-test finite l f)

pub finite-facts : (l : Lanes) → finite_refusal l ≡ 0 → EachLane finite l
unfolding finite_refusal
finite-facts l e = lanes-fact finite l (unless-none _ 4 e)

pub finite-refused : (l : Lanes) → (EachLane finite l → ⊥) → finite_refusal l ≡ 5
unfolding finite_refusal
finite-refused l fails = unless-false _ 5 (test-false _ (λ t. fails (lanes-fact finite l t)))

pub record Coordinates (u v : Lanes) : Type 0 where
  pub along-u : EachLane coordinate_taken u
  pub along-v : EachLane coordinate_taken v

coordinates-fact : (u v : Lanes) → (in_lanes coordinate_taken u && in_lanes coordinate_taken v) ≡ true → Coordinates u v
coordinates-fact u v e =
    let b = and_both _ _ e in
    record { along-u = lanes-fact coordinate_taken u b.0; along-v = lanes-fact coordinate_taken v b.1 }

pub coordinates-taken : (u v : Lanes) → Coordinates u v → coordinates_refusal u v ≡ 0
unfolding coordinates_refusal
coordinates-taken u v c = unless-true _ 5 (and-true _ _ (lanes-test coordinate_taken u c.along-u) (lanes-test coordinate_taken v c.along-v))

pub coordinates-facts : (u v : Lanes) → coordinates_refusal u v ≡ 0 → Coordinates u v
unfolding coordinates_refusal
coordinates-facts u v e = coordinates-fact u v (unless-none _ 4 e)

pub coordinates-refused : (u v : Lanes) → (Coordinates u v → ⊥) → coordinates_refusal u v ≡ 5
unfolding coordinates_refusal
coordinates-refused u v fails = unless-false _ 5 (test-false _ (λ t. fails (coordinates-fact u v t)))

-- ---- 7: a direction component not finite, or the largest magnitude below 2^-60 or above 2^60

pub directions-taken : (n : Directions) → EachDirection direction_taken n → directions_refusal n ≡ 0
unfolding directions_refusal in_directions
directions-taken n f = unless-true _ 7 (four-test _ _ _ _ f)

pub directions-facts : (n : Directions) → directions_refusal n ≡ 0 → EachDirection direction_taken n
unfolding directions_refusal in_directions
directions-facts n e = four-fact _ _ _ _ (unless-none _ 6 e)

pub directions-refused : (n : Directions) → (EachDirection direction_taken n → ⊥) → directions_refusal n ≡ 7
unfolding directions_refusal in_directions
directions-refused n fails = unless-false _ 7 (test-false _ (λ t. fails (four-fact _ _ _ _ t)))

-- ---- 8: face above 5 for a cubemap, or not 0 for another kind

pub faces-taken : (kind : ℕ) (f : Wholes) → EachWhole (face_taken kind) f → faces_refusal kind f ≡ 0
unfolding faces_refusal in_lanes
faces-taken kind f each = unless-true _ 8 (four-test _ _ _ _ each)

pub faces-facts : (kind : ℕ) (f : Wholes) → faces_refusal kind f ≡ 0 → EachWhole (face_taken kind) f
unfolding faces_refusal in_lanes
faces-facts kind f e = four-fact _ _ _ _ (unless-none _ 7 e)

pub faces-refused : (kind : ℕ) (f : Wholes) → (EachWhole (face_taken kind) f → ⊥) → faces_refusal kind f ≡ 8
unfolding faces_refusal in_lanes
faces-refused kind f fails = unless-false _ 8 (test-false _ (λ t. fails (four-fact _ _ _ _ t)))

-- the same lane by lane, as numbers
pub face-below : (kind f : ℕ) → face_taken kind f ≡ true → f < faces_of kind
face-below kind f e = ltb-true f (faces_of kind) e

pub below-face : (kind f : ℕ) → f < faces_of kind → face_taken kind f ≡ true
below-face kind f h = lt-ltb f (faces_of kind) h

-- ---- 2, 5: compute_mip_level

pub record Stepped (w h : ℕ) (steps : Lanes) : Type 0 where
  pub sides : Sides w h
  pub finite : EachLane finite steps

pub mip-taken : (w h : ℕ) (steps : Lanes) → Stepped w h steps → mip_level_refusal w h steps ≡ 0
unfolding mip_level_refusal
mip-taken w h steps m = or_else-taken _ _ (sides-taken w h m.sides) (finite-taken steps m.finite)

pub mip-facts : (w h : ℕ) (steps : Lanes) → mip_level_refusal w h steps ≡ 0 → Stepped w h steps
unfolding mip_level_refusal
mip-facts w h steps e =
    let b = or_else-none (sides_refusal w h) _ e in
    record { sides = sides-facts w h b.0; finite = finite-facts steps b.1 }

-- ---- 1, 2, 3, 8, 4, 5: sample4_rgb, sample4_alpha

pub record Sampled (kind w h n : ℕ) (s : Sampler) (u v steps : Lanes) : Type 0 where
  pub chained : Chained kind w h n
  pub flat : kind ≡ cubemap → ⊥
  pub codes : sampler_refusal s ≡ 0
  pub coordinates : Coordinates u v
  pub finite : EachLane finite steps

module _ (kind w h n : ℕ) (s : Sampler) (u v steps : Lanes) where
  pub sample4-taken : Sampled kind w h n s u v steps → sample4_refusal kind w h n s u v steps ≡ 0
  unfolding sample4_refusal
  sample4-taken f =
      or_else-taken _ _ (chain-taken kind w h n f.chained)
      (or_else-taken _ _ (flat-taken kind f.flat)
      (or_else-taken _ _ f.codes
      (or_else-taken _ _ (coordinates-taken u v f.coordinates) (finite-taken steps f.finite))))

  pub sample4-facts : sample4_refusal kind w h n s u v steps ≡ 0 → Sampled kind w h n s u v steps
  unfolding sample4_refusal
  sample4-facts e =
      let a = or_else-none (chain_refusal kind w h n) _ e in
      let b = or_else-none (no_cubemap_refusal kind) _ a.1 in
      let c = or_else-none (sampler_refusal s) _ b.1 in
      let d = or_else-none (coordinates_refusal u v) _ c.1 in
      record {
        chained = chain-facts kind w h n a.0;
        flat = flat-facts kind b.0;
        codes = c.0;
        coordinates = coordinates-facts u v d.0;
        finite = finite-facts steps d.1;
      }

-- ---- 4, 6, 5 of the bilinear lookups, which stand behind their 8

pub record Blended (w h : ℕ) (s : Sampler) (u v : Lanes) (m : ℕ) : Type 0 where
  pub codes : sampler_refusal s ≡ 0
  pub below : m ≤ top w h
  pub coordinates : Coordinates u v

module _ (w h : ℕ) (s : Sampler) (u v : Lanes) (m : ℕ) where
  blended-taken : Blended w h s u v m → (sampler_refusal s or_else level_refusal w h m or_else coordinates_refusal u v) ≡ 0
  blended-taken f = or_else-taken _ _ f.codes (or_else-taken _ _ (level-taken w h m f.below) (coordinates-taken u v f.coordinates))

  blended-facts : (sampler_refusal s or_else level_refusal w h m or_else coordinates_refusal u v) ≡ 0 → Blended w h s u v m
  blended-facts e =
      let a = or_else-none (sampler_refusal s) _ e in
      let b = or_else-none (level_refusal w h m) _ a.1 in
      record { codes = a.0; below = level-facts w h m b.0; coordinates = coordinates-facts u v b.1 }

-- ---- 1, 2, 3, 8, 4, 6, 5: sample_bilinear_rgb, sample_bilinear_alpha

pub record BilinearRgb (kind w h n : ℕ) (s : Sampler) (u v : Lanes) (m : ℕ) (f : Wholes) : Type 0 where
  pub chained : Chained kind w h n
  pub faces : EachWhole (face_taken kind) f
  pub blended : Blended w h s u v m

pub record BilinearAlpha (kind w h n : ℕ) (s : Sampler) (u v : Lanes) (m : ℕ) : Type 0 where
  pub chained : Chained kind w h n
  pub flat : kind ≡ cubemap → ⊥
  pub blended : Blended w h s u v m

module _ (kind w h n : ℕ) (s : Sampler) (u v : Lanes) (m : ℕ) where
  pub bilinear-rgb-taken : (f : Wholes) → BilinearRgb kind w h n s u v m f → bilinear_rgb_refusal kind w h n s u v m f ≡ 0
  unfolding bilinear_rgb_refusal
  bilinear-rgb-taken f b =
      or_else-taken _ _ (chain-taken kind w h n b.chained) (or_else-taken _ _ (faces-taken kind f b.faces) (blended-taken w h s u v m b.blended))

  pub bilinear-rgb-facts : (f : Wholes) → bilinear_rgb_refusal kind w h n s u v m f ≡ 0 → BilinearRgb kind w h n s u v m f
  unfolding bilinear_rgb_refusal
  bilinear-rgb-facts f e =
      let a = or_else-none (chain_refusal kind w h n) _ e in
      let b = or_else-none (faces_refusal kind f) _ a.1 in
      record { chained = chain-facts kind w h n a.0; faces = faces-facts kind f b.0; blended = blended-facts w h s u v m b.1 }

  pub bilinear-alpha-taken : BilinearAlpha kind w h n s u v m → bilinear_alpha_refusal kind w h n s u v m ≡ 0
  unfolding bilinear_alpha_refusal
  bilinear-alpha-taken b =
      or_else-taken _ _ (chain-taken kind w h n b.chained) (or_else-taken _ _ (flat-taken kind b.flat) (blended-taken w h s u v m b.blended))

  pub bilinear-alpha-facts : bilinear_alpha_refusal kind w h n s u v m ≡ 0 → BilinearAlpha kind w h n s u v m
  unfolding bilinear_alpha_refusal
  bilinear-alpha-facts e =
      let a = or_else-none (chain_refusal kind w h n) _ e in
      let b = or_else-none (no_cubemap_refusal kind) _ a.1 in
      record { chained = chain-facts kind w h n a.0; flat = flat-facts kind b.0; blended = blended-facts w h s u v m b.1 }

-- ---- 1, 2, 3, 8, 7, and 5 of fractional levels: the cubemap lookups

pub record Cubed (kind w h n : ℕ) (normals : Directions) : Type 0 where
  pub chained : Chained kind w h n
  pub cube : kind ≡ cubemap
  pub directions : EachDirection direction_taken normals

module _ (kind w h n : ℕ) (normals : Directions) where
  pub cubemap-taken : Cubed kind w h n normals → cubemap_refusal kind w h n normals ≡ 0
  unfolding cubemap_refusal
  cubemap-taken c =
      or_else-taken _ _ (chain-taken kind w h n c.chained) (or_else-taken _ _ (cube-taken kind c.cube) (directions-taken normals c.directions))

  pub cubemap-facts : cubemap_refusal kind w h n normals ≡ 0 → Cubed kind w h n normals
  unfolding cubemap_refusal
  cubemap-facts e =
      let a = or_else-none (chain_refusal kind w h n) _ e in
      let b = or_else-none (only_cubemap_refusal kind) _ a.1 in
      record { chained = chain-facts kind w h n a.0; cube = cube-facts kind b.0; directions = directions-facts normals b.1 }

  pub trilinear-taken : (levels : Lanes) → Cubed kind w h n normals → EachLane finite levels → trilinear_refusal kind w h n normals levels ≡ 0
  unfolding trilinear_refusal
  trilinear-taken levels c f = or_else-taken _ _ (cubemap-taken c) (finite-taken levels f)

  pub trilinear-facts : (levels : Lanes) → trilinear_refusal kind w h n normals levels ≡ 0 → (Cubed kind w h n normals) × (EachLane finite levels)
  unfolding trilinear_refusal
  trilinear-facts levels e =
      let a = or_else-none (cubemap_refusal kind w h n normals) _ e in
      (cubemap-facts a.0, finite-facts levels a.1)
