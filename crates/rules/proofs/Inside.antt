-- Every place that a lookup by coordinates reads lies inside its level, and inside the lent chain. A number that is wrapped into a side lies in
-- it, whatever the number; a face that is taken is one of the level's; face, row and column are the digits of the place, each below its own
-- bound; and a level ends inside the chain. Assumes nothing.
use mathlib.Core.Path.{◌≡◌}
use mathlib.Core.Bool.{Bool, true, false, cond}
use Prim.Native.Nat.{ℕ, zero, suc, ◌+◌, ◌*◌, ◌^◌, ◌≤◌, ◌<◌}
use native.Mathlib.Nat.{mod-lt}
use native.Mathlib.Omega.{arith}
use lib.Arith.{digits_lt}
use lib.IntN.{ℤ, pos, negsuc}
use lib.Ieee.{Float, le}
use Rattle.rules.specs.Lanes.{Lanes}
use Rattle.rules.specs.Lanes.{Wholes}
use Rattle.rules.specs.declared.Sampler.{Sampler}
use Rattle.rules.specs.declared.Mode.{Mode}
use Rattle.rules.specs.declared.Mode.TheVariants.{Repeat, Clamp, Mirror}
use Rattle.rules.specs.declared.Plane.{Plane}
use Rattle.rules.specs.Kinds.{faces_of}
use Rattle.rules.specs.Sizes.{top, size_at}
use Rattle.rules.specs.Floats.{float}
use Rattle.rules.specs.Wrapping.{remainder_of, held_of, mirrored_of, wrap_of, mode_of}
use Rattle.rules.specs.Footprint.{footprint_of, four_of, mip_level_of}
use Rattle.rules.specs.Places.{plane_of, place_of, InLevel, nearest_of}
use Rattle.rules.specs.Bilinear.{span_of, axis_of}
use Rattle.rules.specs.Refusals.{face_taken, sample4_refusal, bilinear_rgb_refusal, bilinear_alpha_refusal}
use Rattle.rules.proofs.Sides.{side-pos}
use Rattle.rules.proofs.Bounds.{faces-some, level-end}
use Rattle.rules.proofs.Refusing.{Chained}
use Rattle.rules.proofs.RefusingLookups.{face-below, sample4-facts, bilinear-rgb-facts, bilinear-alpha-facts}

-- ---- a wrapped number lies in its side
pub remainder-lt : (t : ℤ) (d : ℕ) → 1 ≤ d → remainder_of t d < d
unfolding remainder_of
remainder-lt (pos a) d h = mod-lt a h
remainder-lt (negsuc a) d h = omega arith

pub wrap-lt : (mode : Mode) (t : ℤ) (d : ℕ) → 1 ≤ d → wrap_of mode t d < d
unfolding wrap_of held_of mirrored_of
wrap-lt Repeat t d h = remainder-lt t d h
wrap-lt Clamp (pos n) d h = omega arith
wrap-lt Clamp (negsuc n) d h = h
wrap-lt Mirror t d h = omega arith

-- so a place whose texel numbers are wrapped lies inside its level
pub wrapped-in : (p : Plane) (f : ℕ) (s t : Mode) (i j : ℤ) → f < p.faces → 1 ≤ p.width → 1 ≤ p.height → InLevel p f (wrap_of s i p.width) (wrap_of t j p.height)
wrapped-in p f s t i j face w h = record { face = face; across = wrap-lt s i p.width w; down = wrap-lt t j p.height h }

-- ---- a place inside its level comes before the level's end, and so it is one of the chain's
pub place-lt : {p : Plane} (f x y : ℕ) → InLevel p f x y → place_of p f x y < p.start + p.faces * p.height * p.width
unfolding place_of
place-lt f x y i = omega (arith, digits_lt (digits_lt i.face i.down) i.across)

-- texel (x, y) of face f may be read: it lies inside its level, and its place inside the n texels that are lent
pub record Reads (p : Plane) (n f x y : ℕ) : Type 0 where
  pub inside : InLevel p f x y
  pub lent : place_of p f x y < n

-- the texel of a nearest lookup, and the four of a bilinear one
abbrev pub NearestReads : Plane → ℕ → Mode → Mode → Float → Float → Type 0
NearestReads p n s t u v = Reads p n 0 (wrap_of s (nearest_of u p.width) p.width) (wrap_of t (nearest_of v p.height) p.height)

abbrev pub CornersRead : Plane → ℕ → Mode → Mode → ℕ → Float → Float → Type 0
CornersRead p n s t f u v =
    let x = axis_of s (span_of u p.width) p.width in
    let y = axis_of t (span_of v p.height) p.height in
    Reads p n f x.first y.first × Reads p n f x.second y.first × Reads p n f x.first y.second × Reads p n f x.second y.second

module _ {kind w h n : ℕ} (m : ℕ) (c : Chained kind w h n) (below : m ≤ top w h) where
  level-lt : {k : ℕ} → let p = plane_of kind w h m in k < p.start + p.faces * p.height * p.width → k < n
  unfolding plane_of size_at
  level-lt l = omega (arith, level-end (faces_of kind) w h m below, c.room)

  pub reads : (f x y : ℕ) → InLevel (plane_of kind w h m) f x y → Reads (plane_of kind w h m) n f x y
  reads f x y i = record { inside = i; lent = level-lt (place-lt f x y i) }

  -- by coordinates: on every face that is taken, by every mode, whatever the texel numbers
  wrapped-reads : (f : ℕ) → f < faces_of kind → (s t : Mode) (i j : ℤ) → let p = plane_of kind w h m in Reads p n f (wrap_of s i p.width) (wrap_of t j p.height)
  unfolding plane_of
  wrapped-reads f face s t i j = reads f _ _ (wrapped-in (plane_of kind w h m) f s t i j face (side-pos m w) (side-pos m h))

  pub nearest-reads : (s t : Mode) (u v : Float) → NearestReads (plane_of kind w h m) n s t u v
  nearest-reads s t u v = wrapped-reads 0 (faces-some kind) s t _ _

  pub corners-read : (s t : Mode) (f : ℕ) → f < faces_of kind → (u v : Float) → CornersRead (plane_of kind w h m) n s t f u v
  unfolding axis_of
  corners-read s t f face u v = (wrapped-reads f face s t _ _, wrapped-reads f face s t _ _, wrapped-reads f face s t _ _, wrapped-reads f face s t _ _)

-- ---- the level that steps ask for is one of the picture's
four-most : (n : ℕ) (f : Float) → four_of n f ≤ n
unfolding four_of
four-most zero f = omega arith
four-most (suc n) f = either (le (float (4 ^ suc n)) f) (four-most n f)
  where
    either : (fits : Bool) {k : ℕ} → k ≤ n → cond fits (suc n) k ≤ suc n
    either true le = omega arith
    either false le = omega arith

pub mip-below : (w h : ℕ) (steps : Lanes) → mip_level_of w h steps ≤ top w h
unfolding mip_level_of
mip-below w h steps = four-most (top w h) (footprint_of w h steps)

-- ---- the calls: where nothing is refused, every texel that a lane reads lies inside its level and inside the n texels that are lent
module _ (kind w h n : ℕ) (sampler : Sampler) (u v : Lanes) where
  abbrev nearest : ℕ → Float → Float → Type 0
  nearest m = NearestReads (plane_of kind w h m) n (mode_of sampler.wrap_s) (mode_of sampler.wrap_t)

  abbrev corners : ℕ → ℕ → Float → Float → Type 0
  corners m = CornersRead (plane_of kind w h m) n (mode_of sampler.wrap_s) (mode_of sampler.wrap_t)

  pub sample4-reads : (steps : Lanes) → sample4_refusal kind w h n sampler u v steps ≡ 0
      → let at = nearest (mip_level_of w h steps) in at u.a v.a × at u.b v.b × at u.c v.c × at u.d v.d
  sample4-reads steps e =
      let at = nearest-reads (mip_level_of w h steps) (sample4-facts kind w h n sampler u v steps e).chained (mip-below w h steps) _ _ in
      (at u.a v.a, at u.b v.b, at u.c v.c, at u.d v.d)

  pub bilinear-rgb-reads : (m : ℕ) (f : Wholes) → bilinear_rgb_refusal kind w h n sampler u v m f ≡ 0
      → let at = corners m in at f.a u.a v.a × at f.b u.b v.b × at f.c u.c v.c × at f.d u.d v.d
  bilinear-rgb-reads m f e =
      let k = bilinear-rgb-facts kind w h n sampler u v m f e in
      let at : (i : ℕ) → face_taken kind i ≡ true → (a b : Float) → corners m i a b = λ i h. corners-read m k.chained k.blended.below _ _ i (face-below kind i h) in
      (at f.a k.faces.a u.a v.a, at f.b k.faces.b u.b v.b, at f.c k.faces.c u.c v.c, at f.d k.faces.d u.d v.d)

  pub bilinear-alpha-reads : (m : ℕ) → bilinear_alpha_refusal kind w h n sampler u v m ≡ 0
      → let at = corners m 0 in at u.a v.a × at u.b v.b × at u.c v.c × at u.d v.d
  bilinear-alpha-reads m e =
      let k = bilinear-alpha-facts kind w h n sampler u v m e in
      let at : (a b : Float) → corners m 0 a b = corners-read m k.chained k.blended.below _ _ 0 (faces-some kind) in
      (at u.a v.a, at u.b v.b, at u.c v.c, at u.d v.d)
