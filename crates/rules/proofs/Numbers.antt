-- The number that an answer gives is the call's refusal number: each is one of document 01's, so the refusal that stands for it has it.
-- Assumes nothing.
use mathlib.Core.Path.{◌≡◌, refl, sym, ap, ◌∙◌}
use mathlib.Core.Bool.{Bool, true, false}
use mathlib.Core.Logic.{⊎_elim}
use Prim.Native.Nat.{ℕ, ◌*◌}
use Rattle.std.specs.Prelude.{Result, Ok, Err}
use Rattle.rules.specs.declared.Refusal.{Refusal}
use Rattle.rules.specs.declared.Refusal.TheVariants.{UnknownKind, SideOutside, ShortBuffer, UnknownWrap, NumberOutside, LevelAbove, DirectionOutside, KindNotTaken, CrossOutside, CutOutside, NotTheFile, PlaceOutside, UnknownPacking}
use Rattle.rules.specs.Refusals.{◌or_else◌, unless, number_of, number_in, refusal_of, kind_refusal, sides_refusal, buffer_refusal, wrap_refusal, sampler_refusal, coordinates_refusal, finite_refusal, level_refusal, directions_refusal, no_cubemap_refusal, only_cubemap_refusal, face_refusal, faces_refusal, cross_sides_refusal, cut_refusal, outside_refusal, mode_refusal, picture_refusal, chain_refusal, mipmaps_refusal, check_level_refusal, level_sizes_refusal, view_refusal, cut_call_refusal, cross_refusal, mip_level_refusal, sample4_refusal, bilinear_rgb_refusal, bilinear_alpha_refusal, cubemap_refusal, trilinear_refusal, ranges_refusal, replace_refusal, irradiance_refusal}
use Rattle.rules.specs.declared.Sampler.{Sampler}
use Rattle.rules.specs.declared.Pair.{Pair}
use Rattle.rules.specs.Kinds.{faces_of}
use Rattle.rules.specs.Sizes.{count}
use Rattle.rules.specs.Cross.{cross_width, cross_height}
use Rattle.rules.specs.Ranges.{ranges_size}
use Rattle.rules.specs.Lanes.{Lanes, Wholes, Directions}
use Rattle.rules.specs.Wrapping.{wrap_code}
use Rattle.rules.specs.Packing.{packing_code}
use Rattle.rules.specs.Answers.{answer, refused, told}
use Rattle.rules.proofs.Answering.{number-some}
use Rattle.rules.proofs.Refusing.{answer-given, answer-refused, none_or_some, or_else-zero, or_else-given}

-- 0, or a number that a refusal has
pub record Known (n : ℕ) : Type 0 where
  pub is : (n ≡ 0 → ⊥) → number_of (refusal_of n) ≡ n

pub known-answer : {A : Type 0} (n : ℕ) (a : A) → Known n → number_in (answer n refused (Ok a)) ≡ n
known-answer n a k =
    ⊎_elim
    (λ none. ap number_in (answer-given n refused (Ok a) none) ∙ sym none)
    (λ some. ap number_in (answer-refused n refused (Ok a) some) ∙ k.is some)
    (none_or_some n)

pub known-or : (n m : ℕ) → Known n → Known m → Known (n or_else m)
known-or n m k l =
    ⊎_elim
    (λ none. rw (or_else-zero n m none) l)
    (λ some. rw (or_else-given n m some) k)
    (none_or_some n)

pub known-unless : (test : Bool) (n : ℕ) → Known n → Known (unless test n)
known-unless true n k = record { is = λ some. absurd (some refl) }
known-unless false n k = k

-- each refusal's own number stands for it
pub refusal-numbered : (refusal : Refusal) → refusal_of (number_of refusal) ≡ refusal
unfolding refusal_of
refusal-numbered UnknownKind = refl
refusal-numbered SideOutside = refl
refusal-numbered ShortBuffer = refl
refusal-numbered UnknownWrap = refl
refusal-numbered NumberOutside = refl
refusal-numbered LevelAbove = refl
refusal-numbered DirectionOutside = refl
refusal-numbered KindNotTaken = refl
refusal-numbered CrossOutside = refl
refusal-numbered CutOutside = refl
refusal-numbered NotTheFile = refl
refusal-numbered PlaceOutside = refl
refusal-numbered UnknownPacking = refl

pub known-number : (refusal : Refusal) → Known (number_of refusal)
known-number refusal = record { is = λ some. ap number_of (refusal-numbered refusal) }

-- a test that holds, and one that fails
pub told_given : (n : ℕ) → n ≡ 0 → Ok tt ≡ told n
told_given n none = sym (answer-given n refused (Ok tt) none)

pub told_refused : (n : ℕ) (refusal : Refusal) → n ≡ number_of refusal → Err refusal ≡ told n
told_refused n refusal e =
    ap Err (sym (refusal-numbered refusal) ∙ ap refusal_of (sym e))
    ∙ sym (answer-refused n refused (Ok tt) (λ none. number-some refusal (sym e ∙ none)))

pub known-in : {A : Type 0} (found : Result A Refusal) → Known (number_in found)
known-in (Ok given) = record { is = λ some. absurd (some refl) }
known-in (Err refusal) = known-number refusal

-- ---- each number, and each call's

pub known-kind : (kind : ℕ) → Known (kind_refusal kind)
unfolding kind_refusal
known-kind kind = known-unless _ 1 (known-number UnknownKind)

pub known-sides : (w : ℕ) → (h : ℕ) → Known (sides_refusal w h)
unfolding sides_refusal
known-sides w h = known-unless _ 2 (known-number SideOutside)

pub known-buffer : (needed : ℕ) → (n : ℕ) → Known (buffer_refusal needed n)
unfolding buffer_refusal
known-buffer needed n = known-unless _ 3 (known-number ShortBuffer)

pub known-wrap : (code : ℕ) → Known (wrap_refusal code)
unfolding wrap_refusal
known-wrap code = known-in (wrap_code code)

pub known-sampler : (s : Sampler) → Known (sampler_refusal s)
unfolding sampler_refusal
known-sampler s = known-or _ _ (known-wrap s.wrap_s) (known-wrap s.wrap_t)

pub known-coordinates : (u : Lanes) → (v : Lanes) → Known (coordinates_refusal u v)
unfolding coordinates_refusal
known-coordinates u v = known-unless _ 5 (known-number NumberOutside)

pub known-finite : (l : Lanes) → Known (finite_refusal l)
unfolding finite_refusal
known-finite l = known-unless _ 5 (known-number NumberOutside)

pub known-level : (w : ℕ) → (h : ℕ) → (m : ℕ) → Known (level_refusal w h m)
unfolding level_refusal
known-level w h m = known-unless _ 6 (known-number LevelAbove)

pub known-directions : (n : Directions) → Known (directions_refusal n)
unfolding directions_refusal
known-directions n = known-unless _ 7 (known-number DirectionOutside)

pub known-no-cubemap : (kind : ℕ) → Known (no_cubemap_refusal kind)
unfolding no_cubemap_refusal
known-no-cubemap kind = known-unless _ 8 (known-number KindNotTaken)

pub known-only-cubemap : (kind : ℕ) → Known (only_cubemap_refusal kind)
unfolding only_cubemap_refusal
known-only-cubemap kind = known-unless _ 8 (known-number KindNotTaken)

pub known-face : (kind : ℕ) → (f : ℕ) → Known (face_refusal kind f)
unfolding face_refusal
known-face kind f = known-unless _ 8 (known-number KindNotTaken)

pub known-faces : (kind : ℕ) → (faces : Wholes) → Known (faces_refusal kind faces)
unfolding faces_refusal
known-faces kind faces = known-unless _ 8 (known-number KindNotTaken)

pub known-cross-sides : (w : ℕ) → (h : ℕ) → Known (cross_sides_refusal w h)
unfolding cross_sides_refusal
known-cross-sides w h = known-unless _ 10 (known-number CrossOutside)

pub known-cut : (k : ℕ) → (w : ℕ) → (h : ℕ) → (corner : Pair) → (sides : Pair) → Known (cut_refusal k w h corner sides)
unfolding cut_refusal
known-cut k w h corner sides = known-unless _ 11 (known-number CutOutside)

pub known-outside : (w : ℕ) → (h : ℕ) → (x : ℕ) → (y : ℕ) → Known (outside_refusal w h x y)
unfolding outside_refusal
known-outside w h x y = known-unless _ 14 (known-number PlaceOutside)

pub known-mode : (mode : ℕ) → Known (mode_refusal mode)
unfolding mode_refusal
known-mode mode = known-in (packing_code mode)

pub known-picture : (kind : ℕ) → (w : ℕ) → (h : ℕ) → Known (picture_refusal kind w h)
unfolding picture_refusal
known-picture kind w h = known-or _ _ (known-kind kind) (known-sides w h)

pub known-chain : (kind : ℕ) → (w : ℕ) → (h : ℕ) → (n : ℕ) → Known (chain_refusal kind w h n)
unfolding chain_refusal
known-chain kind w h n = known-or _ _ (known-picture kind w h) (known-buffer (count (faces_of kind) w h) n)

pub known-mipmaps : (kind : ℕ) → (w : ℕ) → (h : ℕ) → (mode : ℕ) → (n : ℕ) → Known (mipmaps_refusal kind w h mode n)
unfolding mipmaps_refusal
known-mipmaps kind w h mode n = known-or _ _ (known-chain kind w h n) (known-mode mode)

pub known-check-level : (kind : ℕ) → (w : ℕ) → (h : ℕ) → (mode : ℕ) → (n : ℕ) → (m : ℕ) → Known (check_level_refusal kind w h mode n m)
unfolding check_level_refusal
known-check-level kind w h mode n m = known-or _ _ (known-mipmaps kind w h mode n) (known-level w h m)

pub known-level-sizes : (kind : ℕ) → (w : ℕ) → (h : ℕ) → (m : ℕ) → Known (level_sizes_refusal kind w h m)
unfolding level_sizes_refusal
known-level-sizes kind w h m = known-or _ _ (known-picture kind w h) (known-level w h m)

pub known-view : (kind : ℕ) → (w : ℕ) → (h : ℕ) → (n : ℕ) → (m : ℕ) → (f : ℕ) → Known (view_refusal kind w h n m f)
unfolding view_refusal
known-view kind w h n m f = known-or _ _ (known-chain kind w h n) (known-or _ _ (known-face kind f) (known-level w h m))

pub known-cut-call : (kind : ℕ) → (w : ℕ) → (h : ℕ) → (source : ℕ) → (k : ℕ) → (corner : Pair) → (sides : Pair) → (target : ℕ) → Known (cut_call_refusal kind w h source k corner sides target)
unfolding cut_call_refusal
known-cut-call kind w h source k corner sides target = known-or _ _ (known-picture kind w h) (known-or _ _ (known-buffer (faces_of kind * h * w) source) (known-or _ _ (known-no-cubemap kind) (known-or _ _ (known-cut k w h corner sides) (known-buffer (sides.y * sides.x) target))))

pub known-cross : (w : ℕ) → (h : ℕ) → (bytes : ℕ) → (faces : ℕ) → Known (cross_refusal w h bytes faces)
unfolding cross_refusal
known-cross w h bytes faces = known-or _ _ (known-cross-sides w h) (known-or _ _ (known-buffer (h * w * 4) bytes) (known-buffer (6 * cross_height h * cross_width w) faces))

pub known-mip-level : (w : ℕ) → (h : ℕ) → (steps : Lanes) → Known (mip_level_refusal w h steps)
unfolding mip_level_refusal
known-mip-level w h steps = known-or _ _ (known-sides w h) (known-finite steps)

pub known-sample4 : (kind : ℕ) → (w : ℕ) → (h : ℕ) → (n : ℕ) → (s : Sampler) → (u : Lanes) → (v : Lanes) → (steps : Lanes) → Known (sample4_refusal kind w h n s u v steps)
unfolding sample4_refusal
known-sample4 kind w h n s u v steps = known-or _ _ (known-chain kind w h n) (known-or _ _ (known-no-cubemap kind) (known-or _ _ (known-sampler s) (known-or _ _ (known-coordinates u v) (known-finite steps))))

pub known-bilinear-rgb : (kind : ℕ) → (w : ℕ) → (h : ℕ) → (n : ℕ) → (s : Sampler) → (u : Lanes) → (v : Lanes) → (m : ℕ) → (faces : Wholes) → Known (bilinear_rgb_refusal kind w h n s u v m faces)
unfolding bilinear_rgb_refusal
known-bilinear-rgb kind w h n s u v m faces = known-or _ _ (known-chain kind w h n) (known-or _ _ (known-faces kind faces) (known-or _ _ (known-sampler s) (known-or _ _ (known-level w h m) (known-coordinates u v))))

pub known-bilinear-alpha : (kind : ℕ) → (w : ℕ) → (h : ℕ) → (n : ℕ) → (s : Sampler) → (u : Lanes) → (v : Lanes) → (m : ℕ) → Known (bilinear_alpha_refusal kind w h n s u v m)
unfolding bilinear_alpha_refusal
known-bilinear-alpha kind w h n s u v m = known-or _ _ (known-chain kind w h n) (known-or _ _ (known-no-cubemap kind) (known-or _ _ (known-sampler s) (known-or _ _ (known-level w h m) (known-coordinates u v))))

pub known-cubemap : (kind : ℕ) → (w : ℕ) → (h : ℕ) → (n : ℕ) → (normals : Directions) → Known (cubemap_refusal kind w h n normals)
unfolding cubemap_refusal
known-cubemap kind w h n normals = known-or _ _ (known-chain kind w h n) (known-or _ _ (known-only-cubemap kind) (known-directions normals))

pub known-trilinear : (kind : ℕ) → (w : ℕ) → (h : ℕ) → (n : ℕ) → (normals : Directions) → (levels : Lanes) → Known (trilinear_refusal kind w h n normals levels)
unfolding trilinear_refusal
known-trilinear kind w h n normals levels = known-or _ _ (known-cubemap kind w h n normals) (known-finite levels)

pub known-ranges : (kind : ℕ) → (w : ℕ) → (h : ℕ) → (texels : ℕ) → (ranges : ℕ) → Known (ranges_refusal kind w h texels ranges)
unfolding ranges_refusal
known-ranges kind w h texels ranges = known-or _ _ (known-picture kind w h) (known-or _ _ (known-buffer (faces_of kind * h * w) texels) (known-or _ _ (known-buffer (ranges_size w h) ranges) (known-no-cubemap kind)))

pub known-replace : (kind : ℕ) → (w : ℕ) → (h : ℕ) → (texels : ℕ) → (ranges : ℕ) → (x : ℕ) → (y : ℕ) → Known (replace_refusal kind w h texels ranges x y)
unfolding replace_refusal
known-replace kind w h texels ranges x y = known-or _ _ (known-ranges kind w h texels ranges) (known-outside w h x y)

pub known-irradiance : (kind : ℕ) → (w : ℕ) → (h : ℕ) → (n : ℕ) → Known (irradiance_refusal kind w h n)
unfolding irradiance_refusal
known-irradiance kind w h n = known-or _ _ (known-picture kind w h) (known-or _ _ (known-buffer (faces_of kind * h * w) n) (known-only-cubemap kind))
