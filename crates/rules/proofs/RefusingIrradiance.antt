-- What the refusal number of irradiance_sh4 says: 0 exactly when the facts hold, and else the first number that is given. Assumes nothing.
use Rattle.std.specs.Prelude.{Ok}
use Rattle.rules.specs.Answers.{refused}
use mathlib.Core.Path.{◌≡◌, sym, ap, ◌∙◌}
use mathlib.Core.List.{List}
use Prim.Native.Nat.{ℕ, ◌*◌, ◌≤◌, ◌<◌}
use native.Mathlib.Nat.{mul_assoc, one-mul}
use native.Mathlib.Omega.{arith}
use lib.ListN.{length}
use Rattle.rules.specs.Kinds.{cubemap, faces_of}
use Rattle.rules.specs.Irradiance.{Sh4, irradiance_of}
use Rattle.rules.specs.Refusals.{buffer_refusal, only_cubemap_refusal, picture_refusal, irradiance_refusal}
use Rattle.rules.specs.Answers.{irradiance_answer}
use Rattle.rules.proofs.Refusing.{Sides, sides-of, picture-facts, answer-given, answer-refused, or_else-zero, or_else-given, or_else-none, buffer-taken, buffer_facts, buffer-refused, cube-facts}
use Rattle.rules.proofs.Bounds.{faces-cube, faces-flat}

-- level 0 of a cubemap lies within n texels
pub record Cubed (w h n : ℕ) : Type 0 where
  pub sides : Sides w h
  pub room : 6 * h * w ≤ n

-- the texels of level 0: six faces for a cubemap, one for another kind
module _ (kind w h : ℕ) where
  pub level0-cube : kind ≡ cubemap → faces_of kind * h * w ≡ 6 * (h * w)
  level0-cube e = ap (λ (f : ℕ). f * h * w) (faces-cube kind e) ∙ mul_assoc 6 h w

  pub level0-flat : (kind ≡ cubemap → ⊥) → faces_of kind * h * w ≡ h * w
  level0-flat other = ap (λ (f : ℕ). f * h * w) (faces-flat kind other) ∙ ap (λ (n : ℕ). n * w) (one-mul h)

module _ (kind w h n : ℕ) where
  pub light-facts : irradiance_refusal kind w h n ≡ 0 → Cubed w h n
  unfolding irradiance_refusal
  light-facts e =
      let a = or_else-none (picture_refusal kind w h) _ e in
      let b = or_else-none (buffer_refusal (faces_of kind * h * w) n) _ a.1 in
      record {
        sides = sides-of (picture-facts kind w h a.0);
        room = rw (faces-cube kind (cube-facts kind b.1)) at (buffer_facts _ n b.0);
      }

  -- the picture's own number; 3 of a picture that is taken; 8 where level 0 lies within n texels
  pub light-picture : (picture_refusal kind w h ≡ 0 → ⊥) → irradiance_refusal kind w h n ≡ picture_refusal kind w h
  unfolding irradiance_refusal
  light-picture given = or_else-given _ _ given

  pub light-short : picture_refusal kind w h ≡ 0 → n < faces_of kind * h * w → irradiance_refusal kind w h n ≡ 3
  unfolding irradiance_refusal
  light-short none short =
      let e = buffer-refused (faces_of kind * h * w) n short in
      or_else-zero _ _ none ∙ or_else-given _ _ (λ z. omega arith) ∙ e

  pub light-kind : picture_refusal kind w h ≡ 0 → faces_of kind * h * w ≤ n → irradiance_refusal kind w h n ≡ only_cubemap_refusal kind
  unfolding irradiance_refusal
  light-kind none room = or_else-zero _ _ none ∙ or_else-zero _ _ (buffer-taken _ n room)

-- the answer: the number where the call refuses, and else the coefficients
module _ (kind w h : ℕ) (l : List ℕ) where
  pub light-stops : (n : ℕ) → n ≡ irradiance_refusal kind w h (length l) → (n ≡ 0 → ⊥) → refused n ≡ irradiance_answer kind w h l
  unfolding irradiance_answer
  light-stops n e some = ap refused e ∙ sym (answer-refused _ _ _ (λ z. some (e ∙ z)))

  pub light-goes : (s : Sh4) → irradiance_refusal kind w h (length l) ≡ 0 → s ≡ irradiance_of w h l → Ok s ≡ irradiance_answer kind w h l
  unfolding irradiance_answer
  light-goes s none e = ap Ok e ∙ sym (answer-given _ _ _ none)
