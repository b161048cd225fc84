-- The refusals of check_level: those of the chain call, and then its level. Assumes nothing.
use mathlib.Core.Path.{◌≡◌, ◌∙◌}
use Prim.Native.Nat.{ℕ, ◌≤◌, ◌<◌}
use Rattle.rules.specs.Sizes.{top}
use Rattle.rules.specs.Refusals.{level_refusal, mipmaps_refusal, check_level_refusal}
use Rattle.rules.proofs.Refusing.{or_else-zero, or_else-given, or_else-taken, or_else-none, level-taken, level-facts, level-refused, Mipmapped, mipmaps-taken, mipmaps-facts}

-- ---- 1, 2, 3, 15, 6

pub record Judging (kind w h mode n m : ℕ) : Type 0 where
  pub mipmapped : Mipmapped kind w h mode n
  pub below : m ≤ top w h

module _ (kind w h mode n m : ℕ) where
  pub check-taken : Judging kind w h mode n m → check_level_refusal kind w h mode n m ≡ 0
  unfolding check_level_refusal
  check-taken j = or_else-taken _ _ (mipmaps-taken kind w h mode n j.mipmapped) (level-taken w h m j.below)

  pub check-facts : check_level_refusal kind w h mode n m ≡ 0 → Judging kind w h mode n m
  unfolding check_level_refusal
  check-facts e =
      let b = or_else-none (mipmaps_refusal kind w h mode n) (level_refusal w h m) e in
      record { mipmapped = mipmaps-facts kind w h mode n b.0; below = level-facts w h m b.1 }

  -- the chain call's own number, and 6 of a chain that is taken
  pub check-mipmaps : (mipmaps_refusal kind w h mode n ≡ 0 → ⊥) → check_level_refusal kind w h mode n m ≡ mipmaps_refusal kind w h mode n
  unfolding check_level_refusal
  check-mipmaps given = or_else-given _ _ given

  pub check-level : mipmaps_refusal kind w h mode n ≡ 0 → check_level_refusal kind w h mode n m ≡ level_refusal w h m
  unfolding check_level_refusal
  check-level none = or_else-zero _ _ none

  pub check-above : Mipmapped kind w h mode n → top w h < m → check_level_refusal kind w h mode n m ≡ 6
  check-above c above = check-level (mipmaps-taken kind w h mode n c) ∙ level-refused w h m above
