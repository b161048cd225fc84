-- Truncating is what stood before there were packing modes. The pack is the f32 product's whole part; and the chain call with code 0 is
-- refused, answers and leaves as it did, since 15 is never given there. Assumes nothing.
use Rattle.std.specs.Prelude.{Ok}
use Rattle.rules.specs.Answers.{refused}
use mathlib.Core.Path.{◌≡◌, refl}
use mathlib.Core.List.{List}
use Prim.Native.Nat.{ℕ}
use lib.ListN.{length}
use lib.Ieee.{Float, binary32, mul, to_unsigned}
use Rattle.rules.specs.declared.Packing.TheVariants.{Truncating}
use Rattle.rules.specs.Kinds.{faces_of}
use Rattle.rules.specs.Sizes.{count}
use Rattle.rules.specs.Floats.{top32}
use Rattle.rules.specs.Packing.{packing_code, pack_of}
use Rattle.rules.specs.Pictures.{filled_of}
use Rattle.rules.specs.Refusals.{chain_refusal, mipmaps_refusal, mode_refusal}
use Rattle.rules.specs.Answers.{answer, leaves, chain_answer, chain_leaves}
use Rattle.rules.proofs.Refusing.{or_else-last}

-- value * 255.0, truncated
pub truncating : (x : Float) → pack_of Truncating x ≡ to_unsigned 64 (mul binary32 x top32)
unfolding pack_of
truncating x = refl

module _ (kind w h : ℕ) (l : List ℕ) where
  pub refusal-0 : mipmaps_refusal kind w h 0 (length l) ≡ chain_refusal kind w h (length l)
  unfolding mipmaps_refusal mode_refusal packing_code
  refusal-0 = or_else-last (chain_refusal kind w h (length l))

  pub answer-0 : chain_answer kind w h 0 l ≡ answer (chain_refusal kind w h (length l)) refused (Ok (count (faces_of kind) w h))
  unfolding chain_answer
  answer-0 = rw refusal-0

  pub leaves-0 : chain_leaves kind w h 0 l ≡ leaves (chain_refusal kind w h (length l)) l (filled_of kind Truncating w h l)
  unfolding chain_leaves packing_code
  leaves-0 = rw refusal-0
