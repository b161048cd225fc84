-- In nearest mode no channel of a reduced texel lies outside the least and the greatest of its four, of every kind. Channel by channel it is the law of
-- its rule, and red and alpha of MetallicRoughness are p00's. Assumes nothing.
use mathlib.Core.Path.{◌≡◌, refl}
use Prim.Native.Nat.{ℕ, zero, suc, ◌<◌}
use native.Mathlib.Omega.{arith}
use Rattle.rules.specs.declared.Packing.TheVariants.{Nearest}
use Rattle.rules.specs.Kinds.{red_of, green_of, blue_of, alpha_of, rgba}
use Rattle.rules.specs.Reducing.{each_of, mean_byte, normal_byte, linear_of, normal_of, metallic_of, srgb_of, reduce_of}
use Rattle.texel.proofs.Amid.{Amid, mean-amid, normal-amid, rough-amid, srgb-amid}
use Rattle.kinds.specs.declared.channel.Quad.{Quad}
use Rattle.kinds.proofs.Halves.{Words, red-byte, low_byte}
use Rattle.kinds.proofs.Codes.{of-srgb, of-normal, of-metallic, of-linear}

-- one channel of t lies between those of four texels
abbrev pub AmidIn : (ℕ → ℕ) → Quad ℕ → ℕ → Type 0
AmidIn channel q t = Amid (channel q.p00) (channel q.p10) (channel q.p01) (channel q.p11) (channel t)

pub record AmidTexel (q : Quad ℕ) (t : ℕ) : Type 0 where
  pub red : AmidIn red_of q t
  pub green : AmidIn green_of q t
  pub blue : AmidIn blue_of q t
  pub alpha : AmidIn alpha_of q t

-- what lies between four bytes is a byte
amid-lt : {a b c d v : ℕ} → a < 256 → b < 256 → c < 256 → d < 256 → Amid a b c d v → v < 256
amid-lt A B C D m = let g = m.greatest in omega arith

-- the channels of a texel that is made of four bytes
made : (q : Quad ℕ) (r g b a : ℕ) → Words q
    → Amid (red_of q.p00) (red_of q.p10) (red_of q.p01) (red_of q.p11) r
    → Amid (green_of q.p00) (green_of q.p10) (green_of q.p01) (green_of q.p11) g
    → Amid (blue_of q.p00) (blue_of q.p10) (blue_of q.p01) (blue_of q.p11) b
    → Amid (alpha_of q.p00) (alpha_of q.p10) (alpha_of q.p01) (alpha_of q.p11) a
    → AmidTexel q (rgba r g b a)
made q r g b a w R G B A =
    let k = channels r g b a (amid-lt (red-byte _ w.first) (red-byte _ w.second) (red-byte _ w.third) (red-byte _ w.fourth) R)
    (amid-lt (low_byte _) (low_byte _) (low_byte _) (low_byte _) G)
    (amid-lt (low_byte _) (low_byte _) (low_byte _) (low_byte _) B)
    (amid-lt (low_byte _) (low_byte _) (low_byte _) (low_byte _) A) in
    record { red = rw k.0 R; green = rw k.1 G; blue = rw k.2 B; alpha = rw k.3 A }
  where
    channels : (r g b a : ℕ) → r < 256 → g < 256 → b < 256 → a < 256 → (red_of (rgba r g b a) ≡ r) × (green_of (rgba r g b a) ≡ g) × (blue_of (rgba r g b a) ≡ b) × (alpha_of (rgba r g b a) ≡ a)
    channels r g b a R G B A = unfold rgba in (omega arith, omega arith, omega arith, omega arith)

-- a rule that keeps between its four bytes
abbrev Keeps : (ℕ → ℕ → ℕ → ℕ → ℕ) → Type 0
Keeps rule = (a b c d : ℕ) → a < 256 → b < 256 → c < 256 → d < 256 → Amid a b c d (rule a b c d)

-- the first of four
first-amid : (a b c d : ℕ) → Amid a b c d a
first-amid a b c d = record { least = omega arith; greatest = omega arith }

module _ (q : Quad ℕ) (w : Words q) where
  each : (rule : ℕ → ℕ → ℕ → ℕ → ℕ) → Keeps rule → AmidTexel q (each_of rule q.p00 q.p10 q.p01 q.p11)
  unfolding each_of
  each rule keeps =
      made q _ _ _ _ w
      (keeps _ _ _ _ (red-byte _ w.first) (red-byte _ w.second) (red-byte _ w.third) (red-byte _ w.fourth))
      (keeps _ _ _ _ (low_byte _) (low_byte _) (low_byte _) (low_byte _))
      (keeps _ _ _ _ (low_byte _) (low_byte _) (low_byte _) (low_byte _))
      (keeps _ _ _ _ (low_byte _) (low_byte _) (low_byte _) (low_byte _))

  metallic : AmidTexel q (metallic_of Nearest q.p00 q.p10 q.p01 q.p11)
  unfolding metallic_of
  metallic =
      made q _ _ _ _ w
      (first-amid _ _ _ _)
      (rough-amid _ _ _ _ (low_byte _) (low_byte _) (low_byte _) (low_byte _))
      (mean-amid _ _ _ _ (low_byte _) (low_byte _) (low_byte _) (low_byte _))
      (first-amid _ _ _ _)

  srgb : AmidTexel q (srgb_of Nearest q.p00 q.p10 q.p01 q.p11)
  unfolding srgb_of
  srgb =
      made q _ _ _ _ w
      (srgb-amid _ _ _ _ (red-byte _ w.first) (red-byte _ w.second) (red-byte _ w.third) (red-byte _ w.fourth))
      (srgb-amid _ _ _ _ (low_byte _) (low_byte _) (low_byte _) (low_byte _))
      (srgb-amid _ _ _ _ (low_byte _) (low_byte _) (low_byte _) (low_byte _))
      (mean-amid _ _ _ _ (low_byte _) (low_byte _) (low_byte _) (low_byte _))

  -- SRGB, Normal, MetallicRoughness; Cubemap, Linear
  pub texel-amid : (kind : ℕ) → AmidTexel q (reduce_of kind Nearest q.p00 q.p10 q.p01 q.p11)
  unfolding normal_of linear_of
  texel-amid zero = rw (of-srgb 0 Nearest refl) srgb
  texel-amid (suc zero) = rw (of-normal 1 Nearest refl) (each (normal_byte Nearest) normal-amid)
  texel-amid (suc (suc zero)) = rw (of-metallic 2 Nearest refl) metallic
  texel-amid (suc (suc (suc k))) =
      rw (of-linear (suc (suc (suc k))) Nearest (omega arith) (λ e. omega arith) (λ e. omega arith)) (each (mean_byte Nearest) mean-amid)
