-- The texel that whole numbers make in nearest mode. Two sums below 2^10 stand side by side in one number, and a quarter of each is a channel of
-- Linear's texel, by the law of the rounded mean. Assumes nothing.
use mathlib.Core.Path.{◌≡◌}
use Prim.Native.Nat.{ℕ, ◌+◌, ◌*◌, ◌/◌, ◌%◌, ◌≤◌, ◌<◌}
use native.Mathlib.Omega.{arith}
use Rattle.rules.specs.declared.Packing.TheVariants.{Nearest}
use Rattle.rules.specs.Kinds.{red_of, green_of, blue_of, alpha_of, rgba}
use Rattle.rules.specs.Reducing.{each_of, linear_of}
use Rattle.texel.proofs.RoundedMeans.{rounded-mean}
use Rattle.kinds.specs.declared.channel.Quad.{Quad}
use Rattle.kinds.specs.Quads.{sum_of}

-- four 32-bit numbers
pub record Words (q : Quad ℕ) : Type 0 where
  pub first : q.p00 < 4294967296
  pub second : q.p10 < 4294967296
  pub third : q.p01 < 4294967296
  pub fourth : q.p11 < 4294967296

pub red-byte : (t : ℕ) → t < 4294967296 → red_of t < 256
red-byte t h = omega arith

pub low_byte : (t : ℕ) → alpha_of t < 256
low_byte t = omega arith

-- two sums in the halves of a number
pub record Halved (s h l : ℕ) : Type 0 where
  pub upper : s / 65536 ≡ h
  pub lower : s % 65536 ≡ l
  pub high : h < 1024
  pub low : l < 1024

-- as `quarters` asks them
pub asked : {s h l : ℕ} → Halved s h l → (s / 65536 < 1024) × (s % 65536 < 1024)
asked k = rw (k.upper, k.lower) (k.high, k.low)

-- and a quarter of each, two bytes
pub quartered : {s h l : ℕ} (r : ℕ) → Halved s h l → r ≡ s / 65536 / 4 * 65536 + s % 65536 / 4 → (r ≡ h / 4 * 65536 + l / 4) × (r ≤ 16711935)
quartered {h = h} {l = l} r k e = few h l r (rw (k.upper, k.lower) at e) k.high k.low
  where
    few : (h l r : ℕ) → r ≡ h / 4 * 65536 + l / 4 → h < 1024 → l < 1024 → (r ≡ h / 4 * 65536 + l / 4) × (r ≤ 16711935)
    few h l r e H L = (e, omega arith)

halved : (s h l : ℕ) → s ≡ h * 65536 + l → h < 1024 → l < 1024 → Halved s h l
halved s h l e H L = record { upper = omega arith; lower = omega arith; high = H; low = L }

module _ (q : Quad ℕ) (w : Words q) where
  pub red-blue : (s : ℕ) → s ≡ sum_of red_of q * 65536 + sum_of blue_of q → Halved s (sum_of red_of q) (sum_of blue_of q)
  red-blue s e =
      let a = red-byte q.p00 w.first in
      let b = red-byte q.p10 w.second in
      let c = red-byte q.p01 w.third in
      let d = red-byte q.p11 w.fourth in
      halved s _ _ e (omega arith) (omega arith)

  pub green-alpha : (s : ℕ) → s ≡ sum_of green_of q * 65536 + sum_of alpha_of q → Halved s (sum_of green_of q) (sum_of alpha_of q)
  green-alpha s e = halved s _ _ e (omega arith) (omega arith)

  pub rounded-texel : (sum_of red_of q / 4 * 65536 + sum_of blue_of q / 4) * 256 + (sum_of green_of q / 4 * 65536 + sum_of alpha_of q / 4)
      ≡ linear_of Nearest q.p00 q.p10 q.p01 q.p11
  unfolding linear_of each_of rgba
  rounded-texel =
      rw (
        rounded-mean (red_of q.p00) (red_of q.p10) (red_of q.p01) (red_of q.p11) (red-byte _ w.first) (red-byte _ w.second) (red-byte _ w.third) (red-byte _ w.fourth),
        rounded-mean (green_of q.p00) (green_of q.p10) (green_of q.p01) (green_of q.p11) (low_byte _) (low_byte _) (low_byte _) (low_byte _),
        rounded-mean (blue_of q.p00) (blue_of q.p10) (blue_of q.p01) (blue_of q.p11) (low_byte _) (low_byte _) (low_byte _) (low_byte _),
        rounded-mean (alpha_of q.p00) (alpha_of q.p10) (alpha_of q.p01) (alpha_of q.p11) (low_byte _) (low_byte _) (low_byte _) (low_byte _),
      )
      (omega arith)
