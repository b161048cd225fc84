-- `levels::sizes::log2` meets its contract: setting the lowest digit of n leaves floor(log2 n), and gives a number above 0.
use mathlib.Core.Path.{◌≡◌, sym, ◌∙◌}
use Prim.Native.Nat.{ℕ, ◌+◌, ◌*◌, ◌/◌}
use native.Mathlib.Decide.{dec_le}
use native.Mathlib.Omega.{arith}
use lib.Bits.{bit_or, or_step, or_zero_r}
use Rattle.rules.specs.Sizes.{log2}
use Rattle.rules.proofs.Sides.{log2-small, log2-half, log2-unique}
use Rattle.levels.proofs.sizes.log2.Goals as goal

-- the lowest digit set
or-one : (n : ℕ) → bit_or n 1 ≡ n / 2 * 2 + 1
or-one n = or_step n 1 ∙ rw (or_zero_r (n / 2)) (omega arith)

log2-odd : (n : ℕ) → log2 (n / 2 * 2 + 1) ≡ log2 n
log2-odd n =
    elim (dec_le 2 n) [
      | yes l ↦
          let e : (n / 2 * 2 + 1) / 2 ≡ n / 2 = omega arith in rw (log2-half n l, log2-half (n / 2 * 2 + 1) (omega arith), e)
      | no f ↦ rw (log2-small n (omega arith), log2-small (n / 2 * 2 + 1) (omega arith))
    ]

pub ilog2-requires : goal.ilog2-requires
ilog2-requires c = omega (arith, or-one c.args.n)

pub returns : goal.returns
returns c =
    let e = rw (or-one c.args.n) at c.ilog2.ensures in
    sym (log2-unique _ c.ilog2.result e.power_le (omega arith)) ∙ log2-odd c.args.n
