-- `lookups::mip::mip_level_of` meets its contract: no picture has more than thirteen levels.
use native.Mathlib.Omega.{arith}
use Rattle.rules.proofs.Bounds.{top-most}
use Rattle.lookups.proofs.mip.mip_level_of.Goals as goal

pub invariant_of-top : goal.invariant_of-top
invariant_of-top c =
    let w = c.args.width.is in
    let h = c.args.height.is in
    record { is = rw c.top_level.ensures (top-most _ _ (omega arith) (omega arith) (omega arith)) }
