use native.Mathlib.Omega.{arith}
use Rattle.ranges.proofs.Scanning.{range-more}
use Rattle.ranges.proofs.scan.scan.Goals as goal

pub loop-texel-preserved : goal.loop-texel-preserved
loop-texel-preserved c =
    range-more c.args.texels.now c.loop-texel.texel-index c.loop-texel.invariant (omega arith) c.with_texel-found.ensures
