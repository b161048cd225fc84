-- `ranges::scan::scan` meets its contract. The invariant: what is found is the range of the texels passed.
use lib.ListN.{take}
use Rattle.ranges.specs.Scans.{RangeIs}
use Rattle.ranges.proofs.scan.scan.Given as goal

abbrev pub invariant-loop-texel : goal.invariant-loop-texel
invariant-loop-texel l = RangeIs (take l.texel-index l.texels) l.found
