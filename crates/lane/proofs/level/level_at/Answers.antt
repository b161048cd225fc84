-- `lane::level::level_at` meets its contract.
use Rattle.lane.proofs.Holding.{plane-sized}
use Rattle.lane.proofs.level.level_at.Goals as goal

pub invariant_of-result : goal.invariant_of-result
invariant_of-result c = record { sized = rw c.plane.ensures (plane-sized _ c.args.layout.now.picture.sides c.requires) }
