use Rattle.irradiance.proofs.Turns.{turn_next}
use Rattle.irradiance.proofs.cubemap.Cubemap.sum_face.Goals as goal

pub loop-y-preserved : goal.loop-y-preserved
loop-y-preserved c = turn_next _ _ _ _ _ c.sum_row-sums.ensures c.loop-y.invariant
