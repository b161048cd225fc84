-- `places::level::footprint` meets its contract: the same sums.
use native.Mathlib.Omega.{arith}
use Rattle.texel.proofs.Coord.{side-float}
use Rattle.places.proofs.level.footprint.Goals as goal

pub int_to_float-wide : goal.int_to_float-wide
int_to_float-wide c = side-float _ (omega arith)

pub int_to_float-high : goal.int_to_float-high
int_to_float-high c = side-float _ (omega arith)
