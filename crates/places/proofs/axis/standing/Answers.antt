-- `places::axis::standing` meets its contract.
use native.Mathlib.Omega.{arith}
use Rattle.texel.proofs.Coord.{side-float}
use Rattle.places.proofs.Spans.{span-in, stands}
use Rattle.places.proofs.axis.standing.Goals as goal

pub int_to_float-x : goal.int_to_float-x
int_to_float-x c = side-float c.args.width.texels (let h = c.args.width.is.1 in omega arith)

pub floor-first-requires : goal.floor-first-requires
floor-first-requires c = span-in c.args.u c.args.width.texels c.requires c.args.width.is.0 c.args.width.is.1

pub returns : goal.returns
returns c = stands c.args.u c.args.width.texels c.requires c.args.width.is.0 c.args.width.is.1 c.floor-first.result c.floor-first.ensures
