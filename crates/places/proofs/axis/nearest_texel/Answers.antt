-- `places::axis::nearest_texel` meets its contract: the floor of a product within 2^23 is counted.
use native.Mathlib.Omega.{arith}
use Rattle.rules.specs.Places.{nearest_of}
use Rattle.texel.proofs.Coord.{side-float}
use Rattle.places.proofs.Spans.{coordinate-in, nearest-floored, counted}
use Rattle.places.proofs.axis.nearest_texel.Goals as goal

pub int_to_float-width : goal.int_to_float-width
int_to_float-width c = side-float c.args.width.texels (let h = c.args.width.is.1 in omega arith)

pub floor-requires : goal.floor-requires
floor-requires c = coordinate-in c.args.u c.args.width.texels c.requires c.args.width.is.0 c.args.width.is.1

pub returns : goal.returns
unfolding nearest_of
returns c =
    let f = nearest-floored c.args.u c.args.width.texels c.requires c.args.width.is.0 c.args.width.is.1 in
    counted c.floor.result (nearest_of c.args.u c.args.width.texels) c.args.width.texels c.floor.ensures (let h = f.near in omega arith) c.args.width.is.1
