-- `places::cube::cube_texel` meets its contract: u * (width - 1) lies in 0 to width - 1, and so does its nearest number.
use Prim.Native.Nat.{◌-◌}
use native.Mathlib.Omega.{arith}
use Rattle.rules.specs.Cubemap.{cube_texel}
use Rattle.texel.proofs.Coord.{side-float, across-top, texel-le}
use Rattle.places.proofs.cube.cube_texel.Goals as goal

pub int_to_float-width : goal.int_to_float-width
int_to_float-width c = side-float _ (let h = c.args.width.is.1 in omega arith)

pub round_even-requires : goal.round_even-requires
round_even-requires c = across-top c.args.u (c.args.width.texels - 1) c.requires (let h = c.args.width.is.1 in omega arith)

pub returns : goal.returns
unfolding cube_texel
returns c =
    let k = texel-le c.args.u (c.args.width.texels - 1) c.requires (let h = c.args.width.is.1 in omega arith) in
    (c.round_even.ensures, omega (arith, c.round_even.ensures, c.args.width.is.0))
