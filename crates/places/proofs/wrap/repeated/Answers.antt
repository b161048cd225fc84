-- `places::wrap::repeated` meets its contract: the remainder is a whole number, and one of 32 bits.
use mathlib.Core.Path.{sym, subst, ap}
use native.Mathlib.Omega.{arith}
use lib.IntN.{nat_abs}
use lib.Ieee.{Float}
use Rattle.rules.specs.declared.Mode.TheVariants.{Repeat}
use Rattle.rules.specs.Whole.{floor_of}
use Rattle.rules.specs.Wrapping.{wrap_of}
use Rattle.texel.proofs.Coord.{side-float}
use Rattle.places.proofs.Wraps.{Cut, side-in, repeated-cut}
use Rattle.places.proofs.wrap.repeated.Goals as goal
use Rattle.places.proofs.wrap.repeated.Goals.{After-rest}

facts : (c : goal.After-rest) → Cut c.rest.result (wrap_of Repeat (floor_of c.args.t) c.args.d.texels)
facts c = subst (λ (x : Float). Cut x (wrap_of Repeat (floor_of c.args.t) c.args.d.texels)) (sym c.rest.ensures) (repeated-cut c.args.t c.args.d.texels c.requires c.args.d.is.0 c.args.d.is.1)

pub int_to_float-d : goal.int_to_float-d
int_to_float-d c = side-float c.args.d.texels (let h = c.args.d.is.1 in omega arith)

pub rest-requires : goal.rest-requires
rest-requires c = side-in c.args.t c.args.d.texels c.requires c.args.d.is.0 c.args.d.is.1

pub float_to_int-result : goal.float_to_int-result
float_to_int-result c = (facts (goal.at.float_to_int-result c).After-rest).is_whole

pub overflow_cast-result : goal.overflow_cast-result
overflow_cast-result c = let k = facts (goal.at.overflow_cast-result c).After-rest in rw k.back (tt, omega (arith, k.few))

pub returns : goal.returns
returns c = ap nat_abs (facts (goal.at.returns c).After-rest).back
