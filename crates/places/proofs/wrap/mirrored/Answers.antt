-- `places::wrap::mirrored` meets its contract: the mirrored number is a whole one, and one of 32 bits.
use mathlib.Core.Path.{sym, subst, ap, ◌∙◌}
use native.Mathlib.Omega.{arith}
use lib.IntN.{nat_abs}
use lib.Ieee.{Float, binary32, sub, mul}
use Rattle.rules.specs.declared.Mode.TheVariants.{Mirror}
use Rattle.rules.specs.Floats.{one32, two32, float}
use Rattle.rules.specs.Whole.{floor_of}
use Rattle.rules.specs.Wrapping.{wrap_of}
use Rattle.texel.proofs.Coord.{side-float}
use Rattle.places.specs.Sources.{least}
use Rattle.places.proofs.Wraps.{Cut, two_in, mirrored-cut}
use Rattle.places.proofs.wrap.mirrored.Goals as goal
use Rattle.places.proofs.wrap.mirrored.Goals.{After-least-2}

facts : (c : goal.After-least-2) → Cut c.least-2.result (wrap_of Mirror (floor_of c.args.t) c.args.d.texels)
facts c =
    let two = mul binary32 (float c.args.d.texels) two32 in
    subst (λ (x : Float). Cut x (wrap_of Mirror (floor_of c.args.t) c.args.d.texels))
    (sym
    (c.least-2.ensures
    ∙ ap (λ (x : Float). least x (sub binary32 (float c.args.d.texels) one32)) (c.least.ensures ∙ ap (λ (x : Float). least x (sub binary32 two x)) c.rest-r.ensures)))
    (mirrored-cut c.args.t c.args.d.texels c.requires c.args.d.is.0 c.args.d.is.1)

pub int_to_float-side : goal.int_to_float-side
int_to_float-side c = side-float c.args.d.texels (let h = c.args.d.is.1 in omega arith)

pub rest-r-requires : goal.rest-r-requires
rest-r-requires c = two_in c.args.t c.args.d.texels c.requires c.args.d.is.0 c.args.d.is.1

pub float_to_int-result : goal.float_to_int-result
float_to_int-result c = (facts (goal.at.float_to_int-result c).After-least-2).is_whole

pub overflow_cast-result : goal.overflow_cast-result
overflow_cast-result c = let k = facts (goal.at.overflow_cast-result c).After-least-2 in rw k.back (tt, omega (arith, k.few))

pub returns : goal.returns
returns c = ap nat_abs (facts (goal.at.returns c).After-least-2).back
