-- `places::wrap::held` meets its contract: what is held is a whole number, and one of 32 bits.
use mathlib.Core.Path.{sym, subst, ap, ◌∙◌}
use native.Mathlib.Omega.{arith}
use lib.IntN.{nat_abs}
use lib.Ieee.{Float, binary32, sub}
use Rattle.rules.specs.declared.Mode.TheVariants.{Clamp}
use Rattle.rules.specs.Floats.{one32, float}
use Rattle.rules.specs.Whole.{floor_of}
use Rattle.rules.specs.Wrapping.{wrap_of}
use Rattle.texel.proofs.Coord.{side-float}
use Rattle.places.specs.Sources.{least}
use Rattle.places.proofs.Wraps.{Cut, held_cut}
use Rattle.places.proofs.wrap.held.Goals as goal
use Rattle.places.proofs.wrap.held.Goals.{After-least}

facts : (c : goal.After-least) → Cut c.least.result (wrap_of Clamp (floor_of c.args.t) c.args.d.texels)
facts c =
    subst (λ (x : Float). Cut x (wrap_of Clamp (floor_of c.args.t) c.args.d.texels))
    (sym (c.least.ensures ∙ ap (λ (x : Float). least x (sub binary32 (float c.args.d.texels) one32)) c.most.ensures))
    (held_cut c.args.t c.args.d.texels c.requires c.args.d.is.0 c.args.d.is.1)

pub int_to_float-d : goal.int_to_float-d
int_to_float-d c = side-float c.args.d.texels (let h = c.args.d.is.1 in omega arith)

pub float_to_int-result : goal.float_to_int-result
float_to_int-result c = (facts (goal.at.float_to_int-result c).After-least).is_whole

pub overflow_cast-result : goal.overflow_cast-result
overflow_cast-result c = let k = facts (goal.at.overflow_cast-result c).After-least in rw k.back (tt, omega (arith, k.few))

pub returns : goal.returns
returns c = ap nat_abs (facts (goal.at.returns c).After-least).back
