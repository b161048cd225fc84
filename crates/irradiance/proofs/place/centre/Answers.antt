-- `irradiance::place::centre` makes a coordinate: the centre of a place below the side lies in -1 to 1.
use Rattle.rules.specs.Irradiance.{centre_of}
use Rattle.irradiance.proofs.Spans.{centre-in}
use Rattle.irradiance.proofs.place.centre.Goals as goal

pub invariant_of-result : goal.invariant_of-result
unfolding centre_of
invariant_of-result c = record { on_face = centre-in c.args.side c.args.x c.requires.0 c.requires.1 }
