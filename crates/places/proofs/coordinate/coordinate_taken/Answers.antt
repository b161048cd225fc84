-- `places::coordinate::coordinate_taken` meets its contract: two tests.
use lib.Ieee.{of_bits, neg}
use Rattle.places.proofs.Coordinates.{coordinate-words}
use Rattle.places.proofs.coordinate.coordinate_taken.Goals as goal

pub returns : goal.returns
unfolding of_bits neg
returns c = coordinate-words c.args.u
