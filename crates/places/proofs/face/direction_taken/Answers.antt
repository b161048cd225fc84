-- `places::face::direction_taken` meets its contract: the magnitudes' comparisons say the same as the paper's words.
use Rattle.places.proofs.Taken.{direction-words}
use Rattle.places.proofs.face.direction_taken.Goals as goal

pub returns : goal.returns
returns c = rw (c.sizes_taken.ensures, c.sizes-size.ensures.2, c.sizes-size.ensures.1, c.sizes-size.ensures.0) (direction-words c.args.x c.args.y c.args.z)
