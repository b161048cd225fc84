-- `places::face::sizes_taken` meets its contract: the same comparisons.
use mathlib.Core.Path.{refl}
use lib.Ieee.{of_bits}
use Rattle.places.proofs.face.sizes_taken.Goals as goal

pub returns : goal.returns
unfolding of_bits
returns c = refl
