-- `texel::packing::offset` meets its contract: the two numbers, read from their patterns.
use lib.Ieee.{of_bits}
use Rattle.texel.proofs.packing.offset.Goals as goal

pub returns-in-Truncating : goal.returns-in-Truncating
unfolding of_bits
returns-in-Truncating c = rw c.in-Truncating.is

pub returns-in-Nearest : goal.returns-in-Nearest
unfolding of_bits
returns-in-Nearest c = rw c.in-Nearest.is
