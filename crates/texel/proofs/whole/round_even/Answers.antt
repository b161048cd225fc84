-- `texel::whole::round_even` meets its contract: the low 23 bits of the pattern of p + 2^23 are the whole number nearest to p, a half to the
-- even one (`Evens`), and the sum is finite, so that its pattern may be read.
use lib.Ieee.{of_bits}
use Rattle.texel.proofs.Evens.{even-bits, even-no-nan}
use Rattle.texel.proofs.whole.round_even.Goals as goal

pub float_to_bits-result : goal.float_to_bits-result
unfolding of_bits
float_to_bits-result c = even-no-nan c.args.p c.requires

pub returns : goal.returns
unfolding of_bits
returns c = even-bits c.args.p c.requires
