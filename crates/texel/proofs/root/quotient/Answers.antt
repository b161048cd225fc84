-- `texel::root::quotient` meets its contract.
use lib.Ieee.{of_bits}
use borrow.Author.Rules.{rules}
use Rattle.texel.proofs.RootFloats.{quotient-bits, quotient-no-nan}
use Rattle.texel.proofs.root.quotient.Goals as goal

pub float_to_bits-result : goal.float_to_bits-result
unfolding of_bits
float_to_bits-result c = quotient-no-nan c.args.h c.args.d (search rules) (search rules) (search rules) (search rules)

pub returns : goal.returns
unfolding of_bits
returns c = quotient-bits c.args.h c.args.d (search rules) (search rules) (search rules) (search rules)
