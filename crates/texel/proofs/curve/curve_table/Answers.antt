-- `texel::curve::curve_table` meets its contract: the test of the rule is computed over the constant.
use lib.Ieee.{fits, of_bits, to_bits}
use Rattle.rules.specs.Curve.{nearest_curve}
use Rattle.texel.proofs.Table.{table_is}
use Rattle.texel.proofs.curve.curve_table.Goals as goal

pub returns : goal.returns
unfolding nearest_curve fits of_bits to_bits
returns c = table_is _ tt
