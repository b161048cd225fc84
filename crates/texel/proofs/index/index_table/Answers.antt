-- `texel::index::index_table` meets its contract: the test of an entry is computed over the constant.
use Rattle.rules.specs.NearestValue.{reaches}
use Rattle.texel.proofs.Table.{index_is}
use Rattle.texel.proofs.index.index_table.Goals as goal

pub returns : goal.returns
unfolding reaches
returns c = index_is _ tt
