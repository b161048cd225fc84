-- `reduce::chain::fill` meets its contract. The measure is the number of levels left.
use Rattle.reduce.proofs.chain.+fill.Given as goal

abbrev pub decreases-fill : goal.decreases-fill
decreases-fill g l = l.left
