-- `kinds::rule::row` meets its contract. The invariant: x texels of the row stand in o.
use Rattle.kinds.specs.Runs.{pairs_of}
use Rattle.kinds.proofs.Runs.{Over}
use Rattle.kinds.proofs.rule.row.Given as goal

abbrev pub invariant-loop-x : goal.invariant-loop-x
invariant-loop-x g l = Over 0 l.initial.o l.x (pairs_of (g.R.Reduce.rule l.rule) l.rows) l.o
