-- `reduce::row::write_pairs` meets its contract. The invariant: x texels of the row stand in o. The measure is what is left.
use Prim.Native.Nat.{◌-◌, ◌≤◌}
use lib.ListN.{length}
use Rattle.kinds.specs.Runs.{pairs_of}
use Rattle.kinds.proofs.Runs.{Over}
use Rattle.reduce.proofs.row.write_pairs.Given as goal

abbrev pub invariant-loop-x : goal.invariant-loop-x
invariant-loop-x g l = (l.x ≤ length l.initial.o) × Over 0 l.initial.o l.x (pairs_of (g.R.Reduce.rule l.rule) l.rows) l.o

abbrev pub decreases-loop-x : goal.decreases-loop-x
decreases-loop-x g l = length l.initial.o - l.x
