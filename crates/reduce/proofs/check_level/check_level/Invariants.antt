-- `reduce::check_level::check_level` meets its contract. The invariant: y rows of all faces stand there. The measure is the rows left.
use Prim.Native.Nat.{◌*◌, ◌-◌, ◌≤◌}
use Rattle.rules.specs.Sizes.{half}
use Rattle.kinds.proofs.Runs.{Over}
use Rattle.reduce.proofs.Levels.{cell_of}
use Rattle.reduce.proofs.check_level.check_level.Given as goal

abbrev pub invariant-loop-y : goal.invariant-loop-y
invariant-loop-y g l = (l.y ≤ l.rows) × Over 0 l.c (l.y * l.w2) (cell_of (g.R.Reduce.rule l.rule) l.shape.width l.shape.height l.w2 (half l.shape.height) l.level) l.c

abbrev pub decreases-loop-y : goal.decreases-loop-y
decreases-loop-y g l = l.rows - l.y
