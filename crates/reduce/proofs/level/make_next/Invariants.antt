-- `reduce::level::make_next` meets its contract. The invariant: y rows of all faces stand in `after`.
use Prim.Native.Nat.{◌*◌}
use Rattle.rules.specs.Sizes.{half}
use Rattle.kinds.proofs.Runs.{Over}
use Rattle.reduce.proofs.Levels.{cell_of}
use Rattle.reduce.proofs.level.make_next.Given as goal

abbrev pub invariant-loop-y : goal.invariant-loop-y
invariant-loop-y g l = Over 0 l.initial.after (l.y * l.w2) (cell_of (g.R.Reduce.rule l.rule) l.shape.width l.shape.height l.w2 (half l.shape.height) l.level) l.after
