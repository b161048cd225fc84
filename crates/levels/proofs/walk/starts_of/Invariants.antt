-- `levels::walk::starts_of` meets its contract. The invariant: the starts passed are written, and the walk has come to the next level.
use mathlib.Core.Path.{◌≡◌}
use lib.ListN.{take}
use Rattle.rules.specs.Sizes.{start}
use Rattle.rules.specs.Levels.{tab}
use Rattle.levels.proofs.Walks.{Walked}
use Rattle.levels.proofs.walk.starts_of.Given as goal

abbrev pub invariant-loop-start : goal.invariant-loop-start
invariant-loop-start l =
    let a = l.fn in
    (take l.start-index l.start-items ≡ tab l.start-index (start a.faces a.width a.height))
    × Walked a.faces a.width a.height l.start-index l.at l.smaller l.larger
