-- `levels::cut::put_row` meets its contract. The invariant: the texels passed are the row's.
use mathlib.Core.Path.{◌≡◌}
use lib.ListN.{take}
use Rattle.levels.proofs.cut.put_row.Given as goal

abbrev pub invariant-loop-x : goal.invariant-loop-x
invariant-loop-x l = take l.x l.texels ≡ take l.x l.row
