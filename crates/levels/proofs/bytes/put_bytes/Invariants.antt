-- `levels::bytes::put_bytes` meets its contract. The invariant: the texels passed are those of the bytes.
use mathlib.Core.Path.{◌≡◌}
use lib.ListN.{take}
use Rattle.rules.specs.Levels.{tab}
use Rattle.levels.specs.Crosses.{bytes_at}
use Rattle.levels.proofs.bytes.put_bytes.Given as goal

abbrev pub invariant-loop-i : goal.invariant-loop-i
invariant-loop-i l = take l.i l.texels ≡ tab l.i (bytes_at l.bytes)
