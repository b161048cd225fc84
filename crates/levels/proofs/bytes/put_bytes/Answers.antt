use mathlib.Core.Path.{◌∙◌}
use native.Mathlib.Omega.{arith}
use native.Mathlib.Numerals.{add-one}
use Rattle.std.proofs.lemmas.List.{take_more_set}
use Rattle.rules.proofs.Grid.{tab-suc}
use Rattle.levels.proofs.bytes.put_bytes.Goals as goal

pub loop-i-preserved : goal.loop-i-preserved
loop-i-preserved c =
    let turn = c.loop-i in
    take_more_set turn.texels turn.i c.bytes_at.result (omega arith)
    ∙ rw (turn.invariant, c.bytes_at.ensures, add-one turn.i, tab-suc turn.i)
