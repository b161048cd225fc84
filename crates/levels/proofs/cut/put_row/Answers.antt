use mathlib.Core.Path.{sym, ◌∙◌}
use native.Mathlib.Omega.{arith}
use Rattle.std.proofs.lemmas.List.{take_more, take_more_set}
use Rattle.levels.proofs.cut.put_row.Goals as goal

pub loop-x-preserved : goal.loop-x-preserved
loop-x-preserved c =
    let turn = c.loop-x in
    take_more_set turn.texels turn.x _ (omega arith) ∙ rw turn.invariant (sym (take_more c.args.row.now turn.x 0 (omega arith)))
