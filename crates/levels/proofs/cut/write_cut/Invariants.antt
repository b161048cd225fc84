-- `levels::cut::write_cut` meets its contract. The invariant: y rows are written.
use Rattle.levels.proofs.Cuts.{CutRows}
use Rattle.levels.proofs.cut.write_cut.Given as goal

abbrev pub invariant-loop-y : goal.invariant-loop-y
invariant-loop-y l = CutRows l.w l.x l.top l.across l.rows l.source l.initial.target l.target l.y
