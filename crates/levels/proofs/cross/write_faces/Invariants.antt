-- `levels::cross::write_faces` meets its contract. The invariant: y rows are written.
use Rattle.levels.proofs.Crosses.{FaceRows}
use Rattle.levels.proofs.cross.write_faces.Given as goal

abbrev pub invariant-loop-y : goal.invariant-loop-y
invariant-loop-y l = FaceRows l.width l.height l.bytes l.initial.faces l.faces l.y
