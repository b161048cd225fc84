-- `levels::cross::cut_cross` meets its contract: past the test both buffers have room, and the run is the six faces.
use mathlib.Core.Path.{sym, ◌∙◌}
use native.Mathlib.Omega.{arith}
use lib.ListN.{length}
use Rattle.rules.specs.Answers.{cross_leaves}
use Rattle.rules.proofs.Answering.{told_none}
use Rattle.rules.proofs.Refusing.{answer-given}
use Rattle.rules.proofs.RefusingCuts.{CrossCall, cross-facts, cross-taken}
use Rattle.levels.proofs.Crosses.{cross-is}
use Rattle.levels.proofs.cross.cut_cross.Goals as goal
use Rattle.levels.proofs.cross.cut_cross.Goals.{In_ok-check_cross}

-- past the test nothing is refused
known : (c : goal.In_ok-check_cross) → let a = c.args in CrossCall a.width a.height (length a.bytes.now) (length a.faces.now)
known c = cross-facts _ _ _ _ (told_none _ (sym c.in_ok-check_cross.ensures))

pub write_faces-requires : goal.write_faces-requires
write_faces-requires c =
    let k = known (goal.at.write_faces-requires c).In_ok-check_cross in
    record {
      sides = omega (arith, k.sides);
      bytes_room = k.read;
      faces_room = k.room;
    }

pub returns-clause-leaves : goal.returns-clause-leaves
unfolding cross_leaves
returns-clause-leaves c =
    let k = known (goal.at.returns-clause-leaves c).In_ok-check_cross in
    c.write_faces.ensures ∙ cross-is _ _ _ _ ∙ sym (answer-given _ _ _ (cross-taken _ _ _ _ k))
