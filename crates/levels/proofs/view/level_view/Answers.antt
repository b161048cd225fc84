-- `levels::view::level_view` meets its contract: the part that is handed out is the face.
use mathlib.Core.Path.{sym, ◌∙◌}
use native.Mathlib.Nat.{add-sub_cancel_left}
use Rattle.rules.specs.View.{face_view}
use Rattle.rules.specs.Answers.{view_answer}
use Rattle.rules.proofs.Answering.{told_none, leaves_as}
use Rattle.rules.proofs.Refusing.{answer-given}
use Rattle.levels.proofs.view.level_view.Goals as goal

pub returns-in-Ok : goal.returns-in-Ok
unfolding view_answer face_view
returns-in-Ok c =
    let given = c.in-Ok.ensures in
    let is = given.is.0 in
    record {
      answer = rw (add-sub_cancel_left c.in-Ok.found.start c.in-Ok.found.size, is.0, is.1) (sym (answer-given _ _ _ (told_none _ (sym given.told))));
    }

pub returns-in-Err : goal.returns-in-Err
unfolding view_answer
returns-in-Err c = record { answer = sym (leaves_as _ _ _ ∙ rw (← c.in-Err.ensures.told)) }
