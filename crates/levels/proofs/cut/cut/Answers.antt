-- `levels::cut::cut` meets its contract: past the test both buffers have room, and the run is the cut.
use mathlib.Core.Path.{sym, ◌∙◌}
use lib.ListN.{length}
use Rattle.rules.specs.Refusals.{cut_call_refusal}
use Rattle.rules.specs.Answers.{cut_leaves}
use Rattle.rules.proofs.Answering.{told_none}
use Rattle.rules.proofs.Refusing.{or_else-taken, answer-given}
use Rattle.rules.proofs.RefusingCuts.{CutCall, cut-facts, cut-taken}
use Rattle.levels.proofs.Cuts.{cut-is, cut-within}
use Rattle.levels.proofs.cut.cut.Goals as goal
use Rattle.levels.proofs.cut.cut.Goals.{In_ok-check_cut}

-- past the test nothing is refused
known : (c : goal.In_ok-check_cut)
    → let a = c.args in
    CutCall a.kind a.width a.height (length a.source.now) a.order a.corner a.sides (length a.target.now)
unfolding cut_call_refusal
known c =
    let given = c.in_ok-picture.ensures in
    let is = given.is in
    cut-facts _ _ _ _ _ _ _ _ (or_else-taken _ _ (told_none _ (sym given.told)) (rw (is.0, is.1, is.2) at (told_none _ (sym c.in_ok-check_cut.ensures))))

pub write_cut-requires : goal.write_cut-requires
write_cut-requires c =
    let k = known (goal.at.write_cut-requires c).In_ok-check_cut in
    record {
      across = k.cutting.at.inside-w;
      source_room = cut-within k;
      target_room = k.room;
    }

pub returns-clause-leaves : goal.returns-clause-leaves
unfolding cut_leaves
returns-clause-leaves c =
    let k = known (goal.at.returns-clause-leaves c).In_ok-check_cut in
    let at = k.cutting.at in
    c.write_cut.ensures ∙ cut-is _ _ _ _ _ _ _ _ at.some-w at.some-h
    ∙ sym (answer-given _ _ _ (cut-taken _ _ _ _ _ _ _ _ k))
