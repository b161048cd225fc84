-- `station::parts::swathecold_level_view` meets its contract: the number is that of the view's test, and where it is passed the place
-- that is handed out is the face's own.
use mathlib.Core.Path.{◌≡◌, refl, sym, ap, ◌∙◌}
use mathlib.Core.List.{List}
use Prim.Native.Nat.{ℕ, ◌+◌, ◌≤◌}
use Rattle.std.specs.Prelude.{Result, Ok, Err, IfOk}
use Rattle.rules.specs.declared.Refusal.{Refusal}
use Rattle.rules.specs.Refusals.{number_in, view_refusal}
use Rattle.rules.specs.Answers.{done, told}
use Rattle.rules.proofs.Answering.{told_none, leaves_as}
use Rattle.rules.proofs.Numbers.{known-answer, known-view}
use Rattle.rules.proofs.Refusing.{answer-given}
use Rattle.levels.specs.declared.view.Face.{Face}
use Rattle.levels.specs.Pictures.{IsFace}
use Rattle.station.specs.Written.{handed, part_words, view_written}
use Rattle.station.proofs.parts.swathecold_level_view.Goals as goal

number_done : {A : Type 0} (found : Result A Refusal) → number_in found ≡ number_in (done found)
number_done (Ok given) = refl
number_done (Err refusal) = refl

part_handed : (kind w h n m f : ℕ) (found : Result Face Refusal) (old : List ℕ)
    → done found ≡ told (view_refusal kind w h n m f)
    → IfOk found (λ r. IsFace kind w h m f r × (r.start + r.size ≤ n))
    → handed part_words found old ≡ view_written kind w h n m f old
unfolding view_written
part_handed kind w h n m f (Ok r) old e is = rw (is.0.0, is.0.1) (sym (answer-given _ _ _ (told_none _ (sym e))))
part_handed kind w h n m f (Err refusal) old e is = sym (leaves_as _ _ _ ∙ rw (← e))

pub returns-clause-number : goal.returns-clause-number
returns-clause-number c =
    c.hand_out.ensures.number
    ∙ number_done c.face_of.result
    ∙ ap number_in c.face_of.ensures.told
    ∙ known-answer _ tt (known-view _ _ _ _ _ _)

pub returns-clause-writes : goal.returns-clause-writes
returns-clause-writes c =
    c.hand_out.ensures.writes
    ∙ part_handed _ _ _ _ _ _ _ _ c.face_of.ensures.told c.face_of.ensures.is
