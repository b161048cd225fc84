-- `levels::cut::check_place` meets its contract: both sides are taken exactly where the cut is.
use mathlib.Core.Bool.{false≢true}
use mathlib.Core.Path.{sym, ◌∙◌}
use native.Mathlib.Omega.{arith}
use Rattle.rules.proofs.RefusingCuts.{cutting-taken, cutting-refused}
use Rattle.rules.specs.declared.Refusal.TheVariants.{CutOutside}
use Rattle.rules.proofs.Numbers.{told_given, told_refused}
use Rattle.levels.proofs.Cuts.{sides-cutting, cutting-x, cutting-y}
use Rattle.levels.proofs.cut.check_place.Goals as goal
use Rattle.levels.proofs.cut.check_place.Goals.{else-order-le12-via-then-order-le12+then-along+else-along-2, else-order-le12-via-then-order-le12+else-along, else-order-le12-via-else-order-le12}

pub returns-then-along-2 : goal.returns-then-along-2
returns-then-along-2 c =
    told_given _
    (cutting-taken _ _ _ _ _
    (sides-cutting _ _ _ _ _ _ _ c.if-order-le12.true
    (sym c.along.ensures ∙ c.if-along.true)
    (sym c.along-then-along.ensures ∙ c.if-along-2.true)))

pub returns-else-order-le12 : goal.returns-else-order-le12
returns-else-order-le12 c =
    elim c.else-order-le12.branch [
      | else-order-le12-via-then-order-le12+then-along+else-along-2 w ↦
          told_refused _ CutOutside (cutting-refused _ _ _ _ _ (λ k. false≢true (sym w.if-along-2.false ∙ w.along-then-along.ensures ∙ cutting-y _ _ _ _ _ _ _ k)))
      | else-order-le12-via-then-order-le12+else-along w ↦
          told_refused _ CutOutside (cutting-refused _ _ _ _ _ (λ k. false≢true (sym w.if-along.false ∙ w.along.ensures ∙ cutting-x _ _ _ _ _ _ _ k)))
      | else-order-le12-via-else-order-le12 w ↦ told_refused _ CutOutside (cutting-refused _ _ _ _ _ (λ k. omega arith))
    ]
