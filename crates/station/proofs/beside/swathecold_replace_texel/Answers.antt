-- `station::beside::swathecold_replace_texel` meets its contract: what is answered is the test's own answer, whose number is the test's.
use mathlib.Core.Path.{ap, ◌∙◌}
use Rattle.rules.specs.Refusals.{number_in}
use Rattle.rules.proofs.Numbers.{known-answer, known-replace}
use Rattle.station.proofs.beside.swathecold_replace_texel.Goals as goal

pub returns-clause-number : goal.returns-clause-number
returns-clause-number c =
    c.number.ensures ∙ ap number_in c.replace_texel.ensures.answer ∙ known-answer _ tt (known-replace _ _ _ _ _ _ _)
