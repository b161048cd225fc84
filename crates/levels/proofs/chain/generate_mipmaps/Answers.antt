-- `levels::chain::generate_mipmaps` meets its contract: past the tests the chain has room, and `fill` leaves it.
use mathlib.Core.Path.{sym, ◌∙◌}
use native.Mathlib.Numerals.{add-one}
use native.Mathlib.Omega.{arith}
use Rattle.rules.specs.Sizes.{count}
use Rattle.rules.specs.Refusals.{chain_refusal, mipmaps_refusal}
use Rattle.rules.specs.Pictures.{filled_of}
use Rattle.rules.specs.Answers.{chain_leaves}
use Rattle.rules.proofs.Answering.{told_none, or_else_assoc}
use Rattle.rules.proofs.Refusing.{or_else-none, or_else-taken, buffer_facts, answer-given}
use Rattle.levels.proofs.chain.generate_mipmaps.Goals as goal

pub fill-requires : goal.fill-requires
unfolding count
fill-requires c =
    let s = c.shape.ensures in
    let both = or_else-none _ _ (told_none _ (sym c.in_ok-packing.ensures.told)) in
    record { room = (omega arith, rw (s.0, s.1, s.2, c.top_level.ensures.0, add-one) (buffer_facts _ _ both.0)) }

pub returns-clause-leaves : goal.returns-clause-leaves
unfolding filled_of chain_leaves mipmaps_refusal chain_refusal
returns-clause-leaves c =
    let is = c.in_ok-picture.ensures.is in
    let rest = rw (is.0, is.1, is.2) at (told_none _ (sym c.in_ok-packing.ensures.told)) in
    let none = or_else_assoc _ _ _ ∙ or_else-taken _ _ (told_none _ (sym c.in_ok-picture.ensures.told)) rest in
    let s = c.shape.ensures in
    c.fill.ensures
    ∙ rw (s.0, s.1, s.2, c.top_level.ensures.0, is.0, is.1, is.2, c.in_ok-packing.ensures.is.1, add-one) (sym (answer-given _ _ _ none))
