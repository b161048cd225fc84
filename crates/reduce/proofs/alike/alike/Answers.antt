-- `reduce::alike::alike` meets its contract: what `position` finds of the pairs.
use Rattle.std.proofs.Common.{rules, tests}
use Rattle.std.proofs.lemmas.Iterator.{YieldsList-from_slice, YieldsList-from_zip, IsFirst-from_position}
use Rattle.reduce.proofs.Standing.{Alike, Unlike, first-unlike}
use Rattle.reduce.proofs.alike.alike.Goals as goal

pub returns : goal.returns
returns c =
    first-unlike _ _ _ c.requires
    (IsFirst-from_position c.position.new.self _ _ Unlike Alike c.position.ensures.ran
    (YieldsList-from_zip (YieldsList-from_slice c.args.made.now cc) (YieldsList-from_slice c.args.c.now cc)) (λ x q k. search (rules, tests)) (λ x q k. search (rules, tests)))
