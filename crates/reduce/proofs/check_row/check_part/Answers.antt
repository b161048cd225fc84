-- `reduce::check_row::check_part` meets its contract: told by the rule, or made and compared.
use mathlib.Core.Path.{ap, ◌∙◌}
use native.Mathlib.Nat.{zero-add}
use native.Mathlib.Omega.{arith}
use lib.ListN.{get_or}
use Rattle.reduce.proofs.Standing.{stands-all, turn-end, wrong-by, made-right}
use Rattle.reduce.proofs.check_row.check_part.Goals as goal

pub returns-then-all_right : goal.returns-then-all_right
returns-then-all_right g c =
    turn-end (stands-all _ (omega arith) (λ k lt. ap (λ i. get_or c.args.standing.texels.now i 0) (zero-add k) ∙ c.all_right.ensures c.if-all_right.true k lt))

pub returns : goal.returns
returns g c = wrong-by (λ r t. made-right _ _ _ _ (omega arith) c.row.ensures t) c.alike.ensures
