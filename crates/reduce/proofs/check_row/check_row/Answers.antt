-- `reduce::check_row::check_row` meets its contract: sources one wide, or wider.
use mathlib.Core.Path.{◌≡◌}
use native.Mathlib.Omega.{arith}
use Rattle.reduce.proofs.Rows.{narrow-held}
use Rattle.reduce.proofs.Standing.{right-ext, wrong-by, wide-right}
use Rattle.reduce.proofs.check_row.check_row.Goals as goal

pub returns-then-rows-lt2 : goal.returns-then-rows-lt2
returns-then-rows-lt2 g c =
    wrong-by
    (λ r t. right-ext _
    (λ k lt. let z : k ≡ 0 = omega arith in rw z (narrow-held (g.R.Reduce.rule c.args.rule.now) _ _ c.args.rows.first.now c.args.rows.second.now (omega arith) c.narrow.ensures)) t)
    c.alike.ensures

pub returns : goal.returns
returns g c = wrong-by (λ r t. wide-right (g.R.Reduce.rule _) _ _ _ _ (omega arith) (omega arith) t) c.check_pairs.ensures
