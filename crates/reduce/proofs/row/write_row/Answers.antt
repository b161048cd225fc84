-- `reduce::row::write_row` meets its contract: sources one wide, or wider.
use mathlib.Core.Path.{◌∙◌}
use native.Mathlib.Omega.{arith}
use Rattle.reduce.proofs.Rows.{narrow-is, wide_is}
use Rattle.reduce.proofs.row.write_row.Goals as goal

pub returns-then-rows-lt2 : goal.returns-then-rows-lt2
returns-then-rows-lt2 g c =
    narrow-is (g.R.Reduce.rule _) _ _ _ _ c.args.o.now (omega arith) (omega arith) c.narrow.ensures

pub returns : goal.returns
returns g c = c.write_pairs.ensures ∙ wide_is (g.R.Reduce.rule _) _ _ _ _ (omega arith) (omega arith)
