use native.Mathlib.Omega.{arith}
use Rattle.kinds.proofs.Runs.{over_first, over-all}
use Rattle.kinds.proofs.Rows.{row_more}
use Rattle.kinds.proofs.rule.row.Goals as goal

pub loop-x-init : goal.loop-x-init
loop-x-init g c = over_first _ _ _ (omega arith)

pub loop-x-preserved : goal.loop-x-preserved
loop-x-preserved g c =
    row_more (g.R.Reduce.rule _) _ _ _ _ _ _ _ c.loop-x.invariant c.loop-x-test.true c.pair.ensures c.reduced.ensures

pub returns : goal.returns
returns g c = over-all c.loop-x.invariant (omega arith)
