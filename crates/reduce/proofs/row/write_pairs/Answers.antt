use native.Mathlib.Omega.{arith}
use Rattle.kinds.proofs.Runs.{over_first, over-all}
use Rattle.reduce.proofs.Rows.{part-turn}
use Rattle.reduce.proofs.row.write_pairs.Goals as goal

pub loop-x-init : goal.loop-x-init
loop-x-init g c = (omega arith, over_first _ _ _ (omega arith))

pub loop-x-preserved : goal.loop-x-preserved
loop-x-preserved g c =
    let run = c.loop-x.invariant.1 in
    let m = c.min-m.ensures in
    let long = run.as_long in
    (omega arith, part-turn (g.R.Reduce.rule _) _ _ _ _ _ _ _ _ _ run (omega arith) (omega arith) (rw (c.from_pair.ensures.0, c.from_pair.ensures.1) at c.row.ensures) c.copy_from_slice.ensures.after)

pub returns : goal.returns
returns g c = over-all c.loop-x.invariant.1 (omega arith)
