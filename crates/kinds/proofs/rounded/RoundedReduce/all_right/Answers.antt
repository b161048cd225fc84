use mathlib.Core.Path.{sym, ◌∙◌}
use native.Mathlib.Omega.{arith}
use lib.ListN.{get_or}
use borrow.Author.Rules.{rules}
use Rattle.rules.specs.declared.Packing.TheVariants.{Nearest}
use Rattle.rules.specs.Reducing.{linear_of}
use Rattle.kinds.proofs.Rows.{stands-more, differs}
use Rattle.kinds.proofs.rounded.RoundedReduce.all_right.Goals as goal

pub loop-x-preserved : goal.loop-x-preserved
loop-x-preserved c =
    let d = differs c.reduced.result (get_or c.args.standing.texels.now c.loop-x.x 0) in
    let i = c.loop-x.invariant in
    record {
      most = omega (arith, d.0, i.most);
      same = λ none. stands-more (linear_of Nearest) _ _ _ _ _ (i.same (omega arith)) c.pair.ensures (sym (d.1 (omega arith)) ∙ c.reduced.ensures);
    }

pub returns : goal.returns
returns c = λ yes k lt. c.loop-x.invariant.same (search rules) k (omega arith)
