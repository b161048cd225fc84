-- `levels::lent::Chain::verdict` meets its contract: the first of the levels' verdicts.
use native.Mathlib.Numerals.{add-one}
use Rattle.std.proofs.Common.{rules}
use Rattle.rules.specs.Kinds.{faces_of, code_of}
use Rattle.rules.specs.Reducing.{reduce_of}
use Rattle.rules.specs.Checks.{level_verdict_of, chain_verdict_of}
use Rattle.levels.proofs.Firsts.{first_mapped, first_verdict}
use Rattle.levels.proofs.lent.Chain.verdict.Goals as goal

pub returns : goal.returns
unfolding level_verdict_of chain_verdict_of
returns c =
    let a = c.args in
    let p = a.self.picture in
    let K = code_of p.kind in
    rw (← add-one, ← c.top_level.ensures.0)
    (first_verdict (reduce_of K a.packing) (faces_of K) p.width p.height a.self.texels.now _ _
    (first_mapped _ (λ x r f k. search rules) (λ x r k. search rules) _ _ _ c.new.ensures.start c.new.ensures.end c.new.ensures.exhausted c.find_map.ensures.runs))
