-- `reduce::check_block::check_block` meets its contract: the level after the rows above is made and compared.
use mathlib.Core.Path.{◌≡◌, sym, ap, ◌∙◌}
use Prim.Native.Nat.{ℕ, ◌*◌, ◌≤◌}
use native.Mathlib.Nat.{one-mul, mul-le-mul_left, mul-le-mul_right}
use native.Mathlib.Omega.{arith}
use lib.ListN.{length}
use Rattle.rules.specs.Sizes.{half}
use Rattle.rules.specs.Levels.{next}
use Rattle.rules.proofs.Chain.{length-next}
use Rattle.reduce.proofs.Standing.{wrong-by}
use Rattle.reduce.proofs.StandingLevels.{made-next, block-right}
use Rattle.reduce.proofs.check_block.check_block.Goals as goal

pub returns : goal.returns
returns g c =
    let a = c.args in
    let n = c.new.ensures in
    let block = c.requires.block in
    let rows = c.requires.rows in
    let reduce = g.R.Reduce.rule a.rule.now in
    let some : 1 ≤ half a.w = omega arith in
    let wide : a.w ≤ 4096 = omega (arith, block, mul-le-mul_right (half a.w) block.1) in
    let few : a.m ≤ 2048 = omega (arith, block, mul-le-mul_left a.m some) in
    let high : 1 * half (2 * a.m) ≡ a.m = one-mul (half (2 * a.m)) ∙ omega arith in
    let long : length (next reduce 1 a.w (2 * a.m) a.above.now) ≡ length a.c.now =
    length-next reduce 1 a.w (2 * a.m) a.above.now ∙ ap (λ (k : ℕ). k * half a.w) high ∙ sym rows.1 in
    wrong-by
    (λ r t. block-right reduce a.w a.m _ a.above.now block.0 wide block.1 few rows.0 rows.1
    (made-next _ _ _ (next reduce 1 a.w (2 * a.m) a.above.now) (rw (n.0, n.1, n.2) at c.make_next.ensures) long t)) c.alike.ensures
