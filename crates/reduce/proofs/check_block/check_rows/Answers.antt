-- `reduce::check_block::check_rows` meets its contract: a block, or one row.
use mathlib.Core.Path.{◌≡◌, sym, ap, ◌∙◌}
use Prim.Native.Nat.{ℕ, ◌*◌, ◌<◌}
use native.Mathlib.Nat.{one-mul}
use native.Mathlib.Omega.{arith}
use Rattle.rules.specs.Sizes.{half}
use Rattle.reduce.proofs.Rows.{held-row, first-row, rows-behind}
use Rattle.reduce.proofs.Standing.{right-ext, wrong-by}
use Rattle.reduce.proofs.check_block.check_rows.Goals as goal

pub returns-then-m-gt1 : goal.returns-then-m-gt1
returns-then-m-gt1 g c =
    let a = c.args in
    let room = c.requires.room in
    let block = c.requires.block c.if-m-gt1.true in
    rw block.0
    (wrong-by (λ r t. right-ext _ (λ k lt. rows-behind (g.R.Reduce.rule a.rule.now) a.w a.m a.above.first a.level.now k room.0 (omega (arith, lt, room))) t) c.check_block.ensures)

pub returns : goal.returns
returns g c =
    let a = c.args in
    let room = c.requires.room in
    let one : a.m ≡ 1 = omega (arith, room) in
    let wide : a.m * half a.w ≡ half a.w = ap (λ (k : ℕ). k * half a.w) one ∙ one-mul (half a.w) in
    let reduce = g.R.Reduce.rule a.rule.now in
    let row = rw (c.rows.ensures.width, c.rows.ensures.rows.0, c.rows.ensures.rows.1) at c.check_row.ensures in
    wrong-by
    (λ r t. right-ext _
    (λ k lt.
    let few : k < half a.w = omega (arith, lt, room, wide) in
    held-row reduce a.w a.above.first a.above.second a.level.now k room.0 few
    ∙ sym (first-row reduce a.w a.above.first a.above.second a.level.now k few)) t)
    row
