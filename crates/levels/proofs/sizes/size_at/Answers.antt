-- `levels::sizes::size_at` meets its contract: no product wraps.
use native.Mathlib.Nat.{mul-le-mul}
use native.Mathlib.Omega.{arith}
use Rattle.rules.specs.Sizes.{size_at}
use Rattle.levels.proofs.Starts.{side-most, size-most}
use Rattle.levels.proofs.sizes.size_at.Goals as goal

pub overflow_mul-result : goal.overflow_mul-result
overflow_mul-result c =
    let a = c.args in
    let p = c.requires in
    rw c.side_at.ensures (omega (arith, mul-le-mul p.0 (side-most a.level a.height p.2)))

pub overflow_mul-result-2 : goal.overflow_mul-result-2
unfolding size_at
overflow_mul-result-2 c =
    let a = c.args in
    let p = c.requires in
    rw (c.side_at.ensures, c.side_at-2.ensures) (omega (arith, size-most a.faces a.width a.height p.0 p.1 p.2 a.level))
