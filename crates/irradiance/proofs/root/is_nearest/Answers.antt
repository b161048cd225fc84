-- `irradiance::root::is_nearest` meets its contract: r*r - r < n ≤ r*r + r is the rule.
use Prim.Native.Nat.{ℕ, ◌*◌, ◌≤◌, ◌<◌}
use native.Mathlib.Nat.{mul-le-mul, mul-le-mul_right, le_of_lt}
use native.Mathlib.Omega.{arith}
use borrow.Author.Tests.{leb-true}
use Rattle.irradiance.proofs.Roots.{rounded}
use Rattle.irradiance.proofs.root.is_nearest.Goals as goal

-- the square of 24 digits has 48, and is no less than they are
square-in : (r : ℕ) → 8388608 ≤ r → r < 16777216 → (r ≤ r * r) × (r * r ≤ 16777216 * 16777216)
square-in r l h =
    let low : 1 * r ≤ r * r = mul-le-mul_right r (omega arith) in
    (omega arith, mul-le-mul (le_of_lt h) (le_of_lt h))

pub overflow_mul-square : goal.overflow_mul-square
overflow_mul-square c = let s = square-in c.args.r c.requires.0 c.requires.1 in omega arith

pub overflow_add-result : goal.overflow_add-result
overflow_add-result c = let s = square-in c.args.r c.requires.0 c.requires.1 in omega arith

pub returns-then-square-r : goal.returns-then-square-r
returns-then-square-r c e = rounded _ c.args.r c.requires.0 c.requires.1 c.if-square-r.true (leb-true _ _ e)
