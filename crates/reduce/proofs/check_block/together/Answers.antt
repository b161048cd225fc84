-- `reduce::check_block::together` meets its contract: so many rows with their sources are at most a quotient of the room, of which a row's
-- own texels are a third at most.
use Prim.Native.Nat.{ℕ, ◌+◌, ◌*◌, ◌/◌, ◌≤◌}
use native.Mathlib.Nat.{le_trans, mul_assoc, mul_left_comm, mul-add, mul-le-mul_left, mul-le-mul_right, div-mul-le_self}
use native.Mathlib.Omega.{arith}
use Rattle.rules.specs.Sizes.{half}
use Rattle.reduce.proofs.check_block.together.Goals as goal

-- r rows, each with v texels, and twice as many sources of w texels
held : (r w v : ℕ) → r ≤ 384 / (2 * w + v) → 2 * r * w + r * v ≤ 384
held r w v le =
    rw (mul_assoc 2 r w, ← mul_left_comm r 2 w, ← mul-add r (2 * w) v) (le_trans (mul-le-mul_right (2 * w + v) le) (div-mul-le_self 384 (2 * w + v)))

pub returns-then-blocks-clause-block : goal.returns-then-blocks-clause-block
returns-then-blocks-clause-block c = λ several.
    let w = c.args.shape.width in
    let m = c.min.result in
    let sides = c.args.shape.sides in
    let narrow : half w ≤ w = omega arith in
    let least = rw c.halved.ensures at c.min.ensures in
    let fits = held m w (half w) (omega (arith, least)) in
    (c.in_a_run.ensures.tall (omega (arith, several, c.min.ensures)), omega (arith, fits, mul_assoc 2 m w, mul-le-mul_left m narrow))
