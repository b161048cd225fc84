-- `ranges::refusals::check_ranges` meets its contract: a picture that `level_sizes` does not refuse is taken.
use mathlib.Core.Path.{sym, ap, ◌∙◌}
use native.Mathlib.Nat.{mul-le-mul}
use native.Mathlib.Omega.{arith}
use Rattle.std.specs.Prelude.{Ok}
use Rattle.rules.proofs.Answering.{first, told_none}
use Rattle.rules.proofs.Bounds.{faces-most, taken-level0}
use Rattle.rules.proofs.Refusing.{Taken, picture-facts}
use Rattle.rules.proofs.RefusingRanges.{level0_told}
use Rattle.ranges.proofs.refusals.check_ranges.Goals as goal
use Rattle.ranges.proofs.refusals.check_ranges.Goals.{In_ok-level_sizes}

known : (c : goal.In_ok-level_sizes) → let a = c.args in Taken a.kind a.width a.height
known c = picture-facts _ _ _ (told_none _ (level0_told _ _ _ ∙ ap (λ s. first s (Ok tt)) (sym c.in_ok-level_sizes.ensures.answer)))

pub overflow_mul-level0 : goal.overflow_mul-level0
overflow_mul-level0 c =
    let faces = faces-most c.args.kind in
    rw c.faces_of.ensures (omega (arith, mul-le-mul {n₂ = 6} faces (known (goal.at.overflow_mul-level0 c).In_ok-level_sizes).most-h))

pub overflow_mul-level0-2 : goal.overflow_mul-level0-2
overflow_mul-level0-2 c = rw c.faces_of.ensures (omega (arith, taken-level0 (known (goal.at.overflow_mul-level0-2 c).In_ok-level_sizes)))

pub ranges_size-requires : goal.ranges_size-requires
ranges_size-requires c = let k = known (goal.at.ranges_size-requires c).In_ok-level_sizes in (k.most-w, k.most-h)
