-- `levels::cross::check_cross` meets its contract: 10 is looked at before any product of the sides.
use mathlib.Core.Path.{sym}
use native.Mathlib.Omega.{arith}
use Rattle.rules.proofs.Answering.{told_none}
use Rattle.levels.proofs.Crosses.{cross-faces-sides, cross-most}
use Rattle.levels.proofs.cross.check_cross.Goals as goal

pub overflow_mul-h-2 : goal.overflow_mul-h-2
overflow_mul-h-2 c = omega (arith, cross-most _ _ (cross-faces-sides _ _ (told_none _ (sym c.in_ok-check_cross_sides.ensures))))
