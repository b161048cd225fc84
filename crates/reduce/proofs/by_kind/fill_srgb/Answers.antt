-- `reduce::by_kind::fill_srgb` meets its contract: where one level is left, it stands there.
use native.Mathlib.Omega.{arith}
use Rattle.rules.specs.Reducing.{srgb_of}
use Rattle.reduce.proofs.Steps.{step-none}
use Rattle.reduce.proofs.by_kind.fill_srgb.Goals as goal

pub returns-else-left-gt1 : goal.returns-else-left-gt1
returns-else-left-gt1 c = step-none (srgb_of c.args.packing) c.args.shape.sides c.requires.room.0 (omega arith)
