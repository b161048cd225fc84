-- `levels::level::PictureLevel::side` meets its contract: no level is above 12.
use native.Mathlib.Omega.{arith}
use Rattle.levels.proofs.Starts.{level-few}
use Rattle.levels.proofs.level.PictureLevel.side.Goals as goal

pub side_at-requires : goal.side_at-requires
side_at-requires c = omega (arith, level-few c.args.self)
