-- `levels::level::PictureLevel::start` meets its contract: no level is above 12.
use native.Mathlib.Omega.{arith}
use Rattle.levels.proofs.Starts.{level-few}
use Rattle.levels.proofs.level.PictureLevel.start.Goals as goal

pub start_of-requires : goal.start_of-requires
start_of-requires c = let s = c.args.self.picture.sides in rw c.faces.ensures (omega (arith, s, level-few c.args.self))
