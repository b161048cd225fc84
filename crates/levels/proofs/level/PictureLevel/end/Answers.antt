-- `levels::level::PictureLevel::end` meets its contract: the level above starts where the level ends.
use native.Mathlib.Omega.{arith}
use Rattle.levels.proofs.Starts.{level-few}
use Rattle.levels.proofs.level.PictureLevel.end.Goals as goal

pub overflow_add-above : goal.overflow_add-above
overflow_add-above c = omega (arith, level-few c.args.self)

pub start_of-requires : goal.start_of-requires
start_of-requires c = let s = c.args.self.picture.sides in rw c.faces.ensures (omega (arith, s, level-few c.args.self))
