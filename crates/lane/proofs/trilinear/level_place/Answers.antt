-- `lane::trilinear::level_place` meets its contract: a cubemap's level has six faces, and a level of the picture is not lowered.
use Rattle.lane.proofs.Holding.{six-faces}
use Rattle.lane.proofs.trilinear.level_place.Goals as goal

pub cube_place-requires : goal.cube_place-requires
cube_place-requires c = (rw (c.level_at.ensures, c.args.cube.is) (six-faces _ _ _), c.requires.0)
