-- `lane::cubemap::Cube::lowered_place` meets its contract: a cubemap's level has six faces.
use Rattle.lane.proofs.Holding.{six-faces}
use Rattle.lane.proofs.cubemap.Cube.lowered_place.Goals as goal

pub cube_place-requires : goal.cube_place-requires
cube_place-requires c = (rw c.lowered.ensures (six-faces _ _ _), c.requires)
