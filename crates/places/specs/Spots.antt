-- Which magnitudes are taken, and what is true of a place on the cube. Definitions only.
use Rattle.std.specs.Prelude.{Bool, ◌&&◌, ◌||◌, ◌<◌, Float}
use Rattle.std.specs.Float.Ieee.{le}
use Rattle.rules.specs.Lanes.{Spot}
use Rattle.rules.specs.Floats.{Between, zero32, one32}
use Rattle.rules.specs.Faces.{low60, high60}

-- each magnitude is at most 2^60, and one is 2^-60 at least
abbrev pub sizes_taken : Float → Float → Float → Bool
sizes_taken ax ay az = le ax high60 && (le ay high60 && (le az high60 && (le low60 ax || (le low60 ay || le low60 az))))

-- the face is one of six, and both coordinates lie in 0 to 1
pub record OnCube (s : Spot) : Type 0 where
  pub side : s.face < 6
  pub across : Between zero32 s.u one32
  pub along : Between zero32 s.v one32
