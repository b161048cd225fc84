-- `irradiance::cubemap::Cubemap::centres` meets its contract. The invariant: the places of the columns so far are held.
use Rattle.std.proofs.Common.{◌≡◌, ◌+◌, ◌<◌, ℕ}
use lib.ListN.{get_or}
use Rattle.rules.specs.Irradiance.{centre_of}
use Rattle.irradiance.specs.declared.place.Coordinate.{Coordinate}
use Rattle.irradiance.proofs.cubemap.Cubemap.centres.Given as goal

abbrev pub invariant-loop-i : goal.invariant-loop-i
invariant-loop-i l = (j : ℕ) (past : Coordinate) → j < l.i → (get_or l.us j past).at ≡ centre_of l.self.width (l.from + j)
