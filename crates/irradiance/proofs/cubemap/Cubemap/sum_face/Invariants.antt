-- `irradiance::cubemap::Cubemap::sum_face` meets its contract. The invariant: y rows are summed.
use mathlib.Core.Path.{◌≡◌}
use Rattle.rules.specs.Irradiance.{in_turn}
use Rattle.irradiance.specs.Turns.{with_row}
use Rattle.irradiance.proofs.cubemap.Cubemap.sum_face.Given as goal

abbrev pub invariant-loop-y : goal.invariant-loop-y
invariant-loop-y l = l.sums ≡ in_turn l.y (with_row l.self l.face) l.initial.sums
