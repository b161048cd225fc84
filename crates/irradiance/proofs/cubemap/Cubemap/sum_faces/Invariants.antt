-- `irradiance::cubemap::Cubemap::sum_faces` meets its contract. The invariant: the faces so far are summed, from +0.
use mathlib.Core.Path.{◌≡◌}
use Rattle.rules.specs.Irradiance.{in_turn, unlit}
use Rattle.irradiance.specs.Turns.{with_row}
use Rattle.irradiance.proofs.cubemap.Cubemap.sum_faces.Given as goal

abbrev pub invariant-loop-face : goal.invariant-loop-face
invariant-loop-face l =
    l.sums ≡ in_turn l.face (λ f. in_turn l.self.height (with_row l.self f)) unlit
