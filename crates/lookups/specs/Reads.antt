-- Where the nearest lookup reads once nothing is refused. Definitions only.
use Rattle.std.specs.Prelude.{ℕ}
use Rattle.rules.specs.declared.Four.{Four}
use Rattle.rules.specs.declared.Sampler.{Sampler}
use Rattle.rules.specs.Lanes.{Lanes}
use Rattle.rules.specs.Wrapping.{mode_of}
use Rattle.rules.specs.Footprint.{mip_level_of}
use Rattle.rules.specs.Places.{plane_of}
use Rattle.lane.specs.Reading.{nearest_four}

-- at the level that the steps ask for
unfoldable pub sample4_four : ℕ → ℕ → ℕ → Sampler → Lanes → Lanes → Lanes → Four ℕ
sample4_four kind w h sampler u v steps = nearest_four (plane_of kind w h (mip_level_of w h steps)) (mode_of sampler.wrap_s) (mode_of sampler.wrap_t) u v
