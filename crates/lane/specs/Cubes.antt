-- The places of four lanes on the cube, each at a level or between two. Definitions only.
use Rattle.std.specs.Prelude.{ℕ, min}
use Rattle.rules.specs.Lanes.{Lanes, Wholes, Directions, Spot, Spots, lanes_of}
use Rattle.rules.specs.declared.Four.{Four}
use Rattle.rules.specs.declared.Pairing.{Pairing}
use Rattle.rules.specs.Kinds.{cubemap}
use Rattle.rules.specs.Sizes.{top}
use Rattle.rules.specs.Places.{plane_of}
use Rattle.rules.specs.Cubemap.{cube_place, pairing_of, lerp_of}
use Rattle.choice.specs.Each.{InEach, each_of, each_two}
use Rattle.places.specs.Spots.{OnCube}

-- lane by lane
abbrev pub spots_in : Spots → Four Spot
spots_in s =
    record {
      a = record { face = s.face.a; u = s.u.a; v = s.v.a };
      b = record { face = s.face.b; u = s.u.b; v = s.v.b };
      c = record { face = s.face.c; u = s.u.c; v = s.v.c };
      d = record { face = s.face.d; u = s.u.d; v = s.v.d };
    }

-- each lies on the cube
abbrev pub AllOnCube : Spots → Type 0
AllOnCube s = InEach OnCube (spots_in s)

-- where a lane reads a level that is lowered to the top level
abbrev pub lowered_place : ℕ → ℕ → Spot → ℕ → ℕ
lowered_place w h s m = cube_place (plane_of cubemap w h (min m (top w h))) s

-- the places of four lanes, each at its own level
unfoldable pub cube_four : ℕ → ℕ → Spots → Wholes → Wholes
cube_four w h s m = each_two (lowered_place w h) (spots_in s) m

-- the two levels of four lanes' fractional levels
unfoldable pub two_levels : Lanes → ℕ → Pairing Wholes Lanes
two_levels levels n =
    let m = each_of (λ x. pairing_of x n) levels in
    record { low = each_of (λ p. p.low) m; high = each_of (λ p. p.high) m; part = each_of (λ p. p.part) m }

-- c0 + (c1 - c0) * t, lane by lane
abbrev pub lerp_lanes : Lanes → Lanes → Lanes → Lanes
lerp_lanes p q t = lanes_of (lerp_of p.a q.a t.a) (lerp_of p.b q.b t.b) (lerp_of p.c q.c t.c) (lerp_of p.d q.d t.d)

-- and channel by channel
abbrev pub lerp_colours : Directions → Directions → Lanes → Directions
lerp_colours p q t = record { x = lerp_lanes p.x q.x t; y = lerp_lanes p.y q.y t; z = lerp_lanes p.z q.z t }
