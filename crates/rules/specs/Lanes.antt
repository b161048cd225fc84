-- The four lanes travel together as one record of four numbers; three of these are four directions, or four colours. Definitions only.
use Rattle.std.specs.Prelude.{Bool, ◌&&◌, ℕ, Float}
use Rattle.rules.specs.declared.Four.{Four}
use Rattle.rules.specs.declared.Vector.{Vector}
use Rattle.rules.specs.declared.Rgb.{Rgb}
use Rattle.rules.specs.declared.Met.{Met}

abbrev pub Lanes : Type 0
Lanes = Four Float

abbrev pub Wholes : Type 0
Wholes = Four ℕ

abbrev pub Directions : Type 0
Directions = Vector Lanes

-- where one direction meets the cube, and where four do
abbrev pub Spot : Type 0
Spot = Met ℕ Float

abbrev pub Spots : Type 0
Spots = Met Wholes Lanes

abbrev pub lanes_of : Float → Float → Float → Float → Lanes
lanes_of a b c d = record { a = a; b = b; c = c; d = d }

-- a test that holds in every lane
unfoldable pub in_lanes : {A : Type 0} → (A → Bool) → Four A → Bool
in_lanes test l = test l.a && (test l.b && (test l.c && test l.d))

unfoldable pub in_directions : (Float → Float → Float → Bool) → Directions → Bool
in_directions test n =
    test n.x.a n.y.a n.z.a
    && (test n.x.b n.y.b n.z.b
    && (test n.x.c n.y.c n.z.c && test n.x.d n.y.d n.z.d))

-- four colours, lane by lane
abbrev pub rgb_lanes : Rgb → Rgb → Rgb → Rgb → Directions
rgb_lanes p q r s =
    record {
      x = lanes_of p.r q.r r.r s.r;
      y = lanes_of p.g q.g r.g s.g;
      z = lanes_of p.b q.b r.b s.b;
    }
