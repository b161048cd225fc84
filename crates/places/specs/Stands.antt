-- Texel numbers as f32 numbers, and where a coordinate stands along a side. Definitions only.
use Rattle.std.specs.Prelude.{◌≡◌, ℕ, ◌+◌, ◌*◌, ◌≤◌, pos, nat_abs, ◌+ℤ◌, Float}
use Rattle.std.specs.Float.{binary32}
use Rattle.std.specs.Float.Ieee.{sub, of_int}
use Rattle.rules.specs.Lanes.{Lanes, Wholes}
use Rattle.rules.specs.declared.Mode.{Mode}
use Rattle.rules.specs.declared.Axis.{Axis}
use Rattle.rules.specs.Whole.{floor_of}
use Rattle.rules.specs.Wrapping.{wrap_of}
use Rattle.rules.specs.Places.{nearest_of}
use Rattle.rules.specs.Bilinear.{span_of, axis_of}
use Rattle.choice.specs.Each.{InEach, each_of}

-- t is a whole number, no further from 0 than 2048 sides of d texels and one
pub record Counted (t : Float) (d : ℕ) : Type 0 where
  pub is : t ≡ of_int binary32 (floor_of t)
  pub near : nat_abs (floor_of t) ≤ 2048 * d + 1

abbrev pub AllCounted : Lanes → ℕ → Type 0
AllCounted t side = InEach (λ x. Counted x side) t

-- each of four texel numbers wrapped into the side d
unfoldable pub wraps_of : Mode → Lanes → ℕ → Wholes
wraps_of mode t d = each_of (λ x. wrap_of mode (floor_of x) d) t

-- the nearest texels of four lanes
unfoldable pub nearests_of : Mode → Lanes → ℕ → Wholes
nearests_of mode u w = each_of (λ x. wrap_of mode (nearest_of x w) w) u

-- s is where the coordinate u stands along a side of w texels
pub record Stands (u : Float) (w : ℕ) (s : Axis Float Float) : Type 0 where
  pub first : Counted s.first w
  pub second : Counted s.second w
  pub floor : floor_of s.first ≡ floor_of (span_of u w)
  pub after : floor_of s.second ≡ floor_of (span_of u w) +ℤ pos 1
  pub rest : s.part ≡ sub binary32 (span_of u w) (of_int binary32 (floor_of (span_of u w)))

-- the axes of four lanes, side by side
unfoldable pub axes_of : Mode → Lanes → ℕ → Axis Wholes Lanes
axes_of mode u w =
    let k = each_of (λ x. axis_of mode (span_of x w) w) u in
    record { first = each_of (λ x. x.first) k; second = each_of (λ x. x.second) k; part = each_of (λ x. x.part) k }
