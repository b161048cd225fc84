-- The weights of a bilinear lookup lie in 0 to 1: the parts along x and y do, since a value less its floor does, so do 1 less each, and so do
-- the products. Assumes nothing.
use Prim.Native.Nat.{ℕ, ◌≤◌}
use lib.Dec.{T}
use lib.Ieee.{Float}
use Rattle.rules.specs.declared.Mode.{Mode}
use Rattle.rules.specs.Refusals.{coordinate_taken}
use Rattle.rules.specs.Floats.{Between, zero32, one32, rest_of}
use Rattle.rules.specs.Bilinear.{span_of, axis_of, weights_of}
use Rattle.rules.specs.declared.Weights.{Weights}
use Rattle.texel.proofs.Unit.{rest_in, product-in}
use Rattle.texel.proofs.Fraction.{fraction-in}
use Rattle.places.proofs.Spans.{span-in}

pub record Weighed (w : Weights) : Type 0 where
  pub in00 : Between zero32 w.w00 one32
  pub in10 : Between zero32 w.w10 one32
  pub in01 : Between zero32 w.w01 one32
  pub in11 : Between zero32 w.w11 one32

pub one_less : (f : Float) → Between zero32 f one32 → Between zero32 (rest_of f) one32
one_less f b = rest_in f b

pub weighed : (fx fy : Float) → Between zero32 fx one32 → Between zero32 fy one32 → Weighed (weights_of fx fy)
unfolding weights_of
weighed fx fy b k =
    let x = rest_in fx b in
    let y = rest_in fy k in
    record {
      in00 = product-in (rest_of fx) (rest_of fy) x y;
      in10 = product-in fx (rest_of fy) b y;
      in01 = product-in (rest_of fx) fy x k;
      in11 = product-in fx fy b k;
    }

-- of coordinates that are taken, along the sides of a level
pub part_in : (mode : Mode) (u : Float) (w : ℕ) → T (coordinate_taken u) → 1 ≤ w → w ≤ 4096 → Between zero32 (axis_of mode (span_of u w) w).part one32
unfolding axis_of
part_in mode u w taken a b = fraction-in (span_of u w) (span-in u w taken a b)

pub lookup-weighed : (s t : Mode) (u v : Float) (w h : ℕ) → T (coordinate_taken u) → T (coordinate_taken v) → 1 ≤ w → w ≤ 4096 → 1 ≤ h → h ≤ 4096
    → Weighed (weights_of (axis_of s (span_of u w) w).part (axis_of t (span_of v h) h).part)
lookup-weighed s t u v w h i j a b k l = weighed _ _ (part_in s u w i a b) (part_in t v h j k l)
