-- What document 01 claims of ranges. Every value packed lies in 0 to 1, kind by kind; so does the mean that SRGB looks up; the bilinear weights
-- and 1 - weight lie in 0 to 1; and both coordinates on a face do. Assumes nothing.
use Prim.Native.Nat.{ℕ, ◌<◌}
use lib.Dec.{T}
use lib.Ieee.{Float, binary32, neg, sub, mul, of_int}
use lib.Ieee.Positive.{positive}
use Rattle.rules.specs.Floats.{Between, zero32, one32, unpack_of, mean_of, rest_of}
use Rattle.rules.specs.Reducing.{normal_mean, squares_mean}
use Rattle.rules.specs.Root.{sqrt_of}
use Rattle.rules.specs.Curve.{curve}
use Rattle.rules.specs.Whole.{floor_of}
use Rattle.rules.specs.Faces.{on_face}
use Rattle.texel.specs.Ends.{low23, high23}
use Rattle.texel.proofs.Unit.{unpack-in, mean-in, normal-in, product-in, rest_in, on-face-in}
use Rattle.texel.proofs.RootRule.{root_in}
use Rattle.texel.proofs.Inverse.{curve-in}
use Rattle.texel.proofs.Fraction.{fraction-in}

module _ (a b c d : ℕ) (A : a < 256) (B : b < 256) (C : c < 256) (D : d < 256) where
  -- Linear, Cubemap, MetallicRoughness' blue, SRGB's alpha
  pub mean-packed : Between zero32 (mean_of (unpack_of a) (unpack_of b) (unpack_of c) (unpack_of d)) one32
  mean-packed = mean-in (unpack_of a) (unpack_of b) (unpack_of c) (unpack_of d) (unpack-in a A) (unpack-in b B) (unpack-in c C) (unpack-in d D)

  -- Normal
  pub normal-packed : Between zero32 (normal_mean (unpack_of a) (unpack_of b) (unpack_of c) (unpack_of d)) one32
  normal-packed = normal-in (unpack_of a) (unpack_of b) (unpack_of c) (unpack_of d) (unpack-in a A) (unpack-in b B) (unpack-in c C) (unpack-in d D)

  -- MetallicRoughness' green: the mean of squares, and its root
  square : (k : ℕ) → k < 256 → Between zero32 (mul binary32 (unpack_of k) (unpack_of k)) one32
  square k h = product-in (unpack_of k) (unpack_of k) (unpack-in k h) (unpack-in k h)

  pub squares-in : Between zero32 (squares_mean (unpack_of a) (unpack_of b) (unpack_of c) (unpack_of d)) one32
  squares-in = mean-in _ _ _ _ (square a A) (square b B) (square c C) (square d D)

  pub root-packed : Between zero32 (sqrt_of (squares_mean (unpack_of a) (unpack_of b) (unpack_of c) (unpack_of d))) one32
  root-packed = root_in (squares_mean (unpack_of a) (unpack_of b) (unpack_of c) (unpack_of d)) squares-in

  -- SRGB's colour channels: the mean of the T values
  pub curve-mean : Between zero32 (mean_of (curve a) (curve b) (curve c) (curve d)) one32
  curve-mean = mean-in (curve a) (curve b) (curve c) (curve d) (curve-in a A) (curve-in b B) (curve-in c C) (curve-in d D)

-- the bilinear weights, x_f - floor(x_f), and 1 - weight
pub weight-in : (x : Float) → Between low23 x high23 → Between zero32 (sub binary32 x (of_int binary32 (floor_of x))) one32 × Between zero32 (rest_of (sub binary32 x (of_int binary32 (floor_of x)))) one32
weight-in x b = (fraction-in x b, rest_in (sub binary32 x (of_int binary32 (floor_of x))) (fraction-in x b))

-- both coordinates on a face, for a q and a p of magnitude up to the major one
pub coordinates-in : (q p major : Float) → T (positive major) → Between (neg major) q major → Between (neg major) p major → Between zero32 (on_face q major) one32 × Between zero32 (on_face p major) one32
coordinates-in q p major h b k = (on-face-in q major h b, on-face-in p major h k)
