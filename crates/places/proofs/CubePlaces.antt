-- Every place that a cubemap lookup reads lies inside its level, and inside the lent chain: the face is one of six, and a coordinate from 0 to 1
-- times a side's last texel rounds to one of the side's texels. A level that is lowered to the top is one of the picture's.
-- Assumes nothing.
use mathlib.Core.Path.{◌≡◌, refl, sym, subst}
use mathlib.Core.Bool.{true}
use Prim.Native.Nat.{ℕ, ◌-◌, ◌≤◌, ◌<◌, min}
use native.Mathlib.Nat.{min-le_right}
use native.Mathlib.Omega.{arith}
use lib.Dec.{T}
use lib.Ieee.{Float, binary32, fits}
use Rattle.rules.specs.Lanes.{Lanes}
use Rattle.rules.specs.Lanes.{Directions}
use Rattle.rules.specs.declared.Plane.{Plane}
use Rattle.rules.specs.Lanes.{Spot}
use Rattle.rules.specs.Kinds.{cubemap, faces_of}
use Rattle.rules.specs.Sizes.{top}
use Rattle.rules.specs.Floats.{Between, zero32, one32}
use Rattle.rules.specs.Faces.{direction_taken, spot_of}
use Rattle.rules.specs.Places.{plane_of, InLevel}
use Rattle.rules.specs.Cubemap.{cube_texel}
use Rattle.rules.specs.Refusals.{cubemap_refusal, trilinear_refusal}
use Rattle.rules.proofs.Sides.{side-pos, side-le}
use Rattle.rules.proofs.Refusing.{Chained}
use Rattle.rules.proofs.RefusingLookups.{Cubed, cubemap-facts, trilinear-facts}
use Rattle.rules.proofs.Inside.{Reads, reads}
use Rattle.texel.proofs.Coord.{texel-le}
use Rattle.places.specs.Spots.{OnCube}
use Rattle.places.proofs.Spots.{on-cube}

-- a rounded place lies in its side
pub cube-lt : (u : Float) (w : ℕ) → Between zero32 u one32 → 1 ≤ w → w ≤ 4096 → cube_texel u w < w
unfolding cube_texel
cube-lt u w b some most = let k = texel-le u (w - 1) b (omega arith) in omega arith

-- so the texel of a place on the cube lies inside its level
pub cube-in : {p : Plane} (s : Spot) → OnCube s → p.faces ≡ 6 → 1 ≤ p.width → p.width ≤ 4096 → 1 ≤ p.height → p.height ≤ 4096 → InLevel p s.face (cube_texel s.u p.width) (cube_texel s.v p.height)
cube-in {p} s on six w1 w2 h1 h2 =
    record {
      face = subst (λ (k : ℕ). s.face < k) (sym six) on.side;
      across = cube-lt s.u p.width on.across w1 w2;
      down = cube-lt s.v p.height on.along h1 h2;
    }

-- ---- the calls: where nothing is refused, the texel of each direction lies inside its level and inside the n texels that are lent, at every level
abbrev pub CubeReads : Plane → ℕ → Spot → Type 0
CubeReads p n s = Reads p n s.face (cube_texel s.u p.width) (cube_texel s.v p.height)

pub spot-reads : {w h n : ℕ} (s : Spot) (m : ℕ) → Chained cubemap w h n → OnCube s → CubeReads (plane_of cubemap w h (min m (top w h))) n s
unfolding plane_of faces_of
spot-reads {w} {h} s m c on =
    let k = min m (top w h) in
    let t = c.taken in
    reads k c (min-le_right m (top w h)) s.face _ _
    (cube-in s on refl (side-pos k w) (omega (arith, side-le k w t.some-w, t.most-w)) (side-pos k h) (omega (arith, side-le k h t.some-h, t.most-h)))

-- a direction of f32 numbers, at a level that is lowered to the top
abbrev Meets : ℕ → ℕ → ℕ → Float → Float → Float → Type 0
Meets w h n x y z = T (fits binary32 x) → T (fits binary32 z) → (m : ℕ) → CubeReads (plane_of cubemap w h (min m (top w h))) n (spot_of x y z)

abbrev pub EachMeets : ℕ → ℕ → ℕ → Directions → Type 0
EachMeets w h n d =
    Meets w h n d.x.a d.y.a d.z.a × Meets w h n d.x.b d.y.b d.z.b × Meets w h n d.x.c d.y.c d.z.c × Meets w h n d.x.d d.y.d d.z.d

module _ (kind w h n : ℕ) (d : Directions) where
  cubed-reads : Cubed kind w h n d → EachMeets w h n d
  cubed-reads k =
      let c : Chained cubemap w h n = subst (λ (i : ℕ). Chained i w h n) k.cube k.chained in
      let at : (x y z : Float) → direction_taken x y z ≡ true → Meets w h n x y z = λ x y z t fx fz m. spot-reads (spot_of x y z) m c (on-cube x y z fx fz (subst T (sym t) tt)) in
      (at _ _ _ k.directions.a, at _ _ _ k.directions.b, at _ _ _ k.directions.c, at _ _ _ k.directions.d)

  pub cubemap-reads : cubemap_refusal kind w h n d ≡ 0 → EachMeets w h n d
  cubemap-reads e = cubed-reads (cubemap-facts kind w h n d e)

  -- both levels of a fractional level
  pub trilinear-reads : (levels : Lanes) → trilinear_refusal kind w h n d levels ≡ 0 → EachMeets w h n d
  trilinear-reads levels e = cubed-reads (trilinear-facts kind w h n d levels e).0
