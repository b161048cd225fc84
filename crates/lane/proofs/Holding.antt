-- The places of four lanes are among the texels of a chain that they hold. Assumes nothing.
use mathlib.Core.Path.{◌≡◌, refl}
use mathlib.Core.List.{List}
use Prim.Native.Nat.{ℕ, ◌≤◌}
use native.Mathlib.Omega.{arith}
use lib.ListN.{length}
use Rattle.rules.specs.Lanes.{Lanes}
use Rattle.rules.specs.Lanes.{Wholes}
use Rattle.rules.specs.declared.Mode.{Mode}
use Rattle.rules.specs.Lanes.{Spots}
use Rattle.rules.specs.Kinds.{cubemap, faces_of}
use Rattle.rules.specs.Sizes.{top}
use Rattle.rules.specs.Places.{plane_of, nearest_place}
use Rattle.rules.specs.Cubemap.{cube_place}
use Rattle.rules.proofs.Sides.{side-pos, side-le}
use Rattle.rules.proofs.Bounds.{level-end, count_most}
use Rattle.reduce.specs.Levels.{Sides}
use Rattle.rules.proofs.Refusing.{Chained}
use Rattle.rules.proofs.Inside.{nearest-reads, corners-read}
use Rattle.places.proofs.CubePlaces.{spot-reads}
use Rattle.places.specs.Sized.{Sized, Below}
use Rattle.places.specs.Stands.{axes_of}
use Rattle.lane.specs.Cubes.{AllOnCube, cube_four}
use Rattle.lane.specs.Reading.{nearest_four, places_of, squares_at, Inside, AllWithin}

-- a level of a picture
pub plane-sized : (kind : ℕ) {w h m : ℕ} → Sides (faces_of kind) w h → m ≤ top w h → Sized (plane_of kind w h m)
unfolding plane_of
plane-sized kind {w} {h} {m} s le =
    record {
      most-start = omega (arith, level-end (faces_of kind) w h m le, count_most (faces_of kind) w h s.most-f s.some-w s.some-h s.most-w s.most-h);
      some-faces = s.some-f;
      most-faces = s.most-f;
      some-w = side-pos m w;
      most-w = omega (arith, side-le m w s.some-w, s.most-w);
      some-h = side-pos m h;
      most-h = omega (arith, side-le m h s.some-h, s.most-h);
    }

-- a cubemap's level has six faces
pub six-faces : (w h m : ℕ) → (plane_of cubemap w h m).faces ≡ 6
unfolding plane_of faces_of
six-faces w h m = refl

-- by coordinates
module _ {kind w h : ℕ} (l : List ℕ) (m : ℕ) (c : Chained kind w h (length l)) (below : m ≤ top w h) (s t : Mode) (u v : Lanes) where
  pub nearest-inside : Inside l (nearest_four (plane_of kind w h m) s t u v)
  unfolding nearest_four nearest_place
  nearest-inside =
      let at = nearest-reads m c below s t in
      record { a = (at u.a v.a).lent; b = (at u.b v.b).lent; c = (at u.c v.c).lent; d = (at u.d v.d).lent }

  pub squares-within : (f : Wholes) → Below (faces_of kind) f → AllWithin l (squares_at (plane_of kind w h m) f s t u v)
  unfolding squares_at axes_of places_of
  squares-within f on =
      let at = corners-read m c below s t in
      let p = at f.a on.a u.a v.a in
      let q = at f.b on.b u.b v.b in
      let r = at f.c on.c u.c v.c in
      let z = at f.d on.d u.d v.d in
      record {
        in00 = record { a = p.0.lent; b = q.0.lent; c = r.0.lent; d = z.0.lent };
        in10 = record { a = p.1.lent; b = q.1.lent; c = r.1.lent; d = z.1.lent };
        in01 = record { a = p.2.lent; b = q.2.lent; c = r.2.lent; d = z.2.lent };
        in11 = record { a = p.3.lent; b = q.3.lent; c = r.3.lent; d = z.3.lent };
      }

-- on the cube, at every level
pub cubes-inside : {w h : ℕ} (l : List ℕ) (s : Spots) (m : Wholes) → Chained cubemap w h (length l) → AllOnCube s → Inside l (cube_four w h s m)
unfolding cube_four cube_place
cubes-inside l s m c on =
    record {
      a = (spot-reads _ m.a c on.a).lent;
      b = (spot-reads _ m.b c on.b).lent;
      c = (spot-reads _ m.c c on.c).lent;
      d = (spot-reads _ m.d c on.d).lent;
    }
