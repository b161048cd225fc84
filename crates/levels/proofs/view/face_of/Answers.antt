-- `levels::view::face_of` meets its contract: a face of a level ends within the chain.
use mathlib.Core.Path.{◌≡◌}
use Prim.Native.Nat.{◌+◌, ◌*◌, ◌≤◌}
use native.Mathlib.Nat.{le_trans}
use native.Mathlib.Omega.{arith}
use lib.ListN.{length}
use Rattle.rules.specs.Kinds.{faces_of}
use Rattle.rules.specs.Sizes.{side_at, start}
use Rattle.rules.specs.Places.{plane_of}
use Rattle.rules.specs.View.{face_start}
use Rattle.rules.proofs.Bounds.{face-end}
use Rattle.levels.proofs.view.face_of.Goals as goal
use Rattle.levels.proofs.view.face_of.Goals.{After-plane-plane}

-- where the level starts, and that the face ends within the buffer
ends : (c : goal.After-plane-plane)
    → let a = c.args in
    let size = c.plane-plane.result.height * c.plane-plane.result.width in
    (c.plane-plane.result.start ≡ start (faces_of a.kind) a.width a.height a.level)
    × (size ≡ side_at a.level a.height * side_at a.level a.width)
    × (c.plane-plane.result.start + a.face * size + size ≤ length a.texels.now)
unfolding plane_of face_start
ends c =
    let a = c.args in
    let given = c.in_ok-layout.ensures in
    let is = c.in_ok-picture.ensures.is in
    let at : c.plane-plane.result.start ≡ start (faces_of a.kind) a.width a.height a.level = rw c.plane-plane.ensures (rw given.is (rw (is.0, is.1, is.2))) in
    let e : c.plane-plane.result.height * c.plane-plane.result.width ≡ side_at a.level a.height * side_at a.level a.width = rw c.plane-plane.ensures (rw given.is (rw (is.1, is.2))) in
    let below = rw (is.1, is.2) at c.in_ok-check_level.ensures.below in
    let face = rw is.0 at c.in_ok-check_face.ensures.below in
    let room = rw (is.0, is.1, is.2) at given.room in
    (at, e, rw (at, e) (le_trans (face-end (faces_of a.kind) a.width a.height a.level a.face below.0 face) room))

pub overflow_mul-size : goal.overflow_mul-size
overflow_mul-size c = omega (arith, ends (goal.at.overflow_mul-size c).After-plane-plane)

pub overflow_mul-start : goal.overflow_mul-start
overflow_mul-start c = omega (arith, ends (goal.at.overflow_mul-start c).After-plane-plane)

pub overflow_add-start : goal.overflow_add-start
overflow_add-start c = omega (arith, ends (goal.at.overflow_add-start c).After-plane-plane)

pub returns-clause-is : goal.returns-clause-is
unfolding face_start
returns-clause-is c = let f = ends (goal.at.returns-clause-is c).After-plane-plane in ((rw (f.0, f.1), f.1), f.2)
