use mathlib.Core.Path.{refl}
use Prim.Native.Nat.{◌/◌}
use native.Mathlib.Omega.{arith}
use Rattle.rules.specs.Cross.{cross_height, column_of}
use Rattle.levels.proofs.Crosses.{FaceRow, faces-first, faces-place, faces-more, faces-end, over-filled, part-room}
use Rattle.levels.proofs.cross.write_faces.Goals as goal
use Rattle.levels.proofs.cross.write_faces.Goals.{After-column_of, After-row_of}

pub overflow_mul-rows : goal.overflow_mul-rows
overflow_mul-rows c = omega arith

pub loop-y-init : goal.loop-y-init
loop-y-init c =
    let p = c.requires in
    faces-first _ _ _ _ (omega arith) p.bytes_room p.faces_room

pub nonzero_div-face : goal.nonzero_div-face
nonzero_div-face c = omega arith

-- where the row is read and where it goes
row : (c : goal.After-row_of)
    → let a = c.args in
    let y = c.loop-y.y in
    FaceRow a.width a.height y c.row_of.result (column_of (y / cross_height a.height)) a.bytes.now a.faces.now
row c = faces-place c.loop-y.invariant c.loop-y-test.true c.row_of.ensures refl

pub overflow_mul-row : goal.overflow_mul-row
overflow_mul-row c = omega (arith, row c)

pub nonzero_rem-row : goal.nonzero_rem-row
nonzero_rem-row c = omega arith

pub overflow_add-row : goal.overflow_add-row
overflow_add-row c = omega (arith, row c)

pub overflow_mul-from : goal.overflow_mul-from
overflow_mul-from c = omega (arith, row c)

place : (c : goal.After-column_of)
    → let a = c.args in
    FaceRow a.width a.height c.loop-y.y c.row_of.result c.column_of.result a.bytes.now a.faces.now
place c =
    faces-place c.loop-y.invariant c.loop-y-test.true c.row_of.ensures c.column_of.ensures

pub overflow_mul-from-in-loop-y : goal.overflow_mul-from-in-loop-y
overflow_mul-from-in-loop-y c = omega (arith, place c)

pub overflow_add-from : goal.overflow_add-from
overflow_add-from c = omega (arith, place c)

pub overflow_mul-from-in-loop-y-2 : goal.overflow_mul-from-in-loop-y-2
overflow_mul-from-in-loop-y-2 c = omega (arith, place c)

pub slice_bounds-put_bytes-count : goal.slice_bounds-put_bytes-count
slice_bounds-put_bytes-count c = omega (arith, place (goal.at.slice_bounds-put_bytes-count c).After-column_of, c.requires)

pub slice_bounds-put_bytes-start : goal.slice_bounds-put_bytes-start
slice_bounds-put_bytes-start c = omega (arith, place (goal.at.slice_bounds-put_bytes-start c).After-column_of, c.requires)

pub slice_bounds-put_bytes-end-in-loop-y : goal.slice_bounds-put_bytes-end-in-loop-y
slice_bounds-put_bytes-end-in-loop-y c =
    omega (arith, place (goal.at.slice_bounds-put_bytes-end-in-loop-y c).After-column_of, c.loop-y.invariant.rows.run.as_long)

pub put_bytes-requires : goal.put_bytes-requires
put_bytes-requires c =
    let p = place (goal.at.put_bytes-requires c).After-column_of in
    part-room _ _ _ c.loop-y.faces c.args.bytes.now (omega (arith, p, c.loop-y.invariant.rows.run.as_long)) (omega (arith, p, c.loop-y.invariant.read))

pub loop-y-preserved : goal.loop-y-preserved
loop-y-preserved c =
    let t = c.loop-y.invariant in
    let p = place (goal.at.loop-y-preserved c).After-column_of in
    faces-more t c.loop-y-test.true _ c.row_of.ensures c.column_of.ensures
    (over-filled _ _ c.loop-y.faces _ _ (omega (arith, p, t.rows.run.as_long)) c.put_bytes.ensures)

pub shape_of-faces : goal.shape_of-faces
shape_of-faces c = c.loop-y.invariant.rows.run.as_long

pub returns : goal.returns
returns c = faces-end c.loop-y.invariant c.loop-y-test.false
