-- `levels::level::PictureLevel::shape` meets its contract: a level's sides are at least 1, and at most level 0's.
use native.Mathlib.Omega.{arith}
use Rattle.rules.proofs.Sides.{side-pos, side-le}
use Rattle.levels.proofs.level.PictureLevel.shape.Goals as goal

pub new-requires : goal.new-requires
new-requires c =
    let p = c.args.self.picture in
    let s = p.sides in
    let m = c.args.self.number in
    rw (c.faces.ensures, c.width.ensures, c.height.ensures) (omega (arith, s, side-pos m p.width, side-pos m p.height, side-le m p.width s.some-w, side-le m p.height s.some-h))
