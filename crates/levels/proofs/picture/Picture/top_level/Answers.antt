-- `levels::picture::Picture::top_level` meets its contract: a side is at most 4,096, which is 2^12.
use native.Mathlib.Omega.{arith}
use Rattle.rules.proofs.Bounds.{top-most}
use Rattle.levels.proofs.picture.Picture.top_level.Goals as goal

pub returns : goal.returns
returns c = let p = c.args.self in let s = p.sides in let e = c.top_level.ensures in (e, omega (arith, e, top-most p.width p.height s.some-w s.most-w s.most-h))
