-- `levels::layout::Layout::plane` meets its contract: the level's entry is where it starts.
use native.Mathlib.Omega.{arith}
use Rattle.rules.proofs.Bounds.{top-most}
use Rattle.levels.proofs.layout.Layout.plane.Goals as goal

pub bounds-self-level : goal.bounds-self-level
bounds-self-level c = let p = c.args.self.now.picture in let s = p.sides in omega (arith, top-most p.width p.height s.some-w s.most-w s.most-h)
