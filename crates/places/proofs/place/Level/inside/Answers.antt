-- `places::place::Level::inside` meets its contract: at most 24,575 whole rows of at most 4,096 texels come before.
use mathlib.Core.Path.{refl}
use Prim.Native.Nat.{ℕ, ◌+◌, ◌*◌, ◌≤◌}
use native.Mathlib.Nat.{mul-le-mul}
use native.Mathlib.Omega.{arith}
use Rattle.rules.specs.declared.Plane.{Plane}
use Rattle.rules.specs.Places.{InLevel}
use Rattle.places.specs.Sized.{Sized}
use Rattle.places.proofs.place.Level.inside.Goals as goal

faces : {p : Plane} {f x y : ℕ} → Sized p → InLevel p f x y → f * p.height ≤ 5 * 4096
faces z i = mul-le-mul {n₂ = 5} {m₂ = 4096} (omega (arith, i.face, z.most-faces)) z.most-h

rows : {p : Plane} {f x y : ℕ} → Sized p → InLevel p f x y → (f * p.height + y) * p.width ≤ 24575 * 4096
rows z i = mul-le-mul {n₂ = 24575} {m₂ = 4096} (omega (arith, faces z i, i.down, z.most-h)) z.most-w

pub overflow_mul-result : goal.overflow_mul-result
overflow_mul-result c = omega (arith, faces c.args.self.sized c.requires)

pub overflow_add-result : goal.overflow_add-result
overflow_add-result c = omega (arith, faces c.args.self.sized c.requires, c.requires.down, c.args.self.sized.most-h)

pub overflow_mul-result-2 : goal.overflow_mul-result-2
overflow_mul-result-2 c = omega (arith, rows c.args.self.sized c.requires)

pub overflow_add-result-2 : goal.overflow_add-result-2
overflow_add-result-2 c = omega (arith, rows c.args.self.sized c.requires, c.requires.across, c.args.self.sized.most-w)

pub returns : goal.returns
returns c = (refl, omega (arith, rows c.args.self.sized c.requires, c.requires.across, c.args.self.sized.most-w))
