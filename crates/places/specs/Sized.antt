-- What a level must be for its places to be worked out. Definitions only.
use Rattle.std.specs.Prelude.{ℕ, ◌≤◌, ◌<◌}
use Rattle.rules.specs.Lanes.{Wholes}
use Rattle.rules.specs.declared.Plane.{Plane}
use Rattle.choice.specs.Each.{InEach}

-- up to six faces of sides 1 to 4,096, in a chain that starts as far in as any chain goes
pub record Sized (p : Plane) : Type 0 where
  pub most-start : p.start ≤ 201326592
  pub some-faces : 1 ≤ p.faces
  pub most-faces : p.faces ≤ 6
  pub some-w : 1 ≤ p.width
  pub most-w : p.width ≤ 4096
  pub some-h : 1 ≤ p.height
  pub most-h : p.height ≤ 4096

-- four numbers below n
abbrev pub Below : ℕ → Wholes → Type 0
Below n f = InEach (λ k. k < n) f
