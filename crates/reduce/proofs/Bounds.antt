-- How large the numbers of a level can get, at six faces and sides of 4,096. Assumes nothing.
use Prim.Native.Nat.{ℕ, ◌*◌, ◌≤◌}
use native.Mathlib.Nat.{mul-le-mul}
use native.Mathlib.Omega.{arith}
use Rattle.rules.specs.Sizes.{half}
use Rattle.reduce.specs.Levels.{Sides}

-- the rows of all faces
pub rows : {faces w h : ℕ} → Sides faces w h → faces * h ≤ 24576
rows s = mul-le-mul s.most-f s.most-h

-- the texels of a level
pub texels : {faces w h : ℕ} → Sides faces w h → faces * h * w ≤ 100663296
texels s = mul-le-mul (rows s) s.most-w

-- the next height
pub half-most : {faces w h : ℕ} → Sides faces w h → half h ≤ 4096
half-most s = omega arith
