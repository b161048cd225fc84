-- The reduction that each kind code stands for, by any packing mode. Assumes nothing.
use mathlib.Core.Path.{◌≡◌}
use Prim.Native.Nat.{ℕ, ◌<◌}
use native.Mathlib.Omega.{arith}
use borrow.Author.Tests.{ne_eqb}
use Rattle.rules.specs.declared.Packing.{Packing}
use Rattle.rules.specs.Reducing.{srgb_of, normal_of, metallic_of, linear_of, reduce_of}

pub of-srgb : (kind : ℕ) (packing : Packing) → kind ≡ 0 → reduce_of kind packing ≡ srgb_of packing
unfolding reduce_of
of-srgb kind packing e = rw e

pub of-normal : (kind : ℕ) (packing : Packing) → kind ≡ 1 → reduce_of kind packing ≡ normal_of packing
unfolding reduce_of
of-normal kind packing e = rw e

pub of-metallic : (kind : ℕ) (packing : Packing) → kind ≡ 2 → reduce_of kind packing ≡ metallic_of packing
unfolding reduce_of
of-metallic kind packing e = rw e

pub of-linear : (kind : ℕ) (packing : Packing) → 0 < kind → (kind ≡ 1 → ⊥) → (kind ≡ 2 → ⊥) → reduce_of kind packing ≡ linear_of packing
unfolding reduce_of
of-linear kind packing a b c = rw (ne_eqb kind 0 (λ e. none kind a e), ne_eqb kind 1 b, ne_eqb kind 2 c)
  where
    none : (kind : ℕ) → 0 < kind → kind ≡ 0 → ⊥
    none kind a e = omega arith
