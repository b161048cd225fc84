-- Values from zero up. Such a value has a sign only where it is -0; so its fraction is num / den, a bound on it is one on the fraction, and it
-- is a zero or above zero. Assumes nothing.
use mathlib.Core.Path.{◌≡◌, refl, sym}
use mathlib.Core.Logic.{◌⊎◌, inl, inr}
use mathlib.Core.Bool.{true, false}
use Prim.Native.Nat.{◌+◌, ◌*◌, ◌≤◌, zero-le}
use native.Mathlib.Nat.{le_trans, le_of_eq, eq-zero-or-pos, zero-mul}
use native.Mathlib.Omega.{arith}
use lib.IntN.{pos}
use lib.Dec.{T, lt→ltb}
use lib.Ieee.{Float, nan, inf, fin, up, down, le, of_bits}
use lib.Ieee.Scale.{finite}
use lib.Ieee.Positive.{num, den, positive, first_pos}
use Rattle.rules.specs.Floats.{zero32}
use Rattle.texel.proofs.Range.{plus, less, sgn, le→}

pub no_sign : (x : Float) → T (finite x) → T (le zero32 x) → (plus (sgn x) (num x) ≡ num x) × (less (sgn x) (num x) ≡ 0)
unfolding of_bits
no_sign nan f h = absurd f
no_sign (inf s) f h = absurd f
no_sign (fin false m e) f h = (refl, refl)
no_sign (fin true m e) f h = let k = le→ (fin false 0 (pos 0)) (fin true m e) tt tt h in let z : m * up e ≡ 0 = omega arith in (sym z, z)

-- a bound on a value is one on its fraction
pub fractions-le : (x y : Float) → T (finite x) → T (finite y) → T (le zero32 x) → T (le zero32 y) → T (le x y) → num x * den y ≤ num y * den x
fractions-le x y p q zx zy h =
    let s = no_sign x p zx in
    let t = no_sign y q zy in
    let k : num x * den y + 0 * den x ≤ num y * den x + 0 * den y = rw (s.0, s.1, t.0, t.1) at (le→ x y p q h) in
    omega arith

pub fraction-le : (x hi : Float) → T (finite x) → T (positive hi) → T (le zero32 x) → T (le x hi) → num x * den hi ≤ num hi * den x
fraction-le nan hi f p h k = absurd f
fraction-le (inf s) hi f p h k = absurd f
fraction-le (fin s m e) nan f p h k = absurd p
fraction-le (fin s m e) (inf t) f p h k = absurd p
fraction-le (fin s m e) (fin true n d) f p h k = absurd p
fraction-le (fin false m e) (fin false n d) f p h k = let l = le→ (fin false m e) (fin false n d) tt tt k in omega arith
fraction-le (fin true m e) (fin false n d) f p h k = rw (no_sign (fin true m e) f h).1 (le_trans (le_of_eq (zero-mul (down d))) zero-le)

pub zero-or-above : (x : Float) → T (finite x) → T (le zero32 x) → (num x ≡ 0) ⊎ T (positive x)
zero-or-above nan f h = absurd f
zero-or-above (inf s) f h = absurd f
zero-or-above (fin true m e) f h = inl (no_sign (fin true m e) f h).1
zero-or-above (fin false m e) f h = elim (eq-zero-or-pos (m * up e)) [ inl z ↦ inl z | inr p ↦ inr (lt→ltb 0 m (first_pos m (up e) p)) ]
