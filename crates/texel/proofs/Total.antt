-- The order of finite values is total. Assumes nothing.
use mathlib.Core.Logic.{◌⊎◌, inl, inr}
use Prim.Native.Nat.{ℕ, ◌+◌, ◌*◌, ◌≤◌, ◌<◌}
use native.Mathlib.Nat.{le_of_lt, lt_of_not-le}
use native.Mathlib.Decide.{dec_le}
use lib.Dec.{T}
use lib.Ieee.{Float, le, lt}
use lib.Ieee.Scale.{finite}
use lib.Ieee.Positive.{num, den}
use Rattle.texel.proofs.Range.{plus, less, sgn, →le, lt→, →lt}

or-less : (a b : ℕ) → (a ≤ b) ⊎ (b < a)
or-less a b = elim (dec_le a b) [ yes p ↦ inl p | no q ↦ inr (lt_of_not-le q) ]

pub le-or-lt : (x y : Float) → T (finite x) → T (finite y) → T (le x y) ⊎ T (lt y x)
le-or-lt x y p q =
    elim (or-less (plus (sgn x) (num x) * den y + less (sgn y) (num y) * den x) (plus (sgn y) (num y) * den x + less (sgn x) (num x) * den y)) [
      | inl h ↦ inl (→le x y p q h)
      | inr h ↦ inr (→lt y x q p h)
    ]

pub lt-le : (x y : Float) → T (finite x) → T (finite y) → T (lt x y) → T (le x y)
lt-le x y p q h = →le x y p q (le_of_lt (lt→ x y p q h))
