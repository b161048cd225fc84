-- A turn of a kind's row: the texel made from the pair at x extends the run by one, and so does the texel that stands there already, where
-- it is the one that is made. For any way to make one texel of four. Assumes nothing.
use mathlib.Core.Path.{◌≡◌, ◌∙◌}
use mathlib.Core.List.{List}
use mathlib.Core.Bool.{not}
use mathlib.Core.Logic.{inl, inr}
use Prim.Native.Nat.{ℕ, ◌+◌, ◌<◌, ◌≤◌}
use native.Mathlib.Decide.{dec_le}
use native.Mathlib.Omega.{arith}
use lib.ListN.{length, get_or, set}
use mir.Val.{bool_byte}
use lib.Dec.{eqb}
use Rattle.std.proofs.lemmas.Bool.Decides.{eqb_tells}
use Rattle.kinds.specs.declared.channel.Quad.{Quad}
use Rattle.kinds.specs.Quads.{Pairs}
use Rattle.kinds.specs.Runs.{pair_of}
use Rattle.kinds.proofs.Runs.{Over, over-set}

pub row_more : (reduce : ℕ → ℕ → ℕ → ℕ → ℕ) (a b old o : List ℕ) (x v : ℕ) (q : Quad ℕ) → Over 0 old x (pair_of reduce a b) o → x < length old
    → Pairs a b x q → v ≡ reduce q.p00 q.p10 q.p01 q.p11 → Over 0 old (x + 1) (pair_of reduce a b) (set o x v)
unfolding pair_of
row_more reduce a b old o x v q h lt p e = over-set h x v (omega arith) (omega arith) (e ∙ rw (p.first, p.second, p.third, p.fourth))

pub stands-more : (reduce : ℕ → ℕ → ℕ → ℕ → ℕ) (a b c : List ℕ) (x : ℕ) (q : Quad ℕ) → ((k : ℕ) → k < x → get_or c k 0 ≡ pair_of reduce a b k)
    → Pairs a b x q → get_or c x 0 ≡ reduce q.p00 q.p10 q.p01 q.p11 → (k : ℕ) → k < x + 1 → get_or c k 0 ≡ pair_of reduce a b k
unfolding pair_of
stands-more reduce a b c x q before p e k lt =
    elim (dec_le x k) [
      | yes le ↦ let z : k ≡ x = omega arith in rw z (e ∙ rw (p.first, p.second, p.third, p.fourth))
      | no f ↦ before k (omega arith)
    ]

-- whether two texels differ, as a number
pub differs : (a b : ℕ) → (bool_byte (not (eqb a b)) ≤ 1) × (bool_byte (not (eqb a b)) ≡ 0 → a ≡ b)
differs a b =
    elim (eqb_tells a b) [
      | inl t ↦ rw t.0 (omega arith, λ none. t.1)
      | inr f ↦ rw f.0 (omega arith, λ none. absurd (omega arith))
    ]
