-- Four texels, and a channel of each. Definitions only.
use Rattle.std.specs.Prelude.{◌≡◌, List, ℕ, ◌+◌, ◌*◌, get_or}
use Rattle.kinds.specs.declared.channel.Quad.{Quad}

-- q is the pairs at x of two rows
pub record Pairs (a b : List ℕ) (x : ℕ) (q : Quad ℕ) : Type 0 where
  pub first : q.p00 ≡ get_or a (2 * x) 0
  pub second : q.p10 ≡ get_or a (2 * x + 1) 0
  pub third : q.p01 ≡ get_or b (2 * x) 0
  pub fourth : q.p11 ≡ get_or b (2 * x + 1) 0

-- each of r comes of one of q
pub record Each {A B : Type 0} (of : A → B → Type 0) (q : Quad A) (r : Quad B) : Type 0 where
  pub first : of q.p00 r.p00
  pub second : of q.p10 r.p10
  pub third : of q.p01 r.p01
  pub fourth : of q.p11 r.p11

-- what comes of four bytes is what a rule makes of them
abbrev pub Follows : (Quad ℕ → ℕ → Type 0) → (ℕ → ℕ → ℕ → ℕ → ℕ) → Type 0
Follows of rule = (p : Quad ℕ) (byte : ℕ) → of p byte → byte ≡ rule p.p00 p.p10 p.p01 p.p11

-- one channel of four texels added up, and 2: four times the mean, and a half
abbrev pub sum_of : (ℕ → ℕ) → Quad ℕ → ℕ
sum_of channel q = channel q.p00 + channel q.p10 + channel q.p01 + channel q.p11 + 2
