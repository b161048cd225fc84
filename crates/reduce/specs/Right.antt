-- Texels that stand where they should, up to the first that does not. Definitions only.
use Rattle.std.specs.Prelude.{◌≡◌, List, ℕ, ◌+◌, ◌*◌, ◌≤◌, ◌<◌, get_or, take, Option, IfSome}
use Rattle.std.specs.Option.{unwrap_or}
use Rattle.rules.specs.Sizes.{half}
use Rattle.rules.specs.Levels.{next}
use Rattle.kinds.specs.Runs.{over}
use Rattle.reduce.specs.declared.shape.Shape.{Shape}

-- of n places from `at` on the first r hold f 0, f 1, …, so that to write them there changes nothing; and if they are not all, the next
-- holds something else
pub record Right (at : ℕ) (s : List ℕ) (n : ℕ) (f : ℕ → ℕ) (r : ℕ) : Type 0 where
  pub most : r ≤ n
  pub same : s ≡ over at s r f
  pub other : r < n → get_or s (at + r) 0 ≡ f r → ⊥

-- the number of the first of n places that does not hold what it should, and none where all of them do
pub record FirstWrong (at : ℕ) (s : List ℕ) (n : ℕ) (f : ℕ → ℕ) (wrong : Option ℕ) : Type 0 where
  pub inside : IfSome wrong (λ k. k < n)
  pub right : Right at s n f (unwrap_or wrong n)

-- a level stands at the front of s, and behind it the next, so far as it is right
abbrev pub NextFirstWrong : (ℕ → ℕ → ℕ → ℕ → ℕ) → Shape → List ℕ → Option ℕ → Type 0
NextFirstWrong reduce shape s r =
    let n = shape.faces * shape.height * shape.width in
    FirstWrong n s (shape.faces * half shape.height * half shape.width) (λ k. get_or (next reduce shape.faces shape.width shape.height (take n s)) k 0) r
