-- The faces and sides of a level, and a level with the next behind it. Definitions only.
use Rattle.std.specs.Prelude.{◌≡◌, ℕ, ◌+◌, ◌-◌, ◌*◌, ◌/◌, ◌%◌, ◌≤◌, ◌<◌, min, List, ◌++◌, take, drop}
use Rattle.rules.specs.Sizes.{half}
use Rattle.rules.specs.Levels.{next}

-- one face to six, sides 1 to 4,096
pub record Sides (faces w h : ℕ) : Type 0 where
  pub some-f : 1 ≤ faces
  pub most-f : faces ≤ 6
  pub some-w : 1 ≤ w
  pub most-w : w ≤ 4096
  pub some-h : 1 ≤ h
  pub most-h : h ≤ 4096

-- where the rows start that row y of the next level is made from, y counted through all its faces, each h2 high: those of y0 = 2i and of
-- y1 = min(y0 + 1, previous height - 1), i the number of the row in its face
abbrev pub first_row : ℕ → ℕ → ℕ → ℕ → ℕ
first_row w h h2 y = (y / h2 * h + 2 * (y % h2)) * w

abbrev pub second_row : ℕ → ℕ → ℕ → ℕ → ℕ
second_row w h h2 y = (y / h2 * h + min (2 * (y % h2) + 1) (h - 1)) * w

-- m rows from row y on, of so many, lie in a run: the sources of each lie two rows further on than those of the row before it
pub record Run (w h h2 rows y m : ℕ) : Type 0 where
  pub some : 1 ≤ m
  pub inside : y + m ≤ rows
  pub firsts : (j : ℕ) → j < m → first_row w h h2 (y + j) ≡ first_row w h h2 y + 2 * j * w
  pub seconds : (j : ℕ) → j < m → second_row w h h2 (y + j) ≡ second_row w h h2 y + 2 * j * w

-- the level at the front of a buffer, the next level behind it, and what follows as it was
unfoldable pub written : (ℕ → ℕ → ℕ → ℕ → ℕ) → ℕ → ℕ → ℕ → List ℕ → List ℕ
written reduce faces w h old =
    let l = take (faces * h * w) old in
    l ++ (next reduce faces w h l ++ drop (faces * h * w + faces * half h * half w) old)
