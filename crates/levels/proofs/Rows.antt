-- Rows of w texels, written one after the other from the front of a buffer: y of them are a run of y * w texels, and a row more
-- makes it longer by w. Assumes nothing.
use mathlib.Core.Path.{◌≡◌, ap}
use mathlib.Core.List.{List, ◌++◌}
use Prim.Native.Nat.{ℕ, ◌+◌, ◌*◌, ◌≤◌, ◌<◌}
use native.Mathlib.Nat.{zero-mul, zero-add, suc-mul, mul-le-mul_right}
use native.Mathlib.Numerals.{add-one}
use native.Mathlib.Omega.{arith}
use lib.ListN.{length, drop}
use Rattle.rules.specs.Levels.{tab}
use Rattle.kinds.specs.Runs.{over}
use Rattle.kinds.proofs.Runs.{Over, over_first, over-more, over-end}

-- y rows of f are written over old, which has room for all
pub record Rows (w rows : ℕ) (f : ℕ → ℕ) (old s : List ℕ) (y : ℕ) : Type 0 where
  pub below : y ≤ rows
  pub room : rows * w ≤ length old
  pub run : Over 0 old (y * w) f s

pub rows-first : (w rows : ℕ) (f : ℕ → ℕ) (old : List ℕ) → rows * w ≤ length old → Rows w rows f old old 0
rows-first w rows f old room = record { below = omega arith; room = room; run = rw (zero-mul w) (over_first 0 old f (omega arith)) }

module _ {w rows : ℕ} {f : ℕ → ℕ} {old s : List ℕ} {y : ℕ} (r : Rows w rows f old s y) where
  -- there is room for the next row
  pub rows-room : y < rows → y * w + w ≤ length old
  rows-room lt = omega (arith, mul-le-mul_right w lt, suc-mul y w, r.room)

  pub rows_more : y < rows → (g : ℕ → ℕ) (t : List ℕ) → t ≡ over (y * w) s w g → ((x : ℕ) → x < w → g x ≡ f (y * w + x))
      → Rows w rows f old t (y + 1)
  rows_more lt g t et e =
      record {
        below = omega arith;
        room = r.room;
        run = rw (add-one y, suc-mul y w) (over-more r.run (y * w) w g t (omega arith) et (omega (arith, rows-room lt)) e);
      }

  pub rows_end : rows ≤ y → s ≡ over 0 old (rows * w) f
  rows_end le = let e : y ≡ rows = omega arith in over-end r.run (rows * w) (ap (λ (k : ℕ). k * w) e)

-- a run at the front, and what is behind it
pub over-front : (old : List ℕ) (n : ℕ) (f : ℕ → ℕ) → over 0 old n f ≡ tab n f ++ drop n old
unfolding over
over-front old n f = rw zero-add
