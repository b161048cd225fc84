-- How large a level's start gets on the way, for sides up to 4,096 that may be 0 too: thirteen times the largest level. And what a walk over
-- the levels that writes each start leaves. Assumes nothing.
use mathlib.Core.Path.{◌≡◌}
use mathlib.Core.List.{List}
use Prim.Native.Nat.{ℕ, zero, suc, ◌+◌, ◌*◌, ◌^◌, ◌≤◌}
use native.Mathlib.Nat.{zero-add, le_trans, max-le, div-le_self}
use native.Mathlib.Omega.{arith}
use lib.Dec.{lit≤}
use lib.ListN.{length}
use Rattle.rules.specs.Sizes.{side_at, top, size_at, start}
use Rattle.rules.proofs.Bounds.{level0-most, top-most}
use Rattle.kinds.specs.Runs.{over}
use Rattle.kinds.proofs.Runs.{length_over, over-within}
use Rattle.reduce.specs.Levels.{Sides}
use Rattle.levels.specs.Starts.{Started}
use Rattle.levels.specs.declared.level.PictureLevel.{PictureLevel}

pub side-most : (m s : ℕ) → s ≤ 4096 → side_at m s ≤ 4096
unfolding side_at
side-most m s p = max-le (lit≤ tt) (le_trans (div-le_self s (2 ^ m)) p)

module _ (faces w h : ℕ) (pf : faces ≤ 6) (pw : w ≤ 4096) (ph : h ≤ 4096) where
  pub size-most : (m : ℕ) → size_at faces w h m ≤ 100663296
  unfolding size_at
  size-most m = level0-most faces (side_at m w) (side_at m h) pf (side-most m w pw) (side-most m h ph)

  pub start-most : (m : ℕ) → start faces w h m ≤ m * 100663296
  unfolding start
  start-most zero = omega arith
  start-most (suc m) = omega (arith, start-most m, size-most m)

-- what a walk over the levels leaves is their starts
pub started : {faces w h : ℕ} (old : List ℕ) {l : List ℕ} → 13 ≤ length old → faces ≤ 6 → w ≤ 4096 → h ≤ 4096 → top w h ≤ 12 → l ≡ over 0 old (top w h + 1) (start faces w h) → Started faces w h l
started {faces} {w} {h} old long pf pw ph most e =
    rw e
    (record {
      long = omega (arith, length_over 0 old (top w h + 1) (start faces w h) (omega arith));
      at = λ m le. rw (zero-add m) at (over-within 0 old (top w h + 1) (start faces w h) m (omega arith) (omega arith));
      small = λ m le. omega (arith, start-most faces w h pf pw ph m);
    })

-- no level is above 12
pub top-few : {F w h : ℕ} → Sides F w h → top w h ≤ 12
top-few {w} {h} s = top-most w h s.some-w s.most-w s.most-h

pub level-few : (l : PictureLevel) → l.number ≤ 12
level-few l = omega (arith, l.within, top-few l.picture.sides)
