-- The two laws of repeated reduction, for a picture of any one kind and by any one packing mode. Reducing a times, reopening level a as
-- a new picture of that kind and reducing b times, by the same mode, gives exactly level a + b; and an aligned cut has as its first k
-- reductions the matching cuts of the whole picture's. Each is a law over any reduction (`level-add`, `reopen`, `cut_level`), taken at
-- that of the kind and the mode. Assumes nothing.
use mathlib.Core.Path.{◌≡◌, sym}
use mathlib.Core.List.{List, ◌++◌}
use Prim.Native.Nat.{ℕ, suc, ◌+◌, ◌-◌, ◌≤◌}
use native.Mathlib.Nat.{le_trans}
use native.Mathlib.Omega.{arith}
use lib.ListN.{length, take, drop}
use Rattle.rules.specs.declared.Packing.{Packing}
use Rattle.rules.specs.Kinds.{cubemap, faces_of}
use Rattle.rules.specs.Sizes.{side_at, top, size_at, start, count}
use Rattle.rules.specs.Levels.{filled}
use Rattle.rules.specs.Reducing.{reduce_of}
use Rattle.rules.specs.Pictures.{Picture, level_of, chain_of, filled_of}
use Rattle.rules.specs.Cuts.{cut, matching_cut, CutAt}
use Rattle.rules.proofs.Grid.{length-grid}
use Rattle.rules.proofs.Sides.{side-pos, side-le, top-side}
use Rattle.rules.proofs.Bounds.{faces-flat}
use Rattle.rules.proofs.Chain.{level-add, length-level, length-chain, chain-level, reopen}
use Rattle.rules.proofs.Cut.{cut_level, cut-top}

-- ---- reopening a level

module _ (kind : ℕ) (packing : Packing) (a w h : ℕ) (l : List ℕ) (p : Picture kind w h l) where
  -- level a is a picture of the same kind
  pub level-picture : Picture kind (side_at a w) (side_at a h) (level_of kind packing a w h l)
  unfolding level_of size_at
  level-picture =
      record {
        known = p.known;
        some-w = side-pos a w;
        some-h = side-pos a h;
        most-w = le_trans (side-le a w p.some-w) p.most-w;
        most-h = le_trans (side-le a h p.some-h) p.most-h;
        whole = length-level (reduce_of kind packing) (faces_of kind) a w h l p.some-w p.some-h p.whole;
      }

  -- it has a level b where the whole picture has a level a + b, and the two are one
  pub reduce-again : (b : ℕ) → a + b ≤ top w h
      → (b ≤ top (side_at a w) (side_at a h)) × (level_of kind packing b (side_at a w) (side_at a h) (level_of kind packing a w h l) ≡ level_of kind packing (a + b) w h l)
  unfolding level_of
  reduce-again b le = (
    rw (top-side w h a p.some-w (omega arith)) (omega arith),
    sym (level-add (reduce_of kind packing) (faces_of kind) a b w h l p.some-w p.some-h),
  )

  -- its whole chain is the whole picture's from its start on
  pub chain-again : a ≤ top w h
      → chain_of kind packing (side_at a w) (side_at a h) (level_of kind packing a w h l) ≡ drop (start (faces_of kind) w h a) (chain_of kind packing w h l)
  unfolding chain_of level_of
  chain-again le = sym (reopen (reduce_of kind packing) (faces_of kind) a w h l p.some-w p.some-h p.whole le)

  -- a buffer that begins with level a holds that tail once its chain is filled, and behind it what it held
  pub filled-again : (buffer : List ℕ) → a ≤ top w h → take (size_at (faces_of kind) w h a) buffer ≡ level_of kind packing a w h l
      → filled_of kind packing (side_at a w) (side_at a h) buffer
      ≡ drop (start (faces_of kind) w h a) (chain_of kind packing w h l) ++ drop (count (faces_of kind) (side_at a w) (side_at a h)) buffer
  unfolding filled_of filled chain_of size_at count
  filled-again buffer le e = rw (e, ← chain-again le)

-- ---- the chain and its levels

module _ (kind : ℕ) (packing : Packing) (w h : ℕ) (l : List ℕ) (p : Picture kind w h l) where
  pub length-chain_of : length (chain_of kind packing w h l) ≡ count (faces_of kind) w h
  unfolding chain_of count
  length-chain_of = length-chain (reduce_of kind packing) (faces_of kind) (suc (top w h)) w h l p.some-w p.some-h p.whole

  -- level m stands in the chain where its start says
  pub chain-holds : (m : ℕ) → m ≤ top w h
      → take (size_at (faces_of kind) w h m) (drop (start (faces_of kind) w h m) (chain_of kind packing w h l)) ≡ level_of kind packing m w h l
  unfolding chain_of level_of
  chain-holds m le =
      let n : suc (top w h) ≡ m + suc (top w h - m) = omega arith in
      rw n (chain-level (reduce_of kind packing) (faces_of kind) m (top w h - m) w h l p.some-w p.some-h p.whole)

-- ---- cutting

module _ (kind : ℕ) (packing : Packing) (k w h cx cy cw ch : ℕ) (l : List ℕ) (flat : kind ≡ cubemap → ⊥) (c : CutAt k w h cx cy cw ch) where
  -- an aligned cut of a picture that is no cubemap is a picture, and has k levels above its level 0
  pub cut-picture : Picture kind w h l → (Picture kind cw ch (cut w h cx cy cw ch l)) × (k ≤ top cw ch)
  unfolding cut
  cut-picture p = (
    record {
      known = p.known;
      some-w = c.some-w;
      some-h = c.some-h;
      most-w = omega arith;
      most-h = omega arith;
      whole = rw (faces-flat kind flat) (length-grid 1 cw ch _);
    },
    cut-top c,
  )

  -- those are the matching cuts of the picture's levels
  pub cut_again : (j : ℕ) → j ≤ k
      → level_of kind packing j cw ch (cut w h cx cy cw ch l) ≡ matching_cut j w h cx cy cw ch (level_of kind packing j w h l)
  unfolding level_of matching_cut
  cut_again j le = rw (faces-flat kind flat) (cut_level (reduce_of kind packing) j k w h cx cy cw ch l le c)
