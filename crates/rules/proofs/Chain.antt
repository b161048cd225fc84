-- Level a, opened as a picture of its own, has the whole picture's levels from a on: by levels, by chains, by buffers.
-- For any number of faces and any way to make one texel of four. Assumes nothing.
use mathlib.Core.Path.{◌≡◌, refl, sym, ◌∙◌}
use mathlib.Core.List.{List, ◌++◌, append_assoc, append-nil}
use Prim.Native.Nat.{ℕ, zero, suc, ◌+◌, ◌-◌, ◌*◌, ◌≤◌, ◌<◌}
use native.Mathlib.Nat.{add-zero, zero-add, add_assoc, suc-add}
use native.Mathlib.Omega.{arith}
use lib.ListN.{length, take, drop, length-append, take-append-drop}
use lib.Seq.{take_at, drop_at, drop-drop}
use Rattle.rules.specs.Sizes.{side_at, half, top, size_at, start}
use Rattle.rules.specs.Levels.{next, level, chain, filled}
use Rattle.rules.proofs.Grid.{length-grid}
use Rattle.rules.proofs.Sides.{side-half, side-zero, top-side, start-half, size-zero, size-half}

module _ (reduce : ℕ → ℕ → ℕ → ℕ → ℕ) (faces : ℕ) where
  pub length-next : (w h : ℕ) (l : List ℕ) → length (next reduce faces w h l) ≡ faces * half h * half w
  unfolding next
  length-next w h l = length-grid faces (half w) (half h) _

  -- THE FIRST LAW. Reducing a times, opening level a as a picture, and reducing b times gives level a + b
  pub level-add : (a b w h : ℕ) (l : List ℕ) → 0 < w → 0 < h
      → level reduce faces (a + b) w h l ≡ level reduce faces b (side_at a w) (side_at a h) (level reduce faces a w h l)
  unfolding level
  level-add zero b w h l pw ph = rw (zero-add b, side-zero w pw, side-zero h ph)
  level-add (suc a) b w h l pw ph =
      rw (suc-add a b, level-add a b (half w) (half h) (next reduce faces w h l) (omega arith) (omega arith), side-half a w, side-half a h)

  pub length-level : (m w h : ℕ) (l : List ℕ) → 0 < w → 0 < h → length l ≡ faces * h * w → length (level reduce faces m w h l) ≡ size_at faces w h m
  unfolding level
  length-level zero w h l pw ph e = e ∙ sym (size-zero faces w h pw ph)
  length-level (suc m) w h l pw ph e =
      length-level m (half w) (half h) (next reduce faces w h l) (omega arith) (omega arith) (length-next w h l)
      ∙ size-half faces w h m

  -- ---- chains

  pub length-chain : (n w h : ℕ) (l : List ℕ) → 0 < w → 0 < h → length l ≡ faces * h * w → length (chain reduce faces n w h l) ≡ start faces w h n
  unfolding chain start
  length-chain zero w h l pw ph e = refl
  length-chain (suc n) w h l pw ph e =
      rw (start-half faces w h n pw ph, length-append, e, length-chain n (half w) (half h) (next reduce faces w h l) (omega arith) (omega arith) (length-next w h l))

  -- THE FIRST LAW, BY CHAINS. The chain made from level a is the whole chain from level a's start on
  pub chain-drop : (a b w h : ℕ) (l : List ℕ) → 0 < w → 0 < h → length l ≡ faces * h * w
      → drop (start faces w h a) (chain reduce faces (a + b) w h l) ≡ chain reduce faces b (side_at a w) (side_at a h) (level reduce faces a w h l)
  unfolding chain level start
  chain-drop zero b w h l pw ph e = rw (zero-add b, side-zero w pw, side-zero h ph)
  chain-drop (suc a) b w h l pw ph e =
      let w' = half w in
      let h' = half h in
      let l' = next reduce faces w h l in
      rw (
        suc-add a b,
        start-half faces w h a pw ph,
        ← drop-drop (start faces w' h' a) (faces * h * w) (l ++ chain reduce faces (a + b) w' h' l'),
        drop_at l (chain reduce faces (a + b) w' h' l') (faces * h * w) e,
        chain-drop a b w' h' l' (omega arith) (omega arith) (length-next w h l),
        side-half a w,
        side-half a h,
      )

  -- level m stands in the chain where its start says
  pub chain-level : (m b w h : ℕ) (l : List ℕ) → 0 < w → 0 < h → length l ≡ faces * h * w
      → take (size_at faces w h m) (drop (start faces w h m) (chain reduce faces (m + suc b) w h l)) ≡ level reduce faces m w h l
  unfolding chain
  chain-level m b w h l pw ph e = rw (chain-drop m (suc b) w h l pw ph e) (take_at (level reduce faces m w h l) _ _ (length-level m w h l pw ph e))

  -- of a whole picture: as many levels as its top says
  pub reopen : (a w h : ℕ) (l : List ℕ) → 0 < w → 0 < h → length l ≡ faces * h * w → a ≤ top w h
      → drop (start faces w h a) (chain reduce faces (suc (top w h)) w h l)
      ≡ chain reduce faces (suc (top (side_at a w) (side_at a h))) (side_at a w) (side_at a h) (level reduce faces a w h l)
  reopen a w h l pw ph e le =
      let t : suc (top w h) ≡ a + suc (top w h - a) = omega arith in
      rw (top-side w h a pw le, t) (chain-drop a (suc (top w h - a)) w h l pw ph e)

  -- ---- buffers

  -- one level left: nothing is written
  pub filled-one : (w h : ℕ) (buf : List ℕ) → 0 < w → 0 < h → filled reduce faces 1 w h buf ≡ buf
  unfolding filled chain start
  filled-one w h buf pw ph =
      rw (start-half faces w h 0 pw ph, add-zero (faces * h * w), append-nil) (take-append-drop (faces * h * w) buf)

  chain-suc : (n w h : ℕ) (l : List ℕ) → chain reduce faces (suc n) w h l ≡ l ++ chain reduce faces n (half w) (half h) (next reduce faces w h l)
  unfolding chain
  chain-suc n w h l = refl

  -- what lies behind n + 2 levels lies behind n + 1 of them from the second on
  behind : (n w h : ℕ) (buf l' : List ℕ) → 0 < w → 0 < h → length l' ≡ faces * half h * half w
      → drop (start faces w h (suc (suc n))) buf ≡ drop (start faces (half w) (half h) (suc n)) (l' ++ drop (faces * h * w + faces * half h * half w) buf)
  behind n w h buf l' pw ph e =
      let k = start faces (half (half w)) (half (half h)) n in
      let s = faces * h * w in
      let s' = faces * half h * half w in
      rw (
        start-half faces w h (suc n) pw ph,
        start-half faces (half w) (half h) n (omega arith) (omega arith),
        ← drop-drop k s' (l' ++ drop (s + s') buf),
        drop_at l' (drop (s + s') buf) s' e,
        drop-drop k (s + s') buf,
        add_assoc s s' k,
      )

  -- a step: the next level is written behind this one, and the rest is done from there on with one level fewer
  pub filled-step : (n w h : ℕ) (buf : List ℕ) → 0 < w → 0 < h
      → filled reduce faces (suc (suc n)) w h buf
      ≡ take (faces * h * w) buf
      ++ filled reduce faces (suc n) (half w) (half h) (next reduce faces w h (take (faces * h * w) buf) ++ drop (faces * h * w + faces * half h * half w) buf)
  unfolding filled
  filled-step n w h buf pw ph =
      let l = take (faces * h * w) buf in
      let l' = next reduce faces w h l in
      let e = length-next w h l in
      rw (chain-suc (suc n) w h l, append_assoc, take_at l' (drop (faces * h * w + faces * half h * half w) buf) _ e, behind n w h buf l' pw ph e)
