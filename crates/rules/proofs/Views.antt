-- What the chain call leaves and what the level view hands out of it, over what their contracts say (specs/Answers), for every
-- input that is not refused: 01's chain in front of what was found, and the faces of a level in their order. Assumes nothing.
use Rattle.std.specs.Prelude.{Ok}
use mathlib.Core.Path.{◌≡◌, sym, ◌∙◌}
use mathlib.Core.List.{List, [], ◌++◌}
use Prim.Native.Nat.{ℕ, zero, suc, ◌+◌, ◌*◌, ◌≤◌, ◌<◌}
use native.Mathlib.Nat.{mul_assoc, zero-mul, le_refl}
use native.Mathlib.Omega.{arith}
use lib.ListN.{length, take, drop, length-append, length-drop}
use lib.Seq.{take_at, drop-drop, take-add, take-append-le, drop-append-le, length-take-le}
use Rattle.rules.specs.Kinds.{cubemap, faces_of}
use Rattle.rules.specs.Sizes.{side_at, top, size_at, start, count}
use Rattle.rules.specs.View.{face_start, face_view}
use Rattle.rules.specs.Levels.{level, filled}
use Rattle.rules.specs.Packing.{packing_of}
use Rattle.rules.specs.Pictures.{Picture, level_of, chain_of, filled_of}
use Rattle.rules.specs.Answers.{chain_answer, chain_leaves, view_answer}
use Rattle.rules.proofs.Sides.{size-zero}
use Rattle.rules.proofs.Bounds.{faces-cube, faces-flat, level-end, face-end}
use Rattle.rules.proofs.Refusing.{answer-given, Chained, Mipmapped, mipmaps-taken, view-taken}
use Rattle.rules.proofs.Laws.{length-chain_of, chain-holds}

-- ---- the chain call

-- a part that lies in the first of two lists
pub part-front : (n s : ℕ) (l rest : List ℕ) → n + s ≤ length l → take s (drop n (l ++ rest)) ≡ take s (drop n l)
part-front n s l rest le =
    let inside : n ≤ length l = omega arith in
    let whole : s ≤ length (drop n l) = rw (length-drop n l) (omega arith) in
    rw (drop-append-le n l rest inside, take-append-le s (drop n l) rest whole)

-- level 0 of a picture, at the front of a buffer
abbrev pub level0 : ℕ → ℕ → ℕ → List ℕ → List ℕ
level0 kind w h buffer = take (faces_of kind * h * w) buffer

module _ (kind w h mode : ℕ) (buffer : List ℕ) (c : Mipmapped kind w h mode (length buffer)) where
  room0 : faces_of kind * h * w ≤ length buffer
  room0 =
      let t = c.chained.taken in
      let z = size-zero (faces_of kind) w h t.some-w t.some-h in
      omega (arith, level-end (faces_of kind) w h 0 (omega arith))

  pub front-picture : Picture kind w h (level0 kind w h buffer)
  front-picture =
      let t = c.chained.taken in
      record {
        known = t.known;
        some-w = t.some-w;
        some-h = t.some-h;
        most-w = t.most-w;
        most-h = t.most-h;
        whole = length-take-le (faces_of kind * h * w) buffer room0;
      }

  -- the chain call leaves the chain, and behind it what it found
  pub chain_left : chain_leaves kind w h mode buffer ≡ chain_of kind (packing_of mode) w h (level0 kind w h buffer) ++ drop (count (faces_of kind) w h) buffer
  unfolding chain_leaves filled_of filled chain_of count
  chain_left = answer-given _ _ _ (mipmaps-taken kind w h mode (length buffer) c)

  pub chain-answered : chain_answer kind w h mode buffer ≡ Ok (count (faces_of kind) w h)
  unfolding chain_answer
  chain-answered = answer-given _ _ _ (mipmaps-taken kind w h mode (length buffer) c)

  pub length-left : length (chain_leaves kind w h mode buffer) ≡ length buffer
  length-left =
      let r = c.chained.room in
      rw (chain_left, length-append, length-drop, length-chain_of kind (packing_of mode) w h (level0 kind w h buffer) front-picture) (omega arith)

  -- the chain is the first `count` texels of what is left
  pub chain-front : take (count (faces_of kind) w h) (chain_leaves kind w h mode buffer) ≡ chain_of kind (packing_of mode) w h (level0 kind w h buffer)
  chain-front = rw chain_left (take_at (chain_of kind (packing_of mode) w h (level0 kind w h buffer)) _ _ (length-chain_of kind (packing_of mode) w h (level0 kind w h buffer) front-picture))

  module _ (m : ℕ) (le : m ≤ top w h) where
    -- level m of the picture stands at its place in what is left
    level-left : take (size_at (faces_of kind) w h m) (drop (start (faces_of kind) w h m) (chain_leaves kind w h mode buffer)) ≡ level_of kind (packing_of mode) m w h (level0 kind w h buffer)
    level-left =
        let F = faces_of kind in
        let l = chain_of kind (packing_of mode) w h (level0 kind w h buffer) in
        let n = length-chain_of kind (packing_of mode) w h (level0 kind w h buffer) front-picture in
        let end = level-end F w h m le in
        rw (chain_left, part-front (start F w h m) (size_at F w h m) l (drop (count F w h) buffer) (omega arith))
        (chain-holds kind (packing_of mode) w h (level0 kind w h buffer) front-picture m le)

  -- level 0 stays as it was
  pub level0-left : level0 kind w h (chain_leaves kind w h mode buffer) ≡ level0 kind w h buffer
  unfolding start level_of level
  level0-left = let t = c.chained.taken in rw (size-zero (faces_of kind) w h t.some-w t.some-h) at (level-left 0 (omega arith))

-- ---- the view

-- the first n faces of level m as the level view hands them out, one after the other
unfoldable pub views : ℕ → ℕ → ℕ → List ℕ → ℕ → ℕ → List ℕ
views kind w h texels m zero = []
views kind w h texels m (suc f) = views kind w h texels m f ++ view_answer kind w h texels m f

module _ (kind w h : ℕ) (texels : List ℕ) (c : Chained kind w h (length texels)) (m : ℕ) (le : m ≤ top w h) where
  pub view-handed : (f : ℕ) → f < faces_of kind
      → view_answer kind w h texels m f ≡ take (side_at m h * side_at m w) (drop (start (faces_of kind) w h m + f * (side_at m h * side_at m w)) texels)
  unfolding view_answer face_view face_start
  view-handed f lt = answer-given _ _ _ (view-taken kind w h (length texels) m f (record { chained = c; face = lt; below = le }))

  views-part : (n : ℕ) → n ≤ faces_of kind
      → views kind w h texels m n ≡ take (n * (side_at m h * side_at m w)) (drop (start (faces_of kind) w h m) texels)
  unfolding views
  views-part zero lt = rw (zero-mul (side_at m h * side_at m w))
  views-part (suc f) lt =
      let s = side_at m h * side_at m w in
      let l = drop (start (faces_of kind) w h m) texels in
      let more : suc f * s ≡ f * s + s = omega arith in
      rw (views-part f (omega arith), view-handed f lt, more, take-add (f * s) s l, drop-drop (f * s) (start (faces_of kind) w h m) texels)

  -- all its faces are the level
  pub views-level : views kind w h texels m (faces_of kind) ≡ take (size_at (faces_of kind) w h m) (drop (start (faces_of kind) w h m) texels)
  unfolding size_at
  views-level = rw (views-part (faces_of kind) (le_refl _), ← mul_assoc (faces_of kind) (side_at m h) (side_at m w))

-- of a picture that is no cubemap: its one face; of a cubemap: six, in their order
pub views-flat : (kind w h : ℕ) (texels : List ℕ) (m : ℕ) → (kind ≡ cubemap → ⊥)
    → views kind w h texels m (faces_of kind) ≡ view_answer kind w h texels m 0
unfolding views
views-flat kind w h texels m flat = rw (faces-flat kind flat)

pub views-cube : (kind w h : ℕ) (texels : List ℕ) (m : ℕ) → kind ≡ cubemap
    → views kind w h texels m (faces_of kind)
    ≡ ((((view_answer kind w h texels m 0 ++ view_answer kind w h texels m 1) ++ view_answer kind w h texels m 2)
    ++ view_answer kind w h texels m 3) ++ view_answer kind w h texels m 4) ++ view_answer kind w h texels m 5
unfolding views
views-cube kind w h texels m cube = rw (faces-cube kind cube)

module _ (kind w h mode : ℕ) (buffer : List ℕ) (c : Mipmapped kind w h mode (length buffer)) (m : ℕ) (le : m ≤ top w h) where
  left-chained : Chained kind w h (length (chain_leaves kind w h mode buffer))
  left-chained = rw (length-left kind w h mode buffer c) c.chained

  -- after the chain call all faces of level m, viewed in their order, are level m
  pub views-left : views kind w h (chain_leaves kind w h mode buffer) m (faces_of kind) ≡ level_of kind (packing_of mode) m w h (level0 kind w h buffer)
  views-left = views-level kind w h (chain_leaves kind w h mode buffer) left-chained m le ∙ level-left kind w h mode buffer c m le

  -- a view of one face of it is its part of the chain
  pub view-left : (f : ℕ) → f < faces_of kind
      → view_answer kind w h (chain_leaves kind w h mode buffer) m f
      ≡ take (side_at m h * side_at m w) (drop (face_start (faces_of kind) w h m f) (chain_of kind (packing_of mode) w h (level0 kind w h buffer)))
  unfolding face_start
  view-left f lt =
      let n = length-chain_of kind (packing_of mode) w h (level0 kind w h buffer) (front-picture kind w h mode buffer c) in
      let end = face-end (faces_of kind) w h m f le lt in
      view-handed kind w h (chain_leaves kind w h mode buffer) left-chained m le f lt
      ∙ rw (chain_left kind w h mode buffer c, part-front (face_start (faces_of kind) w h m f) (side_at m h * side_at m w) (chain_of kind (packing_of mode) w h (level0 kind w h buffer)) (drop (count (faces_of kind) w h) buffer) (omega arith))

  -- of a picture that is no cubemap it is the level
  pub view-flat : (kind ≡ cubemap → ⊥) → view_answer kind w h (chain_leaves kind w h mode buffer) m 0 ≡ level_of kind (packing_of mode) m w h (level0 kind w h buffer)
  view-flat flat = sym (views-flat kind w h (chain_leaves kind w h mode buffer) m flat) ∙ views-left
