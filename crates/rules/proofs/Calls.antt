-- The two laws of repeated reduction, of the calls: over what their contracts say they answer and leave (specs/Answers), for every
-- input that they do not refuse. A chain call leaves 01's chain, and the view hands out its levels, so both follow from the laws of
-- pictures. Assumes nothing.
use Rattle.std.specs.Prelude.{Ok}
use mathlib.Core.Path.{◌≡◌, sym, ap, ◌∙◌}
use mathlib.Core.List.{List, ◌++◌}
use Prim.Native.Nat.{ℕ, ◌+◌, ◌-◌, ◌*◌, ◌/◌, ◌^◌, ◌≤◌, ◌<◌}
use native.Mathlib.Nat.{one-mul, le_trans}
use native.Mathlib.Omega.{arith}
use lib.ListN.{length, take, drop, length-append, length-drop}
use lib.Seq.{take_at, drop-drop, get_or-take}
use Rattle.rules.specs.declared.Pair.{Pair}
use Rattle.rules.specs.Kinds.{cubemap, faces_of}
use Rattle.rules.specs.Sizes.{side_at, top, size_at, start, count}
use Rattle.rules.specs.Levels.{texel}
use Rattle.rules.specs.View.{face_start}
use Rattle.rules.specs.Cuts.{cut, matching_cut, CutAt}
use Rattle.rules.specs.Packing.{packing_of}
use Rattle.rules.specs.Pictures.{level_of, chain_of}
use Rattle.rules.specs.Refusals.{mipmaps_refusal, cut_call_refusal}
use Rattle.rules.specs.Answers.{chain_answer, chain_leaves, view_answer, cut_answer, cut_leaves}
use Rattle.rules.proofs.Grid.{place-lt, length-grid, grid-ext}
use Rattle.rules.proofs.Sides.{side-add, start-add, count-side}
use Rattle.rules.proofs.Bounds.{faces-flat}
use Rattle.rules.proofs.Cut.{matching-at, cut-top, cut_inside}
use Rattle.rules.proofs.Refusing.{answer-given, taken_of, Mipmapped, mipmaps-taken, mipmaps-facts}
use Rattle.rules.proofs.RefusingCuts.{CutCall, cut-taken, cut-facts}
use Rattle.rules.proofs.Laws.{level-picture, reduce-again, chain-again, filled-again, cut_again}
use Rattle.rules.proofs.Views.{level0, front-picture, chain-answered, chain-front, length-left, level0-left, views, views-left, view-left, view-flat}

-- ---- reopening

-- `buffer` is given its chain; level a is viewed, face by face, and copied to the front of `copy`, which has room for the chain of
-- a picture of level a's sides; that is given its chain too, by the same mode
module _ (kind w h mode a : ℕ) (buffer copy : List ℕ) (given : mipmaps_refusal kind w h mode (length buffer) ≡ 0) (le : a ≤ top w h)
    (copied : take (size_at (faces_of kind) w h a) copy ≡ views kind w h (chain_leaves kind w h mode buffer) a (faces_of kind))
    (room : count (faces_of kind) (side_at a w) (side_at a h) ≤ length copy) where
  first : Mipmapped kind w h mode (length buffer)
  first = mipmaps-facts kind w h mode (length buffer) given

  viewed : take (size_at (faces_of kind) w h a) copy ≡ level_of kind (packing_of mode) a w h (level0 kind w h buffer)
  viewed = copied ∙ views-left kind w h mode buffer first a le

  second : Mipmapped kind (side_at a w) (side_at a h) mode (length copy)
  second =
      let p = level-picture kind (packing_of mode) a w h (level0 kind w h buffer) (front-picture kind w h mode buffer first) in
      record { chained = record { taken = taken_of p; room = room }; known = first.known }

  -- it is not refused, and answers as many texels as the first chain has from level a on
  pub reopened-answer : (chain_answer kind (side_at a w) (side_at a h) mode copy ≡ Ok (count (faces_of kind) (side_at a w) (side_at a h)))
      × (chain_answer kind w h mode buffer ≡ Ok (start (faces_of kind) w h a + count (faces_of kind) (side_at a w) (side_at a h)))
  reopened-answer = (
    chain-answered kind (side_at a w) (side_at a h) mode copy second,
    chain-answered kind w h mode buffer first ∙ ap Ok (count-side (faces_of kind) w h a first.chained.taken.some-w le),
  )

  -- it leaves at the front exactly the tail of the first chain, and behind that what it found
  pub reopened-leaves : chain_leaves kind (side_at a w) (side_at a h) mode copy
      ≡ drop (start (faces_of kind) w h a) (take (count (faces_of kind) w h) (chain_leaves kind w h mode buffer))
      ++ drop (count (faces_of kind) (side_at a w) (side_at a h)) copy
  unfolding chain_leaves
  reopened-leaves =
      answer-given _ _ _ (mipmaps-taken kind (side_at a w) (side_at a h) mode (length copy) second)
      ∙ filled-again kind (packing_of mode) a w h (level0 kind w h buffer) (front-picture kind w h mode buffer first) copy le viewed
      ∙ rw (chain-front kind w h mode buffer first)

  -- reducing b times gives exactly level a + b, as the view hands them out
  pub reopened-view : (b f : ℕ) → a + b ≤ top w h → f < faces_of kind
      → view_answer kind (side_at a w) (side_at a h) (chain_leaves kind (side_at a w) (side_at a h) mode copy) b f
      ≡ view_answer kind w h (chain_leaves kind w h mode buffer) (a + b) f
  unfolding face_start size_at
  reopened-view b f below lt =
      let F = faces_of kind in
      let l = level0 kind w h buffer in
      let p = front-picture kind w h mode buffer first in
      let s = side_at b (side_at a h) * side_at b (side_at a w) in
      let n = start F (side_at a w) (side_at a h) b + f * s in
      let same : start F w h a + start F (side_at a w) (side_at a h) b + f * s ≡ start F w h a + n = omega arith in
      let here = view-left kind (side_at a w) (side_at a h) mode copy second b (reduce-again kind (packing_of mode) a w h l p b below).0 f lt in
      let there = view-left kind w h mode buffer first (a + b) below f lt in
      here ∙ rw (viewed, chain-again kind (packing_of mode) a w h l p le, drop-drop n (start F w h a) (chain_of kind (packing_of mode) w h l), ← same, ← start-add F w h a b, ← side-add a b w, ← side-add a b h) (sym there)

-- ---- cutting

-- a cut reads level 0 alone
cut-level0 : (kind k w h cx cy cw ch : ℕ) (l : List ℕ) → (kind ≡ cubemap → ⊥) → CutAt k w h cx cy cw ch
    → cut w h cx cy cw ch (level0 kind w h l) ≡ cut w h cx cy cw ch l
unfolding cut texel
cut-level0 kind k w h cx cy cw ch l flat c =
    rw (faces-flat kind flat) (grid-ext 1 cw ch c.some-w c.some-h _ _ λ f x y hf hx hy.
    get_or-take (1 * h * w) l ((f * h + (cy + y)) * w + (cx + x)) 0 (place-lt hf (omega arith) (omega arith)))

-- a corner or sides divided by 2^j
abbrev pub divided_by : ℕ → Pair → Pair
divided_by j p = record { x = p.x / 2 ^ j; y = p.y / 2 ^ j }

-- `source` is given its chain; an aligned cut of it is written to `target`, which has room for the chain of a picture of the cut's
-- sides; that is given its chain too, by the same mode
module _ (kind w h mode k : ℕ) (corner sides : Pair) (source target : List ℕ) (given : mipmaps_refusal kind w h mode (length source) ≡ 0)
    (taken : cut_call_refusal kind w h (length source) k corner sides (length target) ≡ 0)
    (room : count (faces_of kind) sides.x sides.y ≤ length target) where
  facts : CutCall kind w h (length source) k corner sides (length target)
  facts = cut-facts kind w h (length source) k corner sides (length target) taken

  at : CutAt k w h corner.x corner.y sides.x sides.y
  at = facts.cutting.at

  whole : Mipmapped kind w h mode (length source)
  whole = mipmaps-facts kind w h mode (length source) given

  length_cut : length (cut w h corner.x corner.y sides.x sides.y source) ≡ faces_of kind * sides.y * sides.x
  unfolding cut
  length_cut = rw (faces-flat kind facts.flat) (length-grid 1 sides.x sides.y _)

  one-face : faces_of kind * sides.y * sides.x ≡ sides.y * sides.x
  one-face = rw (faces-flat kind facts.flat, one-mul sides.y)

  cut_left : cut_leaves kind w h source k corner sides target
      ≡ cut w h corner.x corner.y sides.x sides.y source ++ drop (sides.y * sides.x) target
  unfolding cut_leaves
  cut_left = answer-given _ _ _ taken

  cut-front : level0 kind sides.x sides.y (cut_leaves kind w h source k corner sides target)
      ≡ cut w h corner.x corner.y sides.x sides.y source
  cut-front = rw cut_left (take_at (cut w h corner.x corner.y sides.x sides.y source) _ _ length_cut)

  length-piece : length (cut_leaves kind w h source k corner sides target) ≡ length target
  length-piece = let r = facts.room in rw (cut_left, length-append, length-drop, length_cut, one-face) (omega arith)

  piece : Mipmapped kind sides.x sides.y mode (length (cut_leaves kind w h source k corner sides target))
  piece =
      let t = facts.taken in
      let a = at in
      record {
        chained = record {
          taken = record { known = t.known; some-w = a.some-w; some-h = a.some-h; most-w = omega arith; most-h = omega arith };
          room = rw length-piece room;
        };
        known = whole.known;
      }

  -- neither call is refused
  pub cut-answers : (cut_answer kind w h source k corner sides target ≡ Ok (sides.y * sides.x))
      × (chain_answer kind sides.x sides.y mode (cut_leaves kind w h source k corner sides target) ≡ Ok (count (faces_of kind) sides.x sides.y))
  unfolding cut_answer
  cut-answers = (answer-given _ _ _ taken, chain-answered kind sides.x sides.y mode (cut_leaves kind w h source k corner sides target) piece)

  -- it is the same cut whether `source` has its chain by then or not
  pub cut-late : cut_leaves kind w h (chain_leaves kind w h mode source) k corner sides target ≡ cut_leaves kind w h source k corner sides target
  unfolding cut_leaves
  cut-late =
      let cx = corner.x in
      let cy = corner.y in
      let cw = sides.x in
      let ch = sides.y in
      let flat = facts.flat in
      rw (
        length-left kind w h mode source whole,
        ← cut-level0 kind k w h cx cy cw ch (chain_leaves kind w h mode source) flat at,
        level0-left kind w h mode source whole,
        cut-level0 kind k w h cx cy cw ch source flat at,
      )

  -- the first k reductions of the cut are the matching cuts of the whole picture's, as the view hands them out
  pub cut-view : (j : ℕ) → j ≤ k
      → view_answer kind sides.x sides.y (chain_leaves kind sides.x sides.y mode (cut_leaves kind w h source k corner sides target)) j 0
      ≡ matching_cut j w h corner.x corner.y sides.x sides.y (view_answer kind w h (chain_leaves kind w h mode source) j 0)
  cut-view j le =
      let cx = corner.x in
      let cy = corner.y in
      let cw = sides.x in
      let ch = sides.y in
      let flat = facts.flat in
      let below : j ≤ top cw ch = le_trans le (cut-top at) in
      let above : j ≤ top w h = le_trans le (cut_inside at) in
      view-flat kind cw ch mode (cut_leaves kind w h source k corner sides target) piece j below flat
      ∙ rw (cut-front, ← cut-level0 kind k w h cx cy cw ch source flat at, view-flat kind w h mode source whole j above flat)
      (cut_again kind (packing_of mode) k w h cx cy cw ch (level0 kind w h source) flat at j le)

  -- cutting the picture and then reducing j times is reducing j times and then cutting: `reduced` begins with level j of `source`, as
  -- the view hands it out, and the matching cut of it is written to `out`
  pub cut-of-level : (j : ℕ) (reduced out : List ℕ) → j ≤ k
      → level0 kind (side_at j w) (side_at j h) reduced ≡ view_answer kind w h (chain_leaves kind w h mode source) j 0
      → faces_of kind * side_at j h * side_at j w ≤ length reduced
      → sides.y / 2 ^ j * (sides.x / 2 ^ j) ≤ length out
      → cut_leaves kind (side_at j w) (side_at j h) reduced (k - j) (divided_by j corner) (divided_by j sides) out
      ≡ view_answer kind sides.x sides.y (chain_leaves kind sides.x sides.y mode (cut_leaves kind w h source k corner sides target)) j 0
      ++ drop (sides.y / 2 ^ j * (sides.x / 2 ^ j)) out
  unfolding cut_leaves matching_cut
  cut-of-level j reduced out le front long space =
      let p = level-picture kind (packing_of mode) j w h (level0 kind w h source) (front-picture kind w h mode source whole) in
      let order = facts.cutting.order in
      let c = matching-at j k w h corner.x corner.y sides.x sides.y le at in
      let call : CutCall kind (side_at j w) (side_at j h) (length reduced) (k - j) (divided_by j corner) (divided_by j sides) (length out) =
      record {
        taken = taken_of p;
        level0 = long;
        flat = facts.flat;
        cutting = record { order = omega arith; at = c };
        room = space;
      } in
      answer-given _ _ _ (cut-taken kind (side_at j w) (side_at j h) (length reduced) (k - j) (divided_by j corner) (divided_by j sides) (length out) call)
      ∙ rw (cut-view j le, ← front, cut-level0 kind (k - j) (side_at j w) (side_at j h) (corner.x / 2 ^ j) (corner.y / 2 ^ j) (sides.x / 2 ^ j) (sides.y / 2 ^ j) reduced facts.flat c)
