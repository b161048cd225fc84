-- Another tool's chain, of the calls: over what check_chain, check_level and the chain call are said to answer and leave (specs/Answers).
-- check_chain answers yes exactly if 01's chain of its level 0 was lent, and exactly if check_level does for every level; what the chain
-- call leaves it always accepts; of an accepted chain it accepts the part from any level on; and where one texel of an accepted chain
-- is changed, it says where. Assumes nothing.
use Rattle.std.specs.Prelude.{None, Ok, Err, Result, Option, Some}
use Rattle.rules.specs.Answers.{refused}
use mathlib.Core.Path.{◌≡◌, sym, ap, ◌∙◌}
use mathlib.Core.Bool.{Bool, true, false, false≢true}
use mathlib.Core.Logic.{◌⊎◌, inl, inr, ⊎_elim}
use mathlib.Core.List.{List}
use Prim.Native.Nat.{ℕ, suc, ◌+◌, ◌-◌, ◌≤◌, ◌<◌}
use native.Mathlib.Nat.{le_trans}
use native.Mathlib.Omega.{arith}
use lib.ListN.{length, get_or, take, drop, set, length-set, length-drop}
use lib.Seq.{take-add, drop_at, length-take-le}
use Rattle.rules.specs.declared.Refusal.{Refusal}
use Rattle.rules.specs.Kinds.{faces_of}
use Rattle.rules.specs.Sizes.{side_at, top, size_at, start, count}
use Rattle.rules.specs.Levels.{level}
use Rattle.rules.specs.Packing.{packing_of}
use Rattle.rules.specs.Reducing.{reduce_of}
use Rattle.rules.specs.Pictures.{level_of, chain_of}
use Rattle.rules.specs.Checks.{standing, child, level_verdict_of, chain_verdict_of}
use Rattle.rules.specs.Refusals.{mipmaps_refusal}
use Rattle.rules.specs.Answers.{answer, chain_leaves, check_chain_answer, check_level_answer}
use Rattle.rules.proofs.Sides.{side-pos, side-le, size-zero, count-side}
use Rattle.rules.proofs.Refusing.{answer-given, answer-refused, none_or_some, Mipmapped, mipmaps-taken, mipmaps-facts}
use Rattle.rules.proofs.RefusingChecks.{check-taken}
use Rattle.rules.proofs.Views.{level0, front-picture, chain-front, level0-left, length-left}
use Rattle.rules.proofs.Laws.{chain-again}
use Rattle.rules.proofs.Checks.{place_of, not-both, levels-none, levels-all, levels-judged}
use Rattle.rules.proofs.Following.{follows-levels, follows-chain, chain-follows}
use Rattle.rules.proofs.OneWrong.{others-follow, one-wrong, one-wrong-below}

-- ---- what an answer says

abbrev judged-yes : Result (Option ℕ) Refusal → Bool
judged-yes (Ok v) = true
judged-yes (Err refusal) = false

abbrev verdict-in : Result (Option ℕ) Refusal → Option ℕ
verdict-in (Ok v) = v
verdict-in (Err refusal) = None

module _ (kind w h mode : ℕ) (l : List ℕ) where
  pub check-judged : Mipmapped kind w h mode (length l) → check_chain_answer kind w h mode l ≡ Ok (chain_verdict_of kind (packing_of mode) w h l)
  unfolding check_chain_answer
  check-judged c = answer-given _ _ _ (mipmaps-taken kind w h mode (length l) c)

  pub level-judged : Mipmapped kind w h mode (length l) → (m : ℕ) → m ≤ top w h → check_level_answer kind w h mode l m ≡ Ok (level_verdict_of kind (packing_of mode) w h l m)
  unfolding check_level_answer
  level-judged c m le = answer-given _ _ _ (check-taken kind w h mode (length l) m (record { mipmapped = c; below = le }))

  pub check-refused : (mipmaps_refusal kind w h mode (length l) ≡ 0 → ⊥) → check_chain_answer kind w h mode l ≡ refused (mipmaps_refusal kind w h mode (length l))
  unfolding check_chain_answer
  check-refused some = answer-refused _ _ _ some

  chain-found : (mipmaps_refusal kind w h mode (length l) ≡ 0 → ⊥) → chain_leaves kind w h mode l ≡ l
  unfolding chain_leaves
  chain-found some = answer-refused _ _ _ some

  -- a verdict is no refusal
  pub judged-taken : {v : Option ℕ} → check_chain_answer kind w h mode l ≡ Ok v → Mipmapped kind w h mode (length l)
  judged-taken e =
      ⊎_elim
      (λ none. mipmaps-facts kind w h mode (length l) none)
      (λ some. absurd (false≢true (ap judged-yes (sym (check-refused some) ∙ e))))
      (none_or_some (mipmaps_refusal kind w h mode (length l)))

  pub judged-is : {v : Option ℕ} → check_chain_answer kind w h mode l ≡ Ok v → chain_verdict_of kind (packing_of mode) w h l ≡ v
  judged-is e = ap verdict-in (sym (check-judged (judged-taken e)) ∙ e)

  -- ---- check_chain by check_level

  pub yes-levels : check_chain_answer kind w h mode l ≡ Ok None → (m : ℕ) → m ≤ top w h → check_level_answer kind w h mode l m ≡ Ok None
  unfolding level_verdict_of chain_verdict_of
  yes-levels e m le =
      level-judged (judged-taken e) m le
      ∙ ap Ok (levels-all (reduce_of kind (packing_of mode)) (faces_of kind) w h l (suc (top w h)) (judged-is e) m (omega arith))

  pub levels-yes : Mipmapped kind w h mode (length l) → ((m : ℕ) → m ≤ top w h → check_level_answer kind w h mode l m ≡ Ok None) → check_chain_answer kind w h mode l ≡ Ok None
  unfolding level_verdict_of chain_verdict_of
  levels-yes c all =
      check-judged c
      ∙ ap Ok (levels-none (reduce_of kind (packing_of mode)) (faces_of kind) w h l (suc (top w h)) (λ m lt. ap verdict-in (sym (level-judged c m (omega arith)) ∙ all m (omega arith))))

  -- else its answer is that of the first level that does not follow
  pub no-levels : {p : ℕ} → check_chain_answer kind w h mode l ≡ Ok (Some p)
      → (m : ℕ) × (m ≤ top w h) × (check_level_answer kind w h mode l m ≡ Ok (Some p)) × ((j : ℕ) → j < m → check_level_answer kind w h mode l j ≡ Ok None)
  unfolding level_verdict_of chain_verdict_of
  no-levels {p} e =
      let c = judged-taken e in
      ⊎_elim
      (λ all. absurd (not-both all.0 (judged-is e)))
      (λ some.
      let m = some.0 in
      let lt = some.2 in
      let q : some.1 ≡ p = ap place_of (sym some.3 ∙ judged-is e) in (
        m,
        omega arith,
        level-judged c m (omega arith) ∙ ap Ok (some.4 ∙ ap Some q),
        λ j below. level-judged c j (omega arith) ∙ ap Ok (some.5 j below),
      ))
      (levels-judged (reduce_of kind (packing_of mode)) (faces_of kind) w h l (suc (top w h)))

  -- ---- yes exactly if it is 01's chain

  level0-stands : 0 < w → 0 < h → standing (faces_of kind) w h l 0 ≡ level0 kind w h l
  unfolding standing start
  level0-stands pw ph = rw (size-zero (faces_of kind) w h pw ph)

  pub yes-chain : check_chain_answer kind w h mode l ≡ Ok None → take (count (faces_of kind) w h) l ≡ chain_of kind (packing_of mode) w h (level0 kind w h l)
  unfolding chain_verdict_of chain_of count
  yes-chain e =
      let c = (judged-taken e).chained in
      let t = c.taken in
      follows-chain (reduce_of kind (packing_of mode)) (faces_of kind) w h l t.some-w t.some-h (suc (top w h)) c.room (judged-is e)
      ∙ rw (level0-stands t.some-w t.some-h)

  pub chain-yes : Mipmapped kind w h mode (length l) → take (count (faces_of kind) w h) l ≡ chain_of kind (packing_of mode) w h (level0 kind w h l) → check_chain_answer kind w h mode l ≡ Ok None
  unfolding chain_verdict_of chain_of count
  chain-yes m e =
      let t = m.chained.taken in
      check-judged m
      ∙ ap Ok (chain-follows (reduce_of kind (packing_of mode)) (faces_of kind) w h l t.some-w t.some-h (suc (top w h)) m.chained.room (e ∙ rw (level0-stands t.some-w t.some-h)))

-- ---- what the chain call leaves

-- WHAT THE CHAIN CALL WRITES IS ACCEPTED, for every buffer that it was lent; one that it refuses is refused here by the same number
pub left-accepted : (kind w h mode : ℕ) (buffer : List ℕ)
    → check_chain_answer kind w h mode (chain_leaves kind w h mode buffer) ≡ answer (mipmaps_refusal kind w h mode (length buffer)) refused (Ok None)
left-accepted kind w h mode buffer =
    ⊎_elim
    (λ none.
    let c = mipmaps-facts kind w h mode (length buffer) none in
    let made = chain_leaves kind w h mode buffer in
    chain-yes kind w h mode made (rw (length-left kind w h mode buffer c) c)
    (chain-front kind w h mode buffer c ∙ rw (level0-left kind w h mode buffer c))
    ∙ sym (answer-given _ _ _ none))
    (λ some. rw (chain-found kind w h mode buffer some) (check-refused kind w h mode buffer some ∙ sym (answer-refused _ _ _ some)))
    (none_or_some (mipmaps_refusal kind w h mode (length buffer)))

-- ---- reopening

-- a part of a list, counted from behind its start
tail-part : (n k : ℕ) (l : List ℕ) → n ≤ length l → take k (drop n l) ≡ drop n (take (n + k) l)
tail-part n k l le = sym (ap (drop n) (take-add n k l) ∙ drop_at (take n l) (take k (drop n l)) n (length-take-le n l le))

-- OF AN ACCEPTED CHAIN THE PART FROM LEVEL a ON IS ACCEPTED, as a chain of level a's sides
module _ (kind w h mode a : ℕ) (l : List ℕ) (yes : check_chain_answer kind w h mode l ≡ Ok None) (le : a ≤ top w h) where
  tail-taken : Mipmapped kind (side_at a w) (side_at a h) mode (length (drop (start (faces_of kind) w h a) l))
  tail-taken =
      let c = judged-taken kind w h mode l yes in
      let t = c.chained.taken in
      let r = c.chained.room in
      record {
        chained = record {
          taken = record {
            known = t.known;
            some-w = side-pos a w;
            some-h = side-pos a h;
            most-w = le_trans (side-le a w t.some-w) t.most-w;
            most-h = le_trans (side-le a h t.some-h) t.most-h;
          };
          room = rw (length-drop (start (faces_of kind) w h a) l) (omega (arith, count-side (faces_of kind) w h a t.some-w le));
        };
        known = c.known;
      }

  -- which begins with level a
  pub level-stands : level0 kind (side_at a w) (side_at a h) (drop (start (faces_of kind) w h a) l) ≡ level_of kind (packing_of mode) a w h (level0 kind w h l)
  unfolding level_of chain_verdict_of standing size_at count
  level-stands =
      let c = (judged-taken kind w h mode l yes).chained in
      let t = c.taken in
      follows-levels (reduce_of kind (packing_of mode)) (faces_of kind) w h l t.some-w t.some-h (suc (top w h)) c.room (judged-is kind w h mode l yes) a (omega arith)
      ∙ ap (level (reduce_of kind (packing_of mode)) (faces_of kind) a w h) (level0-stands kind w h mode l t.some-w t.some-h)

  pub tail-accepted : check_chain_answer kind (side_at a w) (side_at a h) mode (drop (start (faces_of kind) w h a) l) ≡ Ok None
  tail-accepted =
      let F = faces_of kind in
      let c = judged-taken kind w h mode l yes in
      let t = c.chained.taken in
      let r = c.chained.room in
      let n = start F w h a in
      let p = front-picture kind w h mode l c in
      let sum = count-side F w h a t.some-w le in
      chain-yes kind (side_at a w) (side_at a h) mode (drop n l) tail-taken
      (tail-part n (count F (side_at a w) (side_at a h)) l (omega arith)
      ∙ ap (λ (k : ℕ). drop n (take k l)) (sym sum)
      ∙ ap (drop n) (yes-chain kind w h mode l yes)
      ∙ sym (chain-again kind (packing_of mode) a w h (level0 kind w h l) p le)
      ∙ ap (chain_of kind (packing_of mode) (side_at a w) (side_at a h)) (sym level-stands))

-- ---- one wrong texel

-- ONE TEXEL OF AN ACCEPTED CHAIN IS CHANGED, that at place p of level m
module _ (kind w h mode : ℕ) (l : List ℕ) (m p t : ℕ) (yes : check_chain_answer kind w h mode l ≡ Ok None) (level : m ≤ top w h)
    (from : start (faces_of kind) w h m ≤ p) (before : p < start (faces_of kind) w h (suc m)) (other : t ≡ get_or l p 0 → ⊥) where
  taken : Mipmapped kind w h mode (length l)
  taken = judged-taken kind w h mode l yes

  still : Mipmapped kind w h mode (length (set l p t))
  still = rw (length-set l p t) taken

  -- above level 0 the answer is exactly that place
  pub changed-above : 0 < m → check_chain_answer kind w h mode (set l p t) ≡ Ok (Some p)
  unfolding chain_verdict_of count
  changed-above some =
      check-judged kind w h mode (set l p t) still
      ∙ ap Ok (one-wrong (reduce_of kind (packing_of mode)) (faces_of kind) w h l (top w h) m p t (judged-is kind w h mode l yes) taken.chained.room level from before other (m - 1) (omega arith))

  -- in level 0 it is yes, or the place of the one texel of level 1 that is made from it
  pub changed-below : m ≡ 0
      → (check_chain_answer kind w h mode (set l p t) ≡ Ok None) ⊎ (check_chain_answer kind w h mode (set l p t) ≡ Ok (Some (child (faces_of kind) w h 0 p)))
  unfolding chain_verdict_of count
  changed-below e =
      let judged = check-judged kind w h mode (set l p t) still in
      ⊎_elim
      (λ a. inl (judged ∙ ap Ok a))
      (λ a. inr (judged ∙ ap Ok a))
      (one-wrong-below (reduce_of kind (packing_of mode)) (faces_of kind) w h l (top w h) m p t (judged-is kind w h mode l yes) taken.chained.room level from before other e)

  -- and every level but m and m + 1 follows
  pub changed-else : (j : ℕ) → j ≤ top w h → (j ≡ m → ⊥) → (j ≡ suc m → ⊥) → check_level_answer kind w h mode (set l p t) j ≡ Ok None
  unfolding chain_verdict_of level_verdict_of count
  changed-else j le a b =
      level-judged kind w h mode (set l p t) still j le
      ∙ ap Ok (others-follow (reduce_of kind (packing_of mode)) (faces_of kind) w h l (top w h) m p t (judged-is kind w h mode l yes) taken.chained.room level from before other j le a b)
