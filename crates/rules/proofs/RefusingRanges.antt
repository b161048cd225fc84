-- What the refusal numbers of the two calls on ranges say: 0 exactly when the facts hold, and else the first number that is given.
-- Assumes nothing.
use Rattle.std.specs.Prelude.{Ok}
use Rattle.rules.specs.Answers.{refused, told}
use Rattle.rules.proofs.Answering.{first}
use mathlib.Core.Path.{◌≡◌, sym, ap, ◌∙◌}
use mathlib.Core.Bool.{true, ◌&&◌}
use mathlib.Core.Logic.{⊎_elim}
use mathlib.Core.List.{List, ◌++◌}
use Prim.Native.Nat.{ℕ, ◌+◌, ◌*◌, ◌/◌, ◌≤◌, ◌<◌}
use native.Mathlib.Omega.{arith}
use borrow.Author.Tests.{ltb-true, lt-ltb}
use lib.Dec.{ltb}
use lib.ListN.{length, drop, set}
use lib.Seq.{sets}
use Rattle.rules.specs.Kinds.{cubemap, faces_of}
use Rattle.rules.specs.Sizes.{side_at, start, count}
use Rattle.rules.specs.Ranges.{tile, range_of, ranges_of, ranges_size, range_start, replaced, range_replaced}
use Rattle.rules.specs.Refusals.{buffer_refusal, no_cubemap_refusal, picture_refusal, outside_refusal, ranges_refusal, replace_refusal}
use Rattle.rules.specs.Answers.{level_sizes_answer, ranges_answer, ranges_leaves, replace_leaves, replace_ranges_leaves}
use Rattle.rules.proofs.Refusing.{none_or_some, answer-given, answer-refused, sizes-taken, sizes-picture, or_else-zero, or_else-given, or_else-none, or_else-taken, unless-true, unless-false, unless-none, and-true, and_both, test-false, buffer-taken, buffer_facts, buffer-refused, flat-taken, flat-facts, Taken, picture-taken, picture-facts}

-- ---- 14: a place outside the picture

pub record Inside (w h x y : ℕ) : Type 0 where
  pub along : x < w
  pub down : y < h

module _ (w h x y : ℕ) where
  inside-fact : (ltb x w && ltb y h) ≡ true → Inside w h x y
  inside-fact e = let b = and_both (ltb x w) (ltb y h) e in record { along = ltb-true x w b.0; down = ltb-true y h b.1 }

  pub inside-taken : Inside w h x y → outside_refusal w h x y ≡ 0
  unfolding outside_refusal
  inside-taken p = unless-true _ 14 (and-true (ltb x w) (ltb y h) (lt-ltb x w p.along) (lt-ltb y h p.down))

  pub inside-facts : outside_refusal w h x y ≡ 0 → Inside w h x y
  unfolding outside_refusal
  inside-facts e = inside-fact (unless-none (ltb x w && ltb y h) 13 e)

  pub inside-refused : (Inside w h x y → ⊥) → outside_refusal w h x y ≡ 14
  unfolding outside_refusal
  inside-refused fails = unless-false _ 14 (test-false _ (λ t. fails (inside-fact t)))

-- ---- 1, 2, as level_sizes gives them: every picture has a level 0

module _ (kind w h : ℕ) where
  sizes-given : picture_refusal kind w h ≡ 0
      → level_sizes_answer kind w h 0 ≡ Ok record { start = start (faces_of kind) w h 0; width = side_at 0 w; height = side_at 0 h; total = count (faces_of kind) w h }
  unfolding level_sizes_answer
  sizes-given e = answer-given _ _ _ (sizes-taken kind w h 0 (record { taken = picture-facts kind w h e; below = omega arith }))

  sizes-refused : (picture_refusal kind w h ≡ 0 → ⊥) → level_sizes_answer kind w h 0 ≡ refused (picture_refusal kind w h)
  unfolding level_sizes_answer
  sizes-refused some =
      let same = sizes-picture kind w h 0 some in
      answer-refused _ _ _ (λ z. some (sym same ∙ z)) ∙ ap refused same

  -- level_sizes tells of level 0 what the picture's own number does
  pub level0_told : told (picture_refusal kind w h) ≡ first (level_sizes_answer kind w h 0) (Ok tt)
  level0_told =
      ⊎_elim
      (λ none. rw (sizes-given none) (answer-given _ refused _ none))
      (λ some. rw (sizes-refused some) (answer-refused _ refused _ some))
      (none_or_some (picture_refusal kind w h))

-- ---- 1, 2, 3 (level 0), 3 (the ranges), 8

pub record Ranged (kind w h texels ranges : ℕ) : Type 0 where
  pub taken : Taken kind w h
  pub level0 : faces_of kind * h * w ≤ texels
  pub room : ranges_size w h ≤ ranges
  pub flat : kind ≡ cubemap → ⊥

-- buffers that are as long serve as well
pub still-ranged : {kind w h n m n' m' : ℕ} → Ranged kind w h n m → n' ≡ n → m' ≡ m → Ranged kind w h n' m'
still-ranged r en em = rw (en, em) r

module _ (kind w h texels ranges : ℕ) where
  pub ranges-taken : Ranged kind w h texels ranges → ranges_refusal kind w h texels ranges ≡ 0
  unfolding ranges_refusal
  ranges-taken r =
      or_else-taken _ _ (picture-taken kind w h r.taken)
      (or_else-taken _ _ (buffer-taken _ texels r.level0)
      (or_else-taken _ _ (buffer-taken _ ranges r.room) (flat-taken kind r.flat)))

  pub ranges-facts : ranges_refusal kind w h texels ranges ≡ 0 → Ranged kind w h texels ranges
  unfolding ranges_refusal
  ranges-facts e =
      let a = or_else-none (picture_refusal kind w h) _ e in
      let b = or_else-none (buffer_refusal (faces_of kind * h * w) texels) _ a.1 in
      let c = or_else-none (buffer_refusal (ranges_size w h) ranges) _ b.1 in
      record {
        taken = picture-facts kind w h a.0;
        level0 = buffer_facts _ texels b.0;
        room = buffer_facts _ ranges c.0;
        flat = flat-facts kind c.1;
      }

  -- the picture's own number; then each of the others, where none before it is given
  pub ranges-picture : (picture_refusal kind w h ≡ 0 → ⊥) → ranges_refusal kind w h texels ranges ≡ picture_refusal kind w h
  unfolding ranges_refusal
  ranges-picture given = or_else-given _ _ given

  module _ (t : picture_refusal kind w h ≡ 0) where
    pub ranges-texels : texels < faces_of kind * h * w → ranges_refusal kind w h texels ranges ≡ 3
    unfolding ranges_refusal
    ranges-texels short =
        let e = buffer-refused _ texels short in
        or_else-zero _ _ t ∙ or_else-given _ _ (λ z. omega arith) ∙ e

    module _ (l : faces_of kind * h * w ≤ texels) where
      pub ranges-short : ranges < ranges_size w h → ranges_refusal kind w h texels ranges ≡ 3
      unfolding ranges_refusal
      ranges-short short =
          let e = buffer-refused _ ranges short in
          or_else-zero _ _ t
          ∙ or_else-zero _ _ (buffer-taken _ texels l)
          ∙ or_else-given _ _ (λ z. omega arith)
          ∙ e

      -- past the buffers the kind alone decides
      pub ranges-kind : ranges_size w h ≤ ranges → ranges_refusal kind w h texels ranges ≡ no_cubemap_refusal kind
      unfolding ranges_refusal
      ranges-kind room =
          or_else-zero _ _ t ∙ or_else-zero _ _ (buffer-taken _ texels l) ∙ or_else-zero _ _ (buffer-taken _ ranges room)

-- ---- the same, then 14

pub record Replacing (kind w h texels ranges x y : ℕ) : Type 0 where
  pub ranged : Ranged kind w h texels ranges
  pub inside : Inside w h x y

module _ (kind w h texels ranges x y : ℕ) where
  pub replace-taken : Replacing kind w h texels ranges x y → replace_refusal kind w h texels ranges x y ≡ 0
  unfolding replace_refusal
  replace-taken r = or_else-taken _ _ (ranges-taken kind w h texels ranges r.ranged) (inside-taken w h x y r.inside)

  pub replace-facts : replace_refusal kind w h texels ranges x y ≡ 0 → Replacing kind w h texels ranges x y
  unfolding replace_refusal
  replace-facts e =
      let a = or_else-none (ranges_refusal kind w h texels ranges) _ e in
      record { ranged = ranges-facts kind w h texels ranges a.0; inside = inside-facts w h x y a.1 }

  pub replace-ranges : (ranges_refusal kind w h texels ranges ≡ 0 → ⊥) → replace_refusal kind w h texels ranges x y ≡ ranges_refusal kind w h texels ranges
  unfolding replace_refusal
  replace-ranges given = or_else-given _ _ given

  pub replace-place : ranges_refusal kind w h texels ranges ≡ 0 → replace_refusal kind w h texels ranges x y ≡ outside_refusal w h x y
  unfolding replace_refusal
  replace-place e = or_else-zero _ _ e

-- ---- a call works out its number and tests it. Where it is not 0 it is answered, and the buffers stay as found (`X-stops`); past the
-- test the answer and the buffers are those of the work (`X-goes`)

pub passed : {r n : ℕ} → r ≡ n → r ≡ 0 → n ≡ 0
passed e none = sym e ∙ none

module _ (kind w h : ℕ) (l ranges : List ℕ) where
  pub build-stops : {r : ℕ} → r ≡ ranges_refusal kind w h (length l) (length ranges) → (r ≡ 0 → ⊥)
      → (refused r ≡ ranges_answer kind w h l ranges) × (ranges ≡ ranges_leaves kind w h l ranges)
  unfolding ranges_answer ranges_leaves
  build-stops e some =
      let other : ranges_refusal kind w h (length l) (length ranges) ≡ 0 → ⊥ = λ none. some (e ∙ none) in
      (rw e (sym (answer-refused _ _ _ other)), sym (answer-refused _ _ _ other))

  pub build-goes : {n : ℕ} {t : List ℕ} → ranges_refusal kind w h (length l) (length ranges) ≡ 0 → n ≡ ranges_size w h
      → t ≡ ranges_of w h l ++ drop (ranges_size w h) ranges
      → (Ok n ≡ ranges_answer kind w h l ranges) × (t ≡ ranges_leaves kind w h l ranges)
  unfolding ranges_answer ranges_leaves
  build-goes none en et = (ap Ok en ∙ sym (answer-given _ _ _ none), et ∙ sym (answer-given _ _ _ none))

  module _ (x y t : ℕ) where
    pub replace-stops : {r : ℕ} → r ≡ replace_refusal kind w h (length l) (length ranges) x y → (r ≡ 0 → ⊥)
        → (r ≡ replace_refusal kind w h (length l) (length ranges) x y)
        × ((l ≡ replace_leaves kind w h l ranges x y t) × (ranges ≡ replace_ranges_leaves kind w h l ranges x y t))
    unfolding replace_leaves replace_ranges_leaves
    replace-stops e some =
        let other : replace_refusal kind w h (length l) (length ranges) x y ≡ 0 → ⊥ = λ none. some (e ∙ none) in
        (e, (sym (answer-refused _ _ _ other), sym (answer-refused _ _ _ other)))

    pub replace-goes : {r : List ℕ} → replace_refusal kind w h (length l) (length ranges) x y ≡ 0
        → r ≡ sets ranges (range_start w (x / 16) (y / 16)) (range_of (tile w h (set l (y * w + x) t) (x / 16) (y / 16)))
        → (0 ≡ replace_refusal kind w h (length l) (length ranges) x y)
        × ((set l (y * w + x) t ≡ replace_leaves kind w h l ranges x y t) × (r ≡ replace_ranges_leaves kind w h l ranges x y t))
    unfolding replace_leaves replace_ranges_leaves replaced range_replaced
    replace-goes none er = (sym none, (sym (answer-given _ _ _ none), er ∙ sym (answer-given _ _ _ none)))
