-- The law of ranges, of the calls: over what their contracts say they answer and leave (specs/Answers), for every input. From ranges
-- just built, a replacement leaves those of the picture so changed, since it works out the one tile that could differ; a refused one
-- leaves both buffers; so any list of them does, by induction. Each touches one texel and one tile. Assumes nothing.
use mathlib.Core.Path.{◌≡◌, refl, sym, ap, subst, ◌∙◌}
use mathlib.Core.List.{List, [], ◌∷◌, ◌++◌, append_assoc}
use mathlib.Core.Logic.{◌⊎◌, inl, inr, ⊎_elim}
use Prim.Native.Nat.{ℕ, suc, ◌+◌, ◌*◌, ◌/◌, ◌≤◌, ◌<◌}
use native.Mathlib.Nat.{one-mul}
use native.Mathlib.Omega.{arith}
use lib.Arith.{digits_lt}
use lib.ListN.{length, get_or, take, drop, set, length-append, length-set, length-drop}
use lib.Seq.{sets, sets-eq, length-sets, length-take-le, take_at, drop_at, drop-set-lt, get_or-set_same, get_or-set_other}
use Rattle.rules.specs.Kinds.{faces_of}
use Rattle.rules.specs.Ranges.{range_of, tile, ranges_of, ranges_size, range_start, replaced, range_replaced}
use Rattle.rules.specs.Refusals.{replace_refusal}
use Rattle.rules.specs.Answers.{ranges_leaves, replace_leaves, replace_ranges_leaves}
use Rattle.rules.specs.Series.{Beside, Replacement, built, after_all}
use Rattle.rules.proofs.Refusing.{none_or_some, answer-given, answer-refused, by-refusal}
use Rattle.rules.proofs.Bounds.{faces-flat}
use Rattle.rules.proofs.RefusingRanges.{Ranged, ranges-facts, ranges-taken, Replacing, replace-facts}
use Rattle.rules.proofs.Tiles.{length-range, length-ranges, sets-left, tile-of, tile-room, ranges-replaced}

-- ---- no call changes a buffer's length

module _ (kind w h : ℕ) (l ranges : List ℕ) where
  pub length-built : length (ranges_leaves kind w h l ranges) ≡ length ranges
  unfolding ranges_leaves
  length-built =
      by-refusal _ ranges _ (λ r. length r ≡ length ranges) refl λ e.
      let room = (ranges-facts kind w h (length l) (length ranges) e).room in
      rw (length-append, length-drop, length-ranges w h l) (omega arith)

  module _ (x y t : ℕ) where
    pub length-texels : length (replace_leaves kind w h l ranges x y t) ≡ length l
    unfolding replace_leaves replaced
    length-texels = by-refusal _ l _ (λ r. length r ≡ length l) refl (λ e. length-set l _ t)

    pub length-replaced : length (replace_ranges_leaves kind w h l ranges x y t) ≡ length ranges
    unfolding replace_ranges_leaves range_replaced
    length-replaced =
        by-refusal _ ranges _ (λ r. length r ≡ length ranges) refl
        (λ e. length-sets ranges (range_start w (x / 16) (y / 16)) (range_of (tile w h (replaced w l x y t) (x / 16) (y / 16))))

-- ---- one replacement

-- its place lies in level 0
pub texel-inside : (kind w h n m x y : ℕ) → Replacing kind w h n m x y → y * w + x < n
texel-inside kind w h n m x y r =
    let one : faces_of kind ≡ 1 = faces-flat kind r.ranged.flat in
    let level0 : h * w ≤ n = rw (one, one-mul h) at r.ranged.level0 in
    omega (arith, digits_lt r.inside.down r.inside.along)

-- stores leave what lies before and behind them
sets-other : (vs l : List ℕ) (i b : ℕ) → (b < i) ⊎ (i + length vs ≤ b) → get_or (sets l i vs) b 0 ≡ get_or l b 0
sets-other [] l i b outside = refl
sets-other (v ∷ vs) l i b outside =
    let other : b ≡ i → ⊥ = λ e. ⊎_elim (λ (lt : b < i). omega arith) (λ (le : i + suc (length vs) ≤ b). omega arith) outside in
    let rest : (b < suc i) ⊎ (suc i + length vs ≤ b) = ⊎_elim (λ (lt : b < i). inl (omega arith)) (λ (le : i + suc (length vs) ≤ b). inr (omega arith)) outside in
    sets-other vs (set l i v) (suc i) b rest ∙ get_or-set_other l i b v 0 other

module _ (kind w h : ℕ) (l ranges : List ℕ) (x y t : ℕ) where
  -- it touches one texel, so the levels past level 0 are as found
  pub one-texel : (i : ℕ) → (i ≡ y * w + x → ⊥) → get_or (replace_leaves kind w h l ranges x y t) i 0 ≡ get_or l i 0
  unfolding replace_leaves replaced
  one-texel i other = by-refusal _ l _ (λ r. get_or r i 0 ≡ get_or l i 0) refl (λ e. get_or-set_other l (y * w + x) i t 0 other)

  pub other-levels : drop (h * w) (replace_leaves kind w h l ranges x y t) ≡ drop (h * w) l
  unfolding replace_leaves replaced
  other-levels =
      by-refusal _ l _ (λ r. drop (h * w) r ≡ drop (h * w) l) refl λ e.
      let p = (replace-facts kind w h (length l) (length ranges) x y e).inside in
      drop-set-lt (h * w) l (y * w + x) t (digits_lt p.down p.along)

  -- its place has the new texel
  pub new-texel : replace_refusal kind w h (length l) (length ranges) x y ≡ 0 → get_or (replace_leaves kind w h l ranges x y t) (y * w + x) 0 ≡ t
  unfolding replace_leaves replaced
  new-texel e =
      let r = replace-facts kind w h (length l) (length ranges) x y e in
      let lt : y * w + x < length l = texel-inside kind w h (length l) (length ranges) x y r in
      rw (answer-given _ (λ k. l) (set l (y * w + x) t) e) (get_or-set_same l (y * w + x) t 0 lt)

  -- it touches one tile: every byte outside its eight is as found
  pub one-tile : (b : ℕ) → (b < range_start w (x / 16) (y / 16)) ⊎ (range_start w (x / 16) (y / 16) + 8 ≤ b)
      → get_or (replace_ranges_leaves kind w h l ranges x y t) b 0 ≡ get_or ranges b 0
  unfolding replace_ranges_leaves range_replaced
  one-tile b outside =
      let range = range_of (tile w h (replaced w l x y t) (x / 16) (y / 16)) in
      by-refusal _ ranges _ (λ r. get_or r b 0 ≡ get_or ranges b 0) refl λ e.
      sets-other range ranges (range_start w (x / 16) (y / 16)) b (rw (length-range (tile w h (replaced w l x y t) (x / 16) (y / 16))) outside)

  -- those eight are the tile's own range, of the picture so changed, whatever they were
  pub own_range : replace_refusal kind w h (length l) (length ranges) x y ≡ 0
      → take 8 (drop (range_start w (x / 16) (y / 16)) (replace_ranges_leaves kind w h l ranges x y t))
      ≡ range_of (tile w h (replace_leaves kind w h l ranges x y t) (x / 16) (y / 16))
  unfolding replace_ranges_leaves range_replaced replace_leaves
  own_range e =
      let r = replace-facts kind w h (length l) (length ranges) x y e in
      let at = range_start w (x / 16) (y / 16) in
      let l' = replaced w l x y t in
      let range = range_of (tile w h l' (x / 16) (y / 16)) in
      let long : length range ≡ 8 = length-range (tile w h l' (x / 16) (y / 16)) in
      let room : at + 8 ≤ length ranges = let b = r.ranged.room in omega (arith, tile-room (tile-of w h x y r.inside.along r.inside.down)) in
      let front : length (take at ranges) ≡ at = length-take-le at ranges (omega arith) in
      rw (answer-given _ (λ k. ranges) (sets ranges at range) e, answer-given _ (λ k. l) l' e, sets-eq range ranges at (omega arith), append_assoc (take at ranges) range (drop (at + length range) ranges), drop_at (take at ranges) (range ++ drop (at + length range) ranges) at front)
      (take_at range (drop (at + length range) ranges) 8 long)

-- ---- from ranges just built

-- a call that is not refused leaves the picture's ranges, and behind them what it found
built-is : (kind w h : ℕ) (l ranges : List ℕ) → Ranged kind w h (length l) (length ranges)
    → ranges_leaves kind w h l ranges ≡ ranges_of w h l ++ drop (ranges_size w h) ranges
unfolding ranges_leaves
built-is kind w h l ranges r = answer-given _ _ _ (ranges-taken kind w h (length l) (length ranges) r)

-- a replacement that is not refused
replaced-taken : (kind w h : ℕ) (l ranges : List ℕ) (x y t : ℕ) → Replacing kind w h (length l) (length (ranges_leaves kind w h l ranges)) x y
    → range_replaced w h (replaced w l x y t) (ranges_leaves kind w h l ranges) x y ≡ ranges_leaves kind w h (replaced w l x y t) ranges
unfolding range_replaced
replaced-taken kind w h l ranges x y t r =
    let p = r.inside in
    let i = x / 16 in
    let j = y / 16 in
    let l' = replaced w l x y t in
    let range = range_of (tile w h l' i j) in
    let tail = drop (ranges_size w h) ranges in
    let same : length l' ≡ length l = unfold replaced in length-set l (y * w + x) t in
    let before : Ranged kind w h (length l) (length ranges) = rw (length-built kind w h l ranges) at r.ranged in
    let after : Ranged kind w h (length l') (length ranges) = rw same before in
    let room : range_start w i j + length range ≤ length (ranges_of w h l) = rw (length-range (tile w h l' i j), length-ranges w h l) (tile-room (tile-of w h x y p.along p.down)) in
    rw (built-is kind w h l ranges before, built-is kind w h l' ranges after)
    (sets-left range (ranges_of w h l) tail (range_start w i j) room
    ∙ ap (λ (a : List ℕ). a ++ tail) (unfold range_replaced in ranges-replaced w h x y l t p.along p.down))

-- one replacement, refused or not, leaves the ranges worked out afresh
one-afresh : (kind w h : ℕ) (l ranges : List ℕ) (x y t : ℕ)
    → replace_ranges_leaves kind w h l (ranges_leaves kind w h l ranges) x y t
    ≡ ranges_leaves kind w h (replace_leaves kind w h l (ranges_leaves kind w h l ranges) x y t) ranges
unfolding replace_leaves replace_ranges_leaves
one-afresh kind w h l ranges x y t =
    let fresh = ranges_leaves kind w h l ranges in
    let n = replace_refusal kind w h (length l) (length fresh) x y in
    let l' = replaced w l x y t in
    let fresh' = range_replaced w h l' fresh x y in
    ⊎_elim
    (λ e. rw (answer-given n (λ k. fresh) fresh' e, answer-given n (λ k. l) l' e)
    (replaced-taken kind w h l ranges x y t (replace-facts kind w h (length l) (length fresh) x y e)))
    (λ e. rw (answer-refused n (λ k. fresh) fresh' e, answer-refused n (λ k. l) l' e))
    (none_or_some n)

-- from ranges just built, any list of replacements leaves exactly the ranges worked out afresh, of the picture so changed
pub series-afresh : (kind w h : ℕ) (rs : List Replacement) (l ranges : List ℕ)
    → let after = after_all kind w h rs (built kind w h (record { texels = l; ranges = ranges })) in
    after.ranges ≡ ranges_leaves kind w h after.texels ranges
unfolding after_all
series-afresh kind w h [] l ranges = refl
series-afresh kind w h (r ∷ rs) l ranges =
    let l' = replace_leaves kind w h l (ranges_leaves kind w h l ranges) r.x r.y r.texel in
    let beside : List ℕ → Beside = λ n. record { texels = l'; ranges = n } in
    subst
    (λ (n : List ℕ). (after_all kind w h rs (beside n)).ranges ≡ ranges_leaves kind w h (after_all kind w h rs (beside n)).texels ranges)
    (sym (one-afresh kind w h l ranges r.x r.y r.texel))
    (series-afresh kind w h rs l' ranges)
