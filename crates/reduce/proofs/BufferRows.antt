-- The laws of a row where it lies in one buffer with its sources, counted from the front, from before rows were slices: documents name them,
-- and no proof of the code imports them (it goes by slices, over `Rows`).
-- A row is one run behind its sources, written by parts. A part reads its pairs from the buffer as it is by then; the parts before
-- it lie behind the sources, so it reads what was there at first. Where the sources are two wide and more no second place is held
-- to the row, and where they are one wide both places are the one texel. For any way to make one texel of four. Assumes nothing.
use mathlib.Core.Path.{◌≡◌, refl, sym, ◌∙◌}
use mathlib.Core.List.{List, [], ◌∷◌}
use Prim.Native.Nat.{ℕ, ◌+◌, ◌-◌, ◌*◌, ◌/◌, ◌≤◌, ◌<◌}
use native.Mathlib.Nat.{add-zero}
use native.Mathlib.Omega.{arith}
use lib.Dec.{lit<, lit≤}
use lib.ListN.{length, get_or, take, drop, set}
use lib.Seq.{get_or-drop}
use borrow.Author.Rules.{part_to_end}
use Rattle.rules.specs.Sizes.{half}
use Rattle.kinds.specs.Runs.{over, pair_of}
use Rattle.reduce.specs.Rows.{held_of}
use Rattle.kinds.proofs.Runs.{Over, over-same, over-more, over-one, over-ext, over-within}
use Rattle.reduce.proofs.Rows.{wide_at}
use Rattle.reduce.proofs.Standing.{front_at}

-- lists that agree below `to`, read through two starts
pub seen : (to : ℕ) (s old : List ℕ) → ((i : ℕ) → i < to → get_or s i 0 ≡ get_or old i 0)
    → (p q i j : ℕ) → p + i ≡ q + j → p + i < to → get_or (drop p s) i 0 ≡ get_or (drop q old) j 0
seen to s old same p q i j e lt = rw (get_or-drop p s i 0, same (p + i) lt, e) (sym (get_or-drop q old j 0))

-- two rows of two, p p and q q, and room for a texel behind them
abbrev columns : ℕ → ℕ → List ℕ
columns p q = p ∷ p ∷ q ∷ q ∷ 0 ∷ []

module _ (reduce : ℕ → ℕ → ℕ → ℕ → ℕ) where
  -- pairs x later are those of the starts 2 * x later
  pub pair-shift : (to r0 r1 x k : ℕ) (s old : List ℕ) → ((i : ℕ) → i < to → get_or s i 0 ≡ get_or old i 0)
      → r0 + 2 * (x + k) + 1 < to → r1 + 2 * (x + k) + 1 < to
      → pair_of reduce (drop (r0 + 2 * x) s) (drop (r1 + 2 * x) s) k ≡ pair_of reduce (drop r0 old) (drop r1 old) (x + k)
  unfolding pair_of
  pair-shift to r0 r1 x k s old same p0 p1 =
      let g = seen to s old same in
      rw (
        g (r0 + 2 * x) r0 (2 * k) (2 * (x + k)) (omega arith) (omega arith),
        g (r0 + 2 * x) r0 (2 * k + 1) (2 * (x + k) + 1) (omega arith) (omega arith),
        g (r1 + 2 * x) r1 (2 * k) (2 * (x + k)) (omega arith) (omega arith),
        g (r1 + 2 * x) r1 (2 * k + 1) (2 * (x + k) + 1) (omega arith) (omega arith),
      )

  -- m texels made in the part o, and put behind
  pub part-is : (to r0 r1 m : ℕ) (s buf o t : List ℕ)
      → o ≡ over 0 buf m (pair_of reduce (take (length s - r0) (drop r0 s)) (take (length s - r1) (drop r1 s)))
      → t ≡ over to s m (λ k. get_or o k 0)
      → t ≡ over to s m (pair_of reduce (drop r0 s) (drop r1 s))
  part-is to r0 r1 m s buf o t eo et =
      et
      ∙ over-ext to s m (λ k. get_or o k 0) (pair_of reduce (drop r0 s) (drop r1 s))
      (λ k lt. rw (eo, part_to_end s r0, part_to_end s r1) (front_at buf m (pair_of reduce (drop r0 s) (drop r1 s)) k lt))

  -- a turn of the loop over a row: a part of m texels
  pub row-turn : (to r0 r1 n x m : ℕ) (old s t : List ℕ)
      → Over to old x (pair_of reduce (drop r0 old) (drop r1 old)) s
      → r0 + 2 * n ≤ to → r1 + 2 * n ≤ to → to + n ≤ length old → x + m ≤ n
      → t ≡ over (to + x) s m (pair_of reduce (drop (r0 + 2 * x) s) (drop (r1 + 2 * x) s))
      → Over to old (x + m) (pair_of reduce (drop r0 old) (drop r1 old)) t
  row-turn to r0 r1 n x m old s t h p0 p1 room le et =
      over-more h (to + x) m (pair_of reduce (drop (r0 + 2 * x) s) (drop (r1 + 2 * x) s)) t refl et (omega arith)
      (λ k lt. pair-shift to r0 r1 x k s old (over-same h) (omega arith) (omega arith))

  -- the texel of those two rows, written behind them
  pub two-columns : (p q m : ℕ) (t : List ℕ) → m ≡ 1 → t ≡ over 4 (columns p q) m (pair_of reduce (drop 0 (columns p q)) (drop 2 (columns p q))) → get_or t 4 0 ≡ reduce p p q q
  unfolding pair_of
  two-columns p q m t em et = rw (et, em) (over-within 4 (columns p q) 1 (pair_of reduce (drop 0 (columns p q)) (drop 2 (columns p q))) 0 (lit≤ tt) (lit< tt))

  -- a row one wide: both places of a pair are its one texel
  pub narrow-is : (to r0 r1 v : ℕ) (s : List ℕ) → to < length s → v ≡ reduce (get_or s r0 0) (get_or s r0 0) (get_or s r1 0) (get_or s r1 0)
      → set s to v ≡ over to s 1 (held_of reduce 1 (drop r0 s) (drop r1 s))
  unfolding held_of
  narrow-is to r0 r1 v s lt e =
      over-one to s (held_of reduce 1 (drop r0 s) (drop r1 s)) v lt (e ∙ rw (get_or-drop r0 s 0 0, get_or-drop r1 s 0 0, add-zero r0, add-zero r1))

  -- rows of two and more: no place is held
  pub wide_is : (to w r0 r1 : ℕ) (s t : List ℕ) → 2 ≤ w
      → t ≡ over to s (w / 2) (pair_of reduce (drop r0 s) (drop r1 s)) → t ≡ over to s (half w) (held_of reduce w (drop r0 s) (drop r1 s))
  wide_is to w r0 r1 s t le e =
      let z : half w ≡ w / 2 = omega arith in
      rw z (e ∙ over-ext to s (w / 2) (pair_of reduce (drop r0 s) (drop r1 s)) (held_of reduce w (drop r0 s) (drop r1 s)) (wide_at reduce w (drop r0 s) (drop r1 s)))

  -- rows of one: its texel is held
  pub one-is : (to w r0 r1 : ℕ) (s t : List ℕ) → 1 ≤ w → w < 2
      → t ≡ over to s 1 (held_of reduce 1 (drop r0 s) (drop r1 s)) → t ≡ over to s (half w) (held_of reduce w (drop r0 s) (drop r1 s))
  one-is to w r0 r1 s t le lt e =
      let z : w ≡ 1 = omega arith in
      rw z e
