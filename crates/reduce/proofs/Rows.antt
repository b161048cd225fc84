-- A row is made part after part, each part of the pairs that lie behind those of the parts before it. Where the sources are two wide and
-- more no second place is held to the row, and where they are one wide both places are the one texel. For any way to make one texel of
-- four. Assumes nothing.
use mathlib.Core.Path.{◌≡◌, sym, ap, ◌∙◌}
use mathlib.Core.List.{List, ◌++◌}
use Prim.Native.Nat.{ℕ, ◌+◌, ◌-◌, ◌*◌, ◌/◌, ◌%◌, ◌≤◌, ◌<◌, min}
use native.Mathlib.Nat.{add-zero, zero-mul, add-mul, mul-le-mul_right, mod-lt, div-eq_of_lt, mod-eq_of_lt, div-lt_iff_lt-mul}
use native.Mathlib.Omega.{arith}
use lib.ListN.{length, get_or, take, drop, set}
use lib.Seq.{get_or-drop, get_or-take, length-take-le, take_at}
use borrow.Rule.Slice.PartMut.{put_mid, mid_len, Post-is}
use Rattle.rules.specs.Sizes.{half}
use Rattle.rules.specs.Levels.{tab}
use Rattle.rules.proofs.Grid.{length-tab, tab-ext}
use Rattle.kinds.specs.Runs.{over, pair_of}
use Rattle.reduce.specs.Rows.{held_of, rows_of}
use Rattle.kinds.proofs.Runs.{Over, over_first, over-set, over-more, over-all}

-- m texels put into a part of a buffer
pub over_put : (at m : ℕ) (s : List ℕ) (f : ℕ → ℕ) → put_mid at (at + m - at) s (tab m f) ≡ over at s m f
unfolding over
over_put at m s f = rw (Post-is at (at + m) s (omega arith))

-- w texels from place r on
abbrev pub row_at : ℕ → ℕ → List ℕ → List ℕ
row_at w r l = take (r + w - r) (drop r l)

pub row-long : (w r : ℕ) (l : List ℕ) → r + w ≤ length l → length (row_at w r l) ≡ w
row-long w r l le = mid_len r (r + w) l le ∙ omega arith

pub row-read : (w r : ℕ) (l : List ℕ) (x : ℕ) → x < w → get_or (row_at w r l) x 0 ≡ get_or l (r + x) 0
row-read w r l x lt = get_or-take (r + w - r) (drop r l) x 0 (omega arith) ∙ get_or-drop r l x 0

-- a place of rows that lie behind r
pub row-behind : (n r p x : ℕ) (l : List ℕ) → p + x < n → get_or (drop p (row_at n r l)) x 0 ≡ get_or (drop (r + p) l) x 0
row-behind n r p x l lt =
    get_or-drop p (row_at n r l) x 0
    ∙ row-read n r l (p + x) lt
    ∙ ap (λ (k : ℕ). get_or l k 0) (omega arith)
    ∙ sym (get_or-drop (r + p) l x 0)

-- m texels made at the front of a part
pub front-is : (m : ℕ) (part made : List ℕ) (f : ℕ → ℕ) → m ≤ length part → made ≡ tab (length (take m part)) f → take m (made ++ drop m part) ≡ tab m f
front-is m part made f le e =
    let is : made ≡ tab m f = e ∙ rw (length-take-le m part le) in
    take_at made (drop m part) m (ap length is ∙ length-tab m f) ∙ is

module _ (reduce : ℕ → ℕ → ℕ → ℕ → ℕ) where
  -- pairs x later
  pub pair-on : (a b : List ℕ) (x k : ℕ) → pair_of reduce (drop (2 * x) a) (drop (2 * x) b) k ≡ pair_of reduce a b (x + k)
  unfolding pair_of
  pair-on a b x k =
      let first : 2 * x + 2 * k ≡ 2 * (x + k) = omega arith in
      let second : 2 * x + (2 * k + 1) ≡ 2 * (x + k) + 1 = omega arith in
      rw (
        get_or-drop (2 * x) a (2 * k) 0,
        get_or-drop (2 * x) a (2 * k + 1) 0,
        get_or-drop (2 * x) b (2 * k) 0,
        get_or-drop (2 * x) b (2 * k + 1) 0,
        first,
        second,
      )

  -- a turn of the loop over a row: m texels made in a part, and put behind those that stand
  pub part-turn : (a b old s part made put : List ℕ) (x m : ℕ) → Over 0 old x (pair_of reduce a b) s → x + m ≤ length old → m ≤ length part
      → made ≡ tab (length (take m part)) (pair_of reduce (drop (2 * x) a) (drop (2 * x) b))
      → put ≡ take m (made ++ drop m part)
      → Over 0 old (x + m) (pair_of reduce a b) (put_mid x (x + m - x) s put)
  part-turn a b old s part made put x m o room le em ep =
      let f = pair_of reduce (drop (2 * x) a) (drop (2 * x) b) in
      let whole : put ≡ tab m f = ep ∙ front-is m part made f le em in
      over-more o x m f _ (omega arith) (ap (λ (l : List ℕ). put_mid x (x + m - x) s l) whole ∙ over_put x m s f) (omega arith) (λ k lt. pair-on a b x k)

  -- rows of two and more: no place is held
  pub wide_at : (w : ℕ) (a b : List ℕ) (k : ℕ) → k < w / 2 → pair_of reduce a b k ≡ held_of reduce w a b k
  unfolding pair_of held_of
  wide_at w a b k lt = let x : min (2 * k + 1) (w - 1) ≡ 2 * k + 1 = omega arith in rw x

  pub wide_is : (w n : ℕ) (a b : List ℕ) → 2 ≤ w → n ≡ half w → tab n (pair_of reduce a b) ≡ tab n (held_of reduce w a b)
  wide_is w n a b le e = tab-ext n _ _ (λ k lt. wide_at w a b k (omega arith))

  -- a row one wide: both places of a pair are its one texel
  pub narrow-held : (w v : ℕ) (a b : List ℕ) → w ≡ 1 → v ≡ reduce (get_or a 0 0) (get_or a 0 0) (get_or b 0 0) (get_or b 0 0) → v ≡ held_of reduce w a b 0
  unfolding held_of
  narrow-held w v a b one e = let held : min (2 * 0 + 1) (w - 1) ≡ 0 = omega arith in e ∙ rw held

  pub narrow-is : (w v : ℕ) (a b o : List ℕ) → w ≡ 1 → length o ≡ 1 → v ≡ reduce (get_or a 0 0) (get_or a 0 0) (get_or b 0 0) (get_or b 0 0)
      → set o 0 v ≡ tab (length o) (held_of reduce w a b)
  narrow-is w v a b o one long e =
      over-all (over-set (over_first 0 o (held_of reduce w a b) (omega arith)) 0 v (omega arith) (omega arith) (narrow-held w v a b one e)) (omega arith)

  -- two rows by themselves, and as they lie in a level
  pub held-row : (w p q : ℕ) (l : List ℕ) (i : ℕ) → 1 ≤ w → i < half w → held_of reduce w (take w (drop p l)) (take w (drop q l)) i ≡ held_of reduce w (drop p l) (drop q l) i
  unfolding held_of
  held-row w p q l i some lt =
      let x₀ : 2 * i < w = omega arith in
      let x₁ : min (2 * i + 1) (w - 1) < w = omega arith in
      let read = λ (r x : ℕ) (few : x < w). get_or-take w (drop r l) x 0 few in
      rw (read p (2 * i) x₀, read p (min (2 * i + 1) (w - 1)) x₁, read q (2 * i) x₀, read q (min (2 * i + 1) (w - 1)) x₁)

  -- the first of rows
  pub first-row : (w r0 r1 : ℕ) (s : List ℕ) (k : ℕ) → k < half w → rows_of reduce w r0 r1 s k ≡ held_of reduce w (drop r0 s) (drop r1 s) k
  unfolding rows_of
  first-row w r0 r1 s k lt = rw (div-eq_of_lt lt, mod-eq_of_lt lt, zero-mul w, add-zero r0, add-zero r1)

  -- m rows whose sources are all of a list, and as the sources lie in a level
  pub rows-behind : (w m r : ℕ) (l : List ℕ) (k : ℕ) → 1 ≤ w → k < m * half w → rows_of reduce w 0 w (row_at (2 * m * w) r l) k ≡ rows_of reduce w r (r + w) l k
  unfolding rows_of held_of
  rows-behind w m r l k some lt =
      let pos : 0 < half w = omega arith in
      let j : k / half w < m = (div-lt_iff_lt-mul pos).1 lt in
      let i : k % half w < half w = mod-lt k pos in
      let x₀ : 2 * (k % half w) < w = omega arith in
      let x₁ : min (2 * (k % half w) + 1) (w - 1) < w = omega arith in
      let on = 2 * (k / half w) * w in
      let n = 2 * m * w in
      let high : 2 * (k / half w) + 2 ≤ 2 * m = omega arith in
      let inside : on + 2 * w ≤ n = omega (arith, mul-le-mul_right w high, add-mul (2 * (k / half w)) 2 w) in
      let first : r + (0 + on) ≡ r + on = omega arith in
      let second : r + (w + on) ≡ r + w + on = omega arith in
      rw (
        row-behind n r (0 + on) (2 * (k % half w)) l (omega arith),
        row-behind n r (0 + on) (min (2 * (k % half w) + 1) (w - 1)) l (omega arith),
        row-behind n r (w + on) (2 * (k % half w)) l (omega arith),
        row-behind n r (w + on) (min (2 * (k % half w) + 1) (w - 1)) l (omega arith),
        first,
        second,
      )
