-- The next level is made row by row: row y of all rows, face after face, has the number y % h2 in the face y / h2, and its texels are those
-- of the level's definition, i / w2 being y and i % w2 being x. Assumes nothing.
use mathlib.Core.Path.{◌≡◌, refl, ap, ◌∙◌}
use mathlib.Core.List.{List}
use Prim.Native.Nat.{ℕ, ◌+◌, ◌-◌, ◌*◌, ◌/◌, ◌%◌, ◌≤◌, ◌<◌, min}
use native.Mathlib.Nat.{mod-lt, div-lt_iff_lt-mul, mul-le-mul, mul-le-mul_right, suc-mul}
use native.Mathlib.Numerals.{add-one}
use native.Mathlib.Omega.{arith}
use lib.ListN.{length, take, drop}
use lib.Seq.{get_or-drop}
use lib.Arith.{digits_lt, digits_div, digits_mod}
use borrow.Rule.Slice.PartMut.{put_mid}
use Rattle.rules.specs.Sizes.{half}
use Rattle.rules.specs.Levels.{tab, grid, texel, quad, next}
use Rattle.reduce.specs.Rows.{held_of}
use Rattle.reduce.specs.Levels.{Sides, first_row, second_row}
use Rattle.kinds.proofs.Runs.{Over, over-more, over-all}
use Rattle.reduce.proofs.Bounds.{texels, half-most}
use Rattle.reduce.proofs.Rows.{over_put, held-row}

-- texel i of the level after l, counted through rows and faces
unfoldable pub cell_of : (ℕ → ℕ → ℕ → ℕ → ℕ) → ℕ → ℕ → ℕ → ℕ → List ℕ → ℕ → ℕ
cell_of reduce w h w2 h2 l i = quad reduce w h l (i / w2 / h2) (i % w2) (i / w2 % h2)

-- all of them are the next level
pub cells-next : (reduce : ℕ → ℕ → ℕ → ℕ → ℕ) (faces w h : ℕ) (l : List ℕ)
    → tab (faces * half h * half w) (cell_of reduce w h (half w) (half h) l) ≡ next reduce faces w h l
unfolding cell_of next grid
cells-next reduce faces w h l = refl

-- a row below the last has its texels in the level
pub row_in : {r n : ℕ} (w : ℕ) → r < n → r * w + w ≤ n * w
row_in {r} w lt = omega (arith, mul-le-mul_right w lt, suc-mul r w)

-- a level, and the size of the next
pub record Level (faces w h w2 h2 : ℕ) (level : List ℕ) : Type 0 where
  pub sides : Sides faces w h
  pub half-w : w2 ≡ half w
  pub half-h : h2 ≡ half h
  pub long : length level ≡ faces * h * w

-- where a row's sources are and where it goes
pub record Places (w h w2 h2 y texels after : ℕ) : Type 0 where
  pub texels0 : first_row w h h2 y + w ≤ texels
  pub texels1 : second_row w h h2 y + w ≤ texels
  pub goes : y * w2 + w2 ≤ after
  pub few : y < 24576
  pub most : texels ≤ 100663296

module _ {faces w h w2 h2 : ℕ} {l : List ℕ} (t : Level faces w h w2 h2 l) where
  pub places : (y : ℕ) → y < faces * h2 → Places w h w2 h2 y (length l) (faces * h2 * w2)
  places y lt =
      let ph : 0 < h2 = omega (arith, t.half-h) in
      let f : y / h2 < faces = (div-lt_iff_lt-mul ph).1 lt in
      let j : y % h2 < h2 = mod-lt y ph in
      let a : 2 * (y % h2) < h = omega (arith, t.half-h, t.sides) in
      let b : min (2 * (y % h2) + 1) (h - 1) < h = omega (arith, t.sides) in
      record {
        texels0 = rw t.long (row_in w (digits_lt f a));
        texels1 = rw t.long (row_in w (digits_lt f b));
        goes = row_in w2 lt;
        few = omega (arith, mul-le-mul t.sides.most-f (half-most t.sides), ap (λ (k : ℕ). faces * k) t.half-h);
        most = rw t.long (texels t.sides);
      }

  -- a texel of the row that is made of them is one of the next level
  pub held-cell : (reduce : ℕ → ℕ → ℕ → ℕ → ℕ) (y : ℕ) → y < faces * h2 → (k : ℕ) → k < half w
      → held_of reduce w (drop (first_row w h h2 y) l) (drop (second_row w h h2 y) l) k ≡ cell_of reduce w h w2 h2 l (y * w2 + k)
  unfolding held_of cell_of quad texel
  held-cell reduce y lt k few =
      let kw : k < w2 = omega (arith, t.half-w) in
      let r₀ = y / h2 * h + 2 * (y % h2) in
      let r₁ = y / h2 * h + min (2 * (y % h2) + 1) (h - 1) in
      rw (
        digits_div y kw,
        digits_mod y kw,
        get_or-drop (r₀ * w) l (2 * k) 0,
        get_or-drop (r₀ * w) l (min (2 * k + 1) (w - 1)) 0,
        get_or-drop (r₁ * w) l (2 * k) 0,
        get_or-drop (r₁ * w) l (min (2 * k + 1) (w - 1)) 0,
      )

  -- y rows stand, and one more is put behind them
  pub rows_more : (reduce : ℕ → ℕ → ℕ → ℕ → ℕ) {old s u : List ℕ} {y : ℕ} → y < faces * h2 → length old ≡ faces * half h * half w → Over 0 old (y * w2) (cell_of reduce w h w2 h2 l) s
      → {a b : ℕ} → (a ≡ first_row w h h2 y) × (b ≡ second_row w h h2 y)
      → u ≡ tab w2 (held_of reduce w (take w (drop a l)) (take w (drop b l)))
      → Over 0 old ((y + 1) * w2) (cell_of reduce w h w2 h2 l) (put_mid (y * w2) (y * w2 + w2 - y * w2) s u)
  rows_more reduce {old} {s} {u} {y} lt long o {a} {b} e eu =
      let f = held_of reduce w (take w (drop a l)) (take w (drop b l)) in
      let more : (y + 1) * w2 ≡ y * w2 + w2 = rw (add-one y, suc-mul y w2) refl in
      let all : length old ≡ faces * h2 * w2 = rw (t.half-w, t.half-h) long in
      rw more
      (over-more o (y * w2) w2 f _ (omega arith) (ap (λ (l : List ℕ). put_mid (y * w2) (y * w2 + w2 - y * w2) s l) eu ∙ over_put (y * w2) w2 s f) (omega (arith, row_in w2 lt, all))
      (λ k few.
      let in-row : k < half w = omega (arith, t.half-w) in
      held-row reduce w a b l k t.sides.some-w in-row ∙ rw (e.0, e.1) (held-cell reduce y lt k in-row)))

  -- all rows stand
  pub rows_end : (reduce : ℕ → ℕ → ℕ → ℕ → ℕ) {old s : List ℕ} {y : ℕ} → y ≡ faces * h2 → length old ≡ faces * half h * half w → Over 0 old (y * w2) (cell_of reduce w h w2 h2 l) s → s ≡ next reduce faces w h l
  rows_end reduce {old} {s} {y} e long o =
      let all : length old ≡ faces * h2 * w2 = rw (t.half-w, t.half-h) long in
      over-all o (rw (e, all) refl) ∙ rw (long, t.half-w, t.half-h) (cells-next reduce faces w h l)
