-- The laws of a level and the next where both lie in one buffer, from before rows were slices: documents name them, and no proof of the code
-- imports them (it goes by slices, over `Levels`).
-- The next level is one run behind a level, written row by row: row y of all rows, face after face, has the number y % h2 in the face
-- y / h2, and its texels are those of the level's definition, i / w2 being y and i % w2 being x. Assumes nothing.
use mathlib.Core.Path.{◌≡◌, refl, sym, ap, ◌∙◌}
use mathlib.Core.List.{List}
use Prim.Native.Nat.{ℕ, ◌+◌, ◌-◌, ◌*◌, ◌/◌, ◌%◌, ◌≤◌, ◌<◌, min}
use native.Mathlib.Nat.{mod-lt, div-lt_iff_lt-mul, mul-le-mul, suc-mul, zero-mul}
use native.Mathlib.Numerals.{add-one}
use native.Mathlib.Omega.{arith}
use lib.ListN.{length, get_or, take, drop}
use lib.Seq.{get_or-drop, get_or-take, length-take-le}
use lib.Arith.{digits_lt}
use Rattle.rules.specs.Sizes.{half}
use Rattle.rules.specs.Levels.{grid, next}
use Rattle.kinds.specs.Runs.{over}
use Rattle.reduce.specs.Rows.{held_of}
use Rattle.reduce.specs.Levels.{Sides, first_row, second_row, written}
use Rattle.kinds.proofs.Runs.{Over, over_first, over-same, over-more, over-end}
use Rattle.reduce.proofs.Bounds.{texels, half-most}
use Rattle.reduce.proofs.Levels.{cell_of, row_in, Level}
use Rattle.reduce.proofs.Levels as list

-- the run of all of them is the next level
pub over-written : (reduce : ℕ → ℕ → ℕ → ℕ → ℕ) (faces w h : ℕ) (old : List ℕ)
    → over (faces * h * w) old (faces * half h * half w) (cell_of reduce w h (half w) (half h) (take (faces * h * w) old)) ≡ written reduce faces w h old
unfolding over cell_of next grid written
over-written reduce faces w h old = refl

-- y rows are written: of the level's w by h faces, n texels in all
pub record Rows (reduce : ℕ → ℕ → ℕ → ℕ → ℕ) (faces w h w2 h2 n : ℕ) (old s : List ℕ) (y : ℕ) : Type 0 where
  pub sides : Sides faces w h
  pub half-w : w2 ≡ half w
  pub half-h : h2 ≡ half h
  pub here : n ≡ faces * h * w
  pub below : y ≤ faces * h2
  pub room : n + faces * h2 * w2 ≤ length old
  pub run : Over n old (y * w2) (cell_of reduce w h w2 h2 (take n old)) s

-- where a row's sources are and where it goes
pub record Places (w h w2 h2 n y : ℕ) (old : List ℕ) : Type 0 where
  pub texels0 : first_row w h h2 y + w ≤ n
  pub texels1 : second_row w h h2 y + w ≤ n
  pub goes : n + (y * w2 + w2) ≤ length old
  pub few : y < 24576
  pub most : n ≤ 100663296

pub rows-first : (reduce : ℕ → ℕ → ℕ → ℕ → ℕ) (faces w h w2 h2 n : ℕ) (old : List ℕ) → Sides faces w h → w2 ≡ half w → h2 ≡ half h → n ≡ faces * h * w
    → faces * h * w + faces * half h * half w ≤ length old → Rows reduce faces w h w2 h2 n old old 0
rows-first reduce faces w h w2 h2 n old s ew eh en room =
    record {
      sides = s;
      half-w = ew;
      half-h = eh;
      here = en;
      below = omega arith;
      room = rw (en, ew, eh) room;
      run = rw (zero-mul w2) (over_first n old (cell_of reduce w h w2 h2 (take n old)) (omega arith));
    }

module _ {reduce : ℕ → ℕ → ℕ → ℕ → ℕ} {faces w h w2 h2 n : ℕ} {old s : List ℕ} {y : ℕ} (t : Rows reduce faces w h w2 h2 n old s y) where
  pub rows-places : {i : ℕ} → i < faces * h2 → Places w h w2 h2 n i old
  rows-places {i} lt =
      let ph : 0 < h2 = omega arith in
      let f : i / h2 < faces = (div-lt_iff_lt-mul ph).1 lt in
      let j : i % h2 < h2 = mod-lt i ph in
      let a : 2 * (i % h2) < h = omega arith in
      let b : min (2 * (i % h2) + 1) (h - 1) < h = omega arith in
      record {
        texels0 = rw t.here (row_in w (digits_lt f a));
        texels1 = rw t.here (row_in w (digits_lt f b));
        goes = omega (arith, row_in w2 lt);
        few = omega (arith, mul-le-mul t.sides.most-f (half-most t.sides), ap (λ (k : ℕ). faces * k) t.half-h);
        most = rw t.here (texels t.sides);
      }

  level : Level faces w h w2 h2 (take n old)
  level = record { sides = t.sides; half-w = t.half-w; half-h = t.half-h; long = length-take-le n old (omega (arith, t.room)) ∙ t.here }

  -- a texel of the rows that are read is a texel of the level
  read : (r x : ℕ) → r * w + w ≤ n → x < w → get_or (drop (r * w) s) x 0 ≡ get_or (drop (r * w) (take n old)) x 0
  read r x le lt =
      rw (get_or-drop (r * w) s x 0, over-same t.run (r * w + x) (omega arith), get_or-drop (r * w) (take n old) x 0)
      (sym (get_or-take n old (r * w + x) 0 (omega arith)))

  -- a texel of the row that is made of them is one of the next level
  pub held-cell : {i : ℕ} → i < faces * h2 → (k : ℕ) → k < half w
      → held_of reduce w (drop (first_row w h h2 i) s) (drop (second_row w h h2 i) s) k ≡ cell_of reduce w h w2 h2 (take n old) (i * w2 + k)
  unfolding held_of
  held-cell {i} lt k l =
      let p = rows-places lt in
      let x₀ : 2 * k < w = omega (arith, t.sides) in
      let x₁ : min (2 * k + 1) (w - 1) < w = omega (arith, t.sides) in
      let r₀ = i / h2 * h + 2 * (i % h2) in
      let r₁ = i / h2 * h + min (2 * (i % h2) + 1) (h - 1) in
      rw (
        read r₀ (2 * k) p.texels0 x₀,
        read r₀ (min (2 * k + 1) (w - 1)) p.texels0 x₁,
        read r₁ (2 * k) p.texels1 x₀,
        read r₁ (min (2 * k + 1) (w - 1)) p.texels1 x₁,
      )
      (list.held-cell level reduce i lt k l)

  pub rows_more : y < faces * h2 → {a b : ℕ} (u : List ℕ) → (a ≡ first_row w h h2 y) × (b ≡ second_row w h h2 y)
      → u ≡ over (n + y * w2) s (half w) (held_of reduce w (drop a s) (drop b s)) → Rows reduce faces w h w2 h2 n old u (y + 1)
  rows_more lt u e eu =
      let p = rows-places lt in
      let more : (y + 1) * w2 ≡ y * w2 + half w = rw (add-one y, suc-mul y w2) (omega (arith, t.half-w)) in
      record {
        sides = t.sides;
        half-w = t.half-w;
        half-h = t.half-h;
        here = t.here;
        below = omega arith;
        room = t.room;
        run = rw more (over-more t.run (n + y * w2) (half w) _ u refl (rw (e.0, e.1) at eu) (omega (arith, p.goes, t.half-w)) (held-cell lt));
      }

  -- all rows are written
  pub rows_end : faces * h2 ≤ y → s ≡ written reduce faces w h old
  rows_end le =
      let e : y ≡ faces * h2 = omega arith in
      over-end t.run (faces * h2 * w2) (ap (λ (k : ℕ). k * w2) e) ∙ rw (t.here, t.half-w, t.half-h) (over-written reduce faces w h old)
