-- How far the next level stands: rows after rows. Rows that are right as a whole make it longer by so many; the first that are not say where
-- the level is right no more. Assumes nothing.
use mathlib.Core.Path.{◌≡◌, refl, sym, ap, ◌∙◌}
use mathlib.Core.List.{List, ◌++◌}
use Rattle.std.specs.Prelude.{Option, Some, None}
use Prim.Native.Nat.{ℕ, ◌+◌, ◌-◌, ◌*◌, ◌/◌, ◌%◌, ◌≤◌, ◌<◌, min}
use native.Mathlib.Nat.{add_assoc, zero-add, zero-mul, one-mul, add-mul, mul-le-mul, mul-le-mul_right, mod-lt, div-eq_of_lt, mod-eq_of_lt, div-add-mod', div-lt_iff_lt-mul}
use native.Mathlib.Omega.{arith}
use lib.ListN.{length, get_or, take, drop}
use lib.Seq.{take_at}
use Rattle.rules.specs.Sizes.{half}
use Rattle.rules.specs.Levels.{next}
use Rattle.rules.proofs.Grid.{get_or-tab}
use Rattle.kinds.proofs.Runs.{Over}
use Rattle.reduce.specs.Rows.{rows_of}
use Rattle.reduce.specs.Levels.{first_row, second_row, Run}
use Rattle.reduce.specs.Right.{Right, FirstWrong}
use Rattle.reduce.proofs.Bounds.{half-most}
use Rattle.reduce.proofs.Levels.{cell_of, cells-next, Level, places, held-cell}
use Rattle.reduce.proofs.Rows.{row_at}
use Rattle.reduce.proofs.Runs.{run-even}
use Rattle.reduce.proofs.Standing.{right-ext, right-part, wrong-by, turn-more, turn-stop}

-- the texels of the next level, as the definition has them
pub cell-next : (reduce : ℕ → ℕ → ℕ → ℕ → ℕ) (faces w h : ℕ) (l : List ℕ) (k : ℕ) → k < faces * half h * half w
    → get_or (next reduce faces w h l) k 0 ≡ cell_of reduce w h (half w) (half h) l k
cell-next reduce faces w h l k lt =
    ap (λ (l : List ℕ). get_or l k 0) (sym (cells-next reduce faces w h l)) ∙ get_or-tab (faces * half h * half w) (cell_of reduce w h (half w) (half h) l) k lt

pub as-next : {faces w h w2 h2 r : ℕ} {l : List ℕ} (t : Level faces w h w2 h2 l) (reduce : ℕ → ℕ → ℕ → ℕ → ℕ) (n : ℕ) (c : List ℕ) → n ≡ faces * half h * half w
    → Right 0 c n (cell_of reduce w h w2 h2 l) r → Right 0 c n (λ k. get_or (next reduce faces w h l) k 0) r
as-next {faces} {w} {h} {l = l} t reduce n c e u =
    right-ext (λ k. get_or (next reduce faces w h l) k 0) (λ k lt. sym (cell-next reduce faces w h l k (omega (arith, lt, e)))) (rw (t.half-w, t.half-h) at u)

-- the m rows from row y on, which lie in a run
module _ {faces w h w2 h2 : ℕ} {l : List ℕ} (t : Level faces w h w2 h2 l) (y m : ℕ) (run : Run w h h2 (faces * h2) y m) where
  -- where they stand, and how large the numbers get
  pub room_for : y * w2 + m * w2 ≤ faces * h2 * w2
  room_for = omega (arith, mul-le-mul_right w2 run.inside, add-mul y m w2)

  pub numbers : (y + m ≤ 24576) × (y * w2 + m * w2 ≤ 100663296)
  numbers =
      let all : faces * h2 ≤ 24576 = rw t.half-h (mul-le-mul t.sides.most-f (half-most t.sides)) in
      let few : y + m ≤ 24576 = omega (arith, run.inside) in
      let wide : w2 ≤ 4096 = omega (arith, t.half-w, t.sides) in
      (few, rw (← add-mul y m w2) (mul-le-mul few wide))

  module _ {a b : ℕ} (e : (a ≡ first_row w h h2 y) × (b ≡ second_row w h h2 y)) where
    -- where a face is two rows high and more, their sources lie one behind the other in the level
    pub sources : 2 ≤ h → (b ≡ a + w) × (a + 2 * m * w ≤ length l)
    sources high =
        let i = y % h2 in
        let pos : 0 < h2 = omega (arith, t.half-h) in
        let second : min (2 * i + 1) (h - 1) ≡ 2 * i + 1 = omega (arith, high, t.half-h, mod-lt y pos) in
        let behind : b ≡ a + w = rw (e.0, e.1, second, ← add_assoc (y / h2 * h) (2 * i) 1, add-mul (y / h2 * h + 2 * i) 1 w, one-mul w) in
        let some = run.some in
        let last : y + (m - 1) < faces * h2 = omega (arith, run.inside) in
        let rows : 2 * m ≡ 2 * (m - 1) + 2 = omega arith in
        let rest : 2 * m * w ≡ 2 * (m - 1) * w + 2 * w = rw rows (add-mul (2 * (m - 1)) 2 w) in
        (behind, omega (arith, (places t (y + (m - 1)) last).texels1, run.seconds (m - 1) (omega arith), e.1, behind, rest))

    -- their texels are those of the level
    pub rows-cell : (reduce : ℕ → ℕ → ℕ → ℕ → ℕ) (k : ℕ) → k < m * w2 → rows_of reduce w a b l k ≡ cell_of reduce w h w2 h2 l (y * w2 + k)
    unfolding rows_of
    rows-cell reduce k lk =
        let wide = t.half-w in
        let pos : 0 < half w = omega arith in
        let few : k < m * half w = rw wide at lk in
        let j : k / half w < m = (div-lt_iff_lt-mul pos).1 few in
        let i : k % half w < half w = mod-lt k pos in
        let row : y + k / half w < faces * h2 = omega (arith, run.inside) in
        let place : (y + k / half w) * w2 + k % half w ≡ y * w2 + k = rw (wide, add-mul y (k / half w) (half w)) (omega (arith, div-add-mod' k (half w))) in
        rw (e.0, e.1, ← run.firsts (k / half w) j, ← run.seconds (k / half w) j)
        (held-cell t reduce (y + k / half w) row (k % half w) i ∙ ap (cell_of reduce w h w2 h2 l) place)

    -- and what was found of them, behind y rows that stand
    module _ (reduce : ℕ → ℕ → ℕ → ℕ → ℕ) {c : List ℕ} (long : length c ≡ faces * h2 * w2) (o : Over 0 c (y * w2) (cell_of reduce w h w2 h2 l) c) where
      part : {r : Option ℕ} → FirstWrong 0 (row_at (m * w2) (y * w2) c) (m * w2) (rows_of reduce w a b l) r → FirstWrong (y * w2) c (m * w2) (rows_of reduce w a b l) r
      part t = wrong-by (λ r u. right-part (y * w2) c (omega (arith, room_for, long)) u) t

      pub rows-go : FirstWrong 0 (row_at (m * w2) (y * w2) c) (m * w2) (rows_of reduce w a b l) None → Over 0 c ((y + m) * w2) (cell_of reduce w h w2 h2 l) c
      rows-go t = rw (add-mul y m w2) (turn-more {n = length c} o (omega arith) (omega (arith, room_for, long)) (rows-cell reduce) (part t))

      pub rows-stop : {r : ℕ} → FirstWrong 0 (row_at (m * w2) (y * w2) c) (m * w2) (rows_of reduce w a b l) (Some r) → FirstWrong 0 c (length c) (cell_of reduce w h w2 h2 l) (Some (y * w2 + r))
      rows-stop t = turn-stop {n = length c} o (omega arith) (omega (arith, room_for, long)) (rows-cell reduce) (part t)

-- a level that was made at the front of a part, and compared
pub made-next : {r : ℕ} {c : List ℕ} (n : ℕ) (after part list : List ℕ) → after ≡ list → length list ≡ n
    → Right 0 c n (λ k. get_or (take n (after ++ drop n part)) k 0) r → Right 0 c n (λ k. get_or list k 0) r
made-next n after part list e long t =
    right-ext (λ k. get_or list k 0) (λ k lt. ap (λ (l : List ℕ). get_or l k 0) (take_at after (drop n part) n (ap length e ∙ long) ∙ e)) t

-- a block: 2m rows are a level of their own, and the level after it is those made of them
pub block-right : {r : ℕ} {c : List ℕ} (reduce : ℕ → ℕ → ℕ → ℕ → ℕ) (w m n : ℕ) (l : List ℕ) → 1 ≤ w → w ≤ 4096 → 1 ≤ m → m ≤ 2048 → length l ≡ 2 * m * w → n ≡ m * half w
    → Right 0 c n (λ k. get_or (next reduce 1 w (2 * m) l) k 0) r → Right 0 c n (rows_of reduce w 0 w l) r
block-right reduce w m n l some most high few long en t = right-ext (rows_of reduce w 0 w l) same t
  where
    rows : half (2 * m) ≡ m
    rows = omega arith

    one : 1 * half (2 * m) ≡ m
    one = one-mul (half (2 * m)) ∙ rows

    level : Level 1 w (2 * m) (half w) (half (2 * m)) l
    level =
        record {
          sides = record { some-f = omega arith; most-f = omega arith; some-w = some; most-w = most; some-h = omega arith; most-h = omega arith };
          half-w = refl;
          half-h = refl;
          long = long ∙ ap (λ (k : ℕ). k * w) (sym (one-mul (2 * m)));
        }

    run : Run w (2 * m) (half (2 * m)) (1 * half (2 * m)) 0 m
    run = run-even w (2 * m) (half (2 * m)) 1 0 m refl (omega arith) high (omega arith) (omega (arith, one))

    starts : (0 ≡ first_row w (2 * m) (half (2 * m)) 0) × (w ≡ second_row w (2 * m) (half (2 * m)) 0)
    starts =
        let pos : 0 < half (2 * m) = omega arith in
        let top : 0 * (2 * m) + 2 * 0 ≡ 0 = omega arith in
        let next : 0 * (2 * m) + min (2 * 0 + 1) (2 * m - 1) ≡ 1 = omega arith in
        (rw (div-eq_of_lt pos, mod-eq_of_lt pos, top) (sym (zero-mul w)), rw (div-eq_of_lt pos, mod-eq_of_lt pos, next) (sym (one-mul w)))

    same : (k : ℕ) → k < n → get_or (next reduce 1 w (2 * m) l) k 0 ≡ rows_of reduce w 0 w l k
    same k lt =
        cell-next reduce 1 w (2 * m) l k (rw (one, ← en) lt)
        ∙ sym (rows-cell level 0 m run starts reduce k (rw en at lt) ∙ ap (cell_of reduce w (2 * m) (half w) (half (2 * m)) l) (ap (λ (i : ℕ). i + k) (zero-mul (half w)) ∙ zero-add k))
