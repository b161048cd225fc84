-- The cut's test goes side by side, and its rows one after the other make the cut. Assumes nothing.
use mathlib.Core.Path.{◌≡◌, ap, ◌∙◌}
use mathlib.Core.Bool.{true, not}
use mathlib.Core.List.{List, ◌++◌}
use Prim.Native.Nat.{ℕ, ◌+◌, ◌-◌, ◌*◌, ◌/◌, ◌%◌, ◌^◌, ◌≤◌, ◌<◌}
use native.Mathlib.Nat.{one-mul, zero-mul, zero-add, suc-mul, add_assoc, mul-le-mul, mul-le-mul_right, le_trans, div-lt_iff_lt-mul, div-eq_of_lt, mod-eq_of_lt}
use native.Mathlib.Omega.{arith}
use borrow.Author.Tests.{leb-true, eqb-true, eqb-false, not-true, le-leb, ne_eqb, eq-eqb}
use borrow.Author.Rules.{part_to_end}
use lib.Arith.{digits_div, digits_mod}
use lib.Dec.{eqb, leb, lit<}
use lib.ListN.{length, get_or, take, drop, length-drop}
use lib.Pow.{shl_exact}
use lib.Seq.{get_or-drop}
use Rattle.rules.specs.declared.Pair.{Pair}
use Rattle.rules.specs.Kinds.{faces_of}
use Rattle.rules.specs.Levels.{grid, texel}
use Rattle.rules.specs.Cuts.{cut, aligned}
use Rattle.rules.proofs.Bounds.{faces-flat}
use Rattle.rules.proofs.Grid.{tab-ext}
use Rattle.rules.proofs.Refusing.{and_both}
use Rattle.rules.proofs.RefusingCuts.{Cutting, CutCall}
use Rattle.kinds.specs.Runs.{over}
use Rattle.levels.specs.Cuts.{along, cut_cell}
use Rattle.levels.proofs.Rows.{Rows, rows-first, rows-room, rows_more, rows_end, over-front}

-- 1 shifted left by k, in 32 bits
pub one_shl : (k : ℕ) → k ≤ 12 → (1 * 2 ^ k) % 2 ^ 32 ≡ 2 ^ k
one_shl k le = shl_exact 1 k 32 (lit< tt) (omega arith) ∙ one-mul (2 ^ k)

-- what is known along one side
record Along (k s c p : ℕ) : Type 0 where
  pub some : 0 < p
  pub inside : c + p ≤ s
  pub corner : c % 2 ^ k ≡ 0
  pub side : p % 2 ^ k ≡ 0

along-facts : (k s c p : ℕ) → along k s c p ≡ true → Along k s c p
unfolding along
along-facts k s c p e =
    let a = and_both (not (eqb p 0)) _ e in
    let b = and_both (leb (c + p) s) _ a.1 in
    let d = and_both (aligned k c) _ b.1 in
    let other : p ≡ 0 → ⊥ = eqb-false p 0 (not-true _ a.0) in
    record {
      some = omega (arith, other);
      inside = leb-true (c + p) s b.0;
      corner = eqb-true (c % 2 ^ k) 0 d.0;
      side = eqb-true (p % 2 ^ k) 0 d.1;
    }

along-taken : {k s c p : ℕ} → Along k s c p → along k s c p ≡ true
unfolding along
along-taken {k} {s} {c} {p} a =
    rw (ne_eqb p 0 (λ z. omega arith), le-leb (c + p) s a.inside, eq-eqb (c % 2 ^ k) 0 a.corner, eq-eqb (p % 2 ^ k) 0 a.side)

module _ (k w h cx cy cw ch : ℕ) where
  -- both sides are taken exactly where the cut is
  pub sides-cutting : k ≤ 12 → along k w cx cw ≡ true → along k h cy ch ≡ true → Cutting k w h cx cy cw ch
  sides-cutting order ex ey =
      let x = along-facts k w cx cw ex in
      let y = along-facts k h cy ch ey in
      record {
        order = order;
        at = record {
          corner-x = x.corner;
          corner-y = y.corner;
          side-w = x.side;
          side-h = y.side;
          some-w = x.some;
          some-h = y.some;
          inside-w = x.inside;
          inside-h = y.inside;
        };
      }

  pub cutting-x : Cutting k w h cx cy cw ch → along k w cx cw ≡ true
  cutting-x c = along-taken (record { some = c.at.some-w; inside = c.at.inside-w; corner = c.at.corner-x; side = c.at.side-w })

  pub cutting-y : Cutting k w h cx cy cw ch → along k h cy ch ≡ true
  cutting-y c = along-taken (record { some = c.at.some-h; inside = c.at.inside-h; corner = c.at.corner-y; side = c.at.side-h })

-- ---- the rows

-- y rows of the cut are written: of a picture w wide, with the corner at (cx, cy)
pub record CutRows (w cx cy cw ch : ℕ) (source old s : List ℕ) (y : ℕ) : Type 0 where
  pub inside : cx + cw ≤ w
  pub read : (cy + ch) * w ≤ length source
  pub rows : Rows cw ch (cut_cell w cx cy cw source) old s y

pub cut-first : (w cx cy cw ch : ℕ) (source old : List ℕ) → cx + cw ≤ w → (cy + ch) * w ≤ length source → ch * cw ≤ length old
    → CutRows w cx cy cw ch source old old 0
cut-first w cx cy cw ch source old inside read room = record { inside = inside; read = read; rows = rows-first cw ch _ old room }

module _ {w cx cy cw ch : ℕ} {source old s : List ℕ} {y : ℕ} (t : CutRows w cx cy cw ch source old s y) where
  -- where the next row is read, and where it goes
  pub cut_reads : y < ch → (cy + y) * w + cx + cw ≤ length source
  cut_reads lt =
      let below : cy + y < cy + ch = omega arith in
      omega (arith, mul-le-mul_right w below, suc-mul (cy + y) w, t.read, t.inside)

  pub cut-row : y < ch → cw ≤ length (take (length source - ((cy + y) * w + cx)) (drop ((cy + y) * w + cx) source))
  cut-row lt = rw (part_to_end source ((cy + y) * w + cx), length-drop) (omega (arith, cut_reads lt))

  pub cut-room : y < ch → y * cw + cw ≤ length old
  cut-room lt = rows-room t.rows lt

  pub cut-more : y < ch → (u : List ℕ)
      → u ≡ over (y * cw) s cw (λ x. get_or (take (length source - ((cy + y) * w + cx)) (drop ((cy + y) * w + cx) source)) x 0)
      → CutRows w cx cy cw ch source old u (y + 1)
  unfolding cut_cell
  cut-more lt u eu =
      let from = (cy + y) * w + cx in
      record {
        inside = t.inside;
        read = t.read;
        rows = rows_more t.rows lt _ u eu
            (λ x l. rw (part_to_end source from, get_or-drop from source x 0, digits_div y l, digits_mod y l, add_assoc ((cy + y) * w) cx x));
      }

  pub cut-end : ch ≤ y → s ≡ over 0 old (ch * cw) (cut_cell w cx cy cw source)
  cut-end le = rows_end t.rows le

-- the run is the cut: of one face, whose row y is row y of the cut
pub cut-is : (w h cx cy cw ch : ℕ) (source old : List ℕ) → 0 < cw → 0 < ch
    → over 0 old (ch * cw) (cut_cell w cx cy cw source) ≡ cut w h cx cy cw ch source ++ drop (ch * cw) old
unfolding cut_cell cut grid texel
cut-is w h cx cy cw ch source old pw ph =
    over-front old (ch * cw) _ ∙ rw (one-mul ch)
    (ap (λ (l : List ℕ). l ++ drop (ch * cw) old)
    (tab-ext (ch * cw) _ _ λ i lt.
    let row : i / cw < ch = (div-lt_iff_lt-mul pw).1 lt in
    rw (div-eq_of_lt row, mod-eq_of_lt row, zero-mul h, zero-add (cy + i / cw))))

-- ---- a cut that is taken

module _ {kind w h source k : ℕ} {corner sides : Pair} {target : ℕ} (c : CutCall kind w h source k corner sides target) where
  -- the rows that are read lie in the source
  pub cut-within : (corner.y + sides.y) * w ≤ source
  cut-within =
      let one : faces_of kind ≡ 1 = faces-flat kind c.flat in
      le_trans (mul-le-mul_right w c.cutting.at.inside-h) (rw (one, one-mul h) at c.level0)

  -- and the cut is small
  pub cut-few : sides.y * sides.x ≤ 16777216
  cut-few = mul-le-mul {n₂ = 4096} {m₂ = 4096} (omega (arith, c.cutting.at, c.taken)) (omega (arith, c.cutting.at, c.taken))
