-- The rows of the six faces of a cross: where each is read and where it goes, and that together they are the cross's faces. The
-- faces are one picture of 6 * h rows, so row y is row y % h of face y / h. Assumes nothing.
use mathlib.Core.Path.{◌≡◌, ap, ◌∙◌}
use mathlib.Core.Bool.{Bool, true, false, cond}
use mathlib.Core.List.{List, ◌++◌}
use Prim.Native.Nat.{ℕ, ◌+◌, ◌-◌, ◌*◌, ◌/◌, ◌%◌, ◌≤◌, ◌<◌}
use native.Mathlib.Nat.{mul-le-mul, mul-le-mul_right, suc-mul, mod-lt}
use native.Mathlib.Omega.{arith}
use lib.Arith.{digits_lt, digits_div, digits_mod}
use lib.Dec.{eqb}
use lib.ListN.{length, get_or, take, drop, length-drop}
use lib.Seq.{get_or-drop}
use borrow.Author.Rules.{part_to_end}
use borrow.Rule.Slice.PartMut.{put_mid}
use Rattle.rules.specs.Levels.{tab, grid}
use Rattle.rules.specs.Kinds.{rgba}
use Rattle.rules.specs.Cross.{cross_width, cross_height, column_of, row_of, byte_texel, cross_of}
use Rattle.rules.specs.Refusals.{cross_sides_refusal}
use Rattle.rules.proofs.Refusing.{unless-none, Sides, sides-fact}
use Rattle.kinds.specs.Runs.{over}
use Rattle.reduce.proofs.Rows.{over_put, row_at, row-long}
use Rattle.levels.specs.Crosses.{bytes_at, cross_cell}
use Rattle.levels.proofs.Rows.{Rows, rows-first, rows-room, rows_more, rows_end, over-front}

-- where 10 is not given, the faces have sides 1 to 4,096
pub cross-faces-sides : (w h : ℕ) → cross_sides_refusal w h ≡ 0 → Sides (cross_width w) (cross_height h)
unfolding cross_sides_refusal
cross-faces-sides w h e = sides-fact (cross_width w) (cross_height h) (unless-none _ 9 e)

-- such a cross is small
pub cross-most : (w h : ℕ) → Sides (cross_width w) (cross_height h) → h * w ≤ 201396230
cross-most w h s = mul-le-mul {n₂ = 12290} {m₂ = 16387} (omega arith) (omega arith)

pub faces-few : (w h : ℕ) → Sides (cross_width w) (cross_height h) → 6 * cross_height h * cross_width w ≤ 100663296
faces-few w h s = mul-le-mul {n₂ = 24576} (omega arith) s.most-w

-- three rows of faces, and four columns
row_lt : (f : ℕ) → row_of f < 3
unfolding row_of
row_lt f = go (eqb f 2) (eqb f 3)
  where
    go : (a b : Bool) → cond a 0 (cond b 2 1) < 3
    go true b = omega arith
    go false true = omega arith
    go false false = omega arith

column-lt : (f : ℕ) → column_of f < 4
unfolding column_of
column-lt f = go (eqb f 0) (eqb f 1) (eqb f 5)
  where
    go : (a b c : Bool) → cond a 2 (cond b 0 (cond c 3 1)) < 4
    go true b c = omega arith
    go false true c = omega arith
    go false false true = omega arith
    go false false false = omega arith

-- texel x of the bytes behind the first `from`: its four bytes stand from `at` on
pub bytes-behind : (from at x : ℕ) (bytes : List ℕ) → at ≡ from + x * 4
    → bytes_at (take (length bytes - from) (drop from bytes)) x
    ≡ rgba (get_or bytes at 0) (get_or bytes (at + 1) 0) (get_or bytes (at + 2) 0) (get_or bytes (at + 3) 0)
unfolding bytes_at
bytes-behind from at x bytes e =
    let second : from + (x * 4 + 1) ≡ at + 1 = omega arith in
    let third : from + (x * 4 + 2) ≡ at + 2 = omega arith in
    let fourth : from + (x * 4 + 3) ≡ at + 3 = omega arith in
    let read = λ (k : ℕ). get_or-drop from bytes k 0 in
    rw (part_to_end bytes from, read (x * 4), read (x * 4 + 1), read (x * 4 + 2), read (x * 4 + 3), ← e, second, third, fourth)

-- a part that was filled is a run
pub over-filled : (at m : ℕ) (s part : List ℕ) (f : ℕ → ℕ) → at + m ≤ length s → part ≡ tab (length (row_at m at s)) f
    → put_mid at (at + m - at) s part ≡ over at s m f
over-filled at m s part f room e =
    ap (λ (l : List ℕ). put_mid at (at + m - at) s l) (e ∙ ap (λ (n : ℕ). tab n f) (row-long m at s room)) ∙ over_put at m s f

-- bytes enough for it lie behind texel `from`
pub part-room : (at m from : ℕ) (s bytes : List ℕ) → at + m ≤ length s → (from + m) * 4 ≤ length bytes
    → 4 * length (row_at m at s) ≤ length (take (length bytes - from * 4) (drop (from * 4) bytes))
part-room at m from s bytes room read = rw (row-long m at s room, part_to_end bytes (from * 4), length-drop) (omega arith)

-- y rows are written
pub record FaceRows (w h : ℕ) (bytes old s : List ℕ) (y : ℕ) : Type 0 where
  pub sides : Sides (cross_width w) (cross_height h)
  pub read : h * w * 4 ≤ length bytes
  pub rows : Rows (cross_width w) (6 * cross_height h) (cross_cell w h bytes) old s y

pub faces-first : (w h : ℕ) (bytes old : List ℕ) → Sides (cross_width w) (cross_height h) → h * w * 4 ≤ length bytes
    → 6 * cross_height h * cross_width w ≤ length old → FaceRows w h bytes old old 0
faces-first w h bytes old s read room = record { sides = s; read = read; rows = rows-first _ _ _ old room }

-- where the next row is read, of a face at column k and row r, and where it goes
pub record FaceRow (w h y r k : ℕ) (bytes old : List ℕ) : Type 0 where
  pub row : r * cross_height h + y % cross_height h < h
  pub column : k * cross_width w + cross_width w ≤ w
  pub reads : (r * cross_height h + y % cross_height h) * w + w ≤ h * w
  pub goes : y * cross_width w + cross_width w ≤ length old
  pub few : y < 24576
  pub most : h * w ≤ 201396230

module _ {w h : ℕ} {bytes old s : List ℕ} {y : ℕ} (t : FaceRows w h bytes old s y) (lt : y < 6 * cross_height h) where
  pub faces-place : {r k : ℕ} → r ≡ row_of (y / cross_height h) → k ≡ column_of (y / cross_height h) → FaceRow w h y r k bytes old
  faces-place {r} {k} er ek =
      let below : r < 3 = rw er (row_lt (y / cross_height h)) in
      let beside : k < 4 = rw ek (column-lt (y / cross_height h)) in
      let row : r * cross_height h + y % cross_height h < 3 * cross_height h = digits_lt below (mod-lt y t.sides.some-h) in
      let inside : r * cross_height h + y % cross_height h < h = omega arith in
      record {
        row = inside;
        column = omega (arith, mul-le-mul_right (cross_width w) beside, suc-mul k (cross_width w));
        reads = omega (arith, mul-le-mul_right w inside, suc-mul (r * cross_height h + y % cross_height h) w);
        goes = rows-room t.rows lt;
        few = omega (arith, t.sides.most-h);
        most = cross-most w h t.sides;
      }

  pub faces-more : {r k : ℕ} (u : List ℕ) → r ≡ row_of (y / cross_height h) → k ≡ column_of (y / cross_height h)
      → (let from = ((r * cross_height h + y % cross_height h) * w + k * cross_width w) * 4 in
      u ≡ over (y * cross_width w) s (cross_width w) (bytes_at (take (length bytes - from) (drop from bytes))))
      → FaceRows w h bytes old u (y + 1)
  unfolding bytes_at cross_cell byte_texel
  faces-more {r} {k} u er ek eu =
      let row = (r * cross_height h + y % cross_height h) * w in
      let column = k * cross_width w in
      record {
        sides = t.sides;
        read = t.read;
        rows = rows_more t.rows lt _ u eu
            (λ x l. bytes-behind ((row + column) * 4) ((row + (column + x)) * 4) x bytes (omega arith) ∙ rw (digits_div y l, digits_mod y l, ← er, ← ek));
      }

-- all rows
pub faces-end : {w h : ℕ} {bytes old s : List ℕ} {y : ℕ} → FaceRows w h bytes old s y → 6 * cross_height h ≤ y
    → s ≡ over 0 old (6 * cross_height h * cross_width w) (cross_cell w h bytes)
faces-end t le = rows_end t.rows le

-- the run is the six faces
pub cross-is : (w h : ℕ) (bytes old : List ℕ)
    → over 0 old (6 * cross_height h * cross_width w) (cross_cell w h bytes) ≡ cross_of w h bytes ++ drop (6 * cross_height h * cross_width w) old
unfolding cross_cell cross_of grid
cross-is w h bytes old = over-front old _ _
