-- Tiles as they are written. A tile is a cut of order 0, which is never refused: so what the cut leaves at the front of a part of 256
-- texels is the tile. Tiles that are stored one behind the other are the front of the ranges. Assumes nothing.
use mathlib.Core.Path.{◌≡◌, refl, ap, ◌∙◌}
use mathlib.Core.List.{List, ◌++◌}
use Prim.Native.Nat.{ℕ, ◌+◌, ◌-◌, ◌*◌, ◌/◌, ◌%◌, ◌≤◌, ◌<◌}
use native.Mathlib.Nat.{one-mul, mul-suc, mul-le-mul, div-add-mod'}
use native.Mathlib.Numerals.{add-one}
use native.Mathlib.Omega.{arith}
use lib.ListN.{length, take, drop, length-drop}
use lib.Seq.{sets, length-sets, take_at, drop-drop}
use Rattle.rules.specs.declared.Pair.{Pair}
use Rattle.rules.specs.Kinds.{cubemap}
use Rattle.rules.specs.Cuts.{cut}
use Rattle.rules.specs.Ranges.{tiles, tile_side, tile, range_of, joined, ranges_of, ranges_size, range_start}
use Rattle.rules.specs.Answers.{cut_leaves}
use Rattle.rules.proofs.Grid.{length-grid}
use Rattle.rules.proofs.Bounds.{faces-flat}
use Rattle.rules.proofs.Refusing.{Taken, answer-given}
use Rattle.rules.proofs.RefusingCuts.{CutCall, cut-taken}
use Rattle.rules.proofs.RefusingRanges.{Ranged}
use Rattle.rules.proofs.Tiles.{length-joined, sets_behind, length-range, TileAt, tile-room, tile-at}

-- ---- one tile

-- a picture that is taken and no cubemap, its level 0 whole in n texels
pub record Flat (kind w h n : ℕ) : Type 0 where
  pub taken : Taken kind w h
  pub flat : kind ≡ cubemap → ⊥
  pub level0 : h * w ≤ n

pub flat-of : {kind w h n m : ℕ} → Ranged kind w h n m → Flat kind w h n
flat-of {kind} {w} {h} {n} r =
    let one = faces-flat kind r.flat in
    record { taken = r.taken; flat = r.flat; level0 = rw (one, one-mul h) at r.level0 }

abbrev pub corner_of : ℕ → ℕ → Pair
corner_of i j = record { x = 16 * i; y = 16 * j }

abbrev pub sides_of : ℕ → ℕ → ℕ → ℕ → Pair
sides_of w h i j = record { x = tile_side w i; y = tile_side h j }

module _ {kind w h n i j : ℕ} (p : Flat kind w h n) (t : TileAt w h i j) where
  pub tile-small : tile_side h j * tile_side w i ≤ 256
  tile-small = mul-le-mul {n₂ = 16} {m₂ = 16} (omega arith) (omega arith)

  tile-call : CutCall kind w h n 0 (corner_of i j) (sides_of w h i j) 256
  tile-call =
      let one = faces-flat kind p.flat in
      record {
        taken = p.taken;
        level0 = rw (one, one-mul h) p.level0;
        flat = p.flat;
        cutting = record {
          order = omega arith;
          at = record {
            corner-x = omega arith;
            corner-y = omega arith;
            side-w = omega arith;
            side-h = omega arith;
            some-w = omega arith;
            some-h = omega arith;
            inside-w = omega arith;
            inside-h = omega arith;
          };
        };
        room = tile-small;
      }

-- what the cut leaves in a part of 256 texels begins with the tile
tile-part : {kind w h i j : ℕ} (l part : List ℕ) → Flat kind w h (length l) → TileAt w h i j → length part ≡ 256
    → take (tile_side h j * tile_side w i) (cut_leaves kind w h l 0 (corner_of i j) (sides_of w h i j) part) ≡ tile w h l i j
unfolding cut_leaves tile cut
tile-part {kind} {w} {h} {i} {j} l part p t long =
    let fine = cut-taken kind w h (length l) 0 (corner_of i j) (sides_of w h i j) 256 (tile-call p t) in
    let n = tile_side h j * tile_side w i in
    rw (long, answer-given _ _ _ fine)
    (take_at (cut w h (16 * i) (16 * j) (tile_side w i) (tile_side h j) l) (drop n part) n
    (length-grid 1 (tile_side w i) (tile_side h j) _ ∙ rw (one-mul (tile_side h j))))

-- the same of sides that were worked out
pub tile-cut : {kind w h i j a b : ℕ} (l part made : List ℕ) → Flat kind w h (length l) → TileAt w h i j → length part ≡ 256
    → a ≡ tile_side w i → b ≡ tile_side h j → made ≡ cut_leaves kind w h l 0 (corner_of i j) (record { x = a; y = b }) part
    → take (b * a) made ≡ tile w h l i j
tile-cut l part made p t long ea eb em = rw (em, ea, eb) (tile-part l part p t long)

-- ---- tile after tile

-- tiles are few
pub tiles-few : {w h : ℕ} → w ≤ 4096 → h ≤ 4096 → tiles h * tiles w ≤ 65536
tiles-few lw lh = mul-le-mul {n₂ = 256} {m₂ = 256} (omega arith) (omega arith)

-- n tiles are written over old, which has room for all
pub record Built (w h : ℕ) (l old s : List ℕ) (n : ℕ) : Type 0 where
  pub room : ranges_size w h ≤ length old
  pub below : n ≤ tiles h * tiles w
  pub as_long : length s ≡ length old
  pub holds : s ≡ joined n (λ k. range_of (tile w h l (k % tiles w) (k / tiles w))) ++ drop (8 * n) old

pub built-first : (w h : ℕ) (l old : List ℕ) → ranges_size w h ≤ length old → Built w h l old old 0
unfolding joined
built-first w h l old room = record { room = room; below = omega arith; as_long = refl; holds = refl }

-- tile n has its bytes at 8 * n
start_of : (w n : ℕ) → range_start w (n % tiles w) (n / tiles w) ≡ 8 * n
unfolding range_start
start_of w n = ap (λ (k : ℕ). 8 * k) (div-add-mod' n (tiles w))

module _ {w h : ℕ} {l old s : List ℕ} {n : ℕ} (b : Built w h l old s n) where
  -- one tile more, stored behind those that are there
  pub built-more : 0 < w → n < tiles h * tiles w → (s' : List ℕ)
      → s' ≡ sets s (range_start w (n % tiles w) (n / tiles w)) (range_of (tile w h l (n % tiles w) (n / tiles w)))
      → Built w h l old s' (n + 1)
  unfolding joined
  built-more some lt s' e =
      let range : ℕ → List ℕ = λ k. range_of (tile w h l (k % tiles w) (k / tiles w)) in
      let front = joined n range in
      let rest = drop (8 * n) old in
      let at : range_start w (n % tiles w) (n / tiles w) ≡ 8 * n = start_of w n in
      let room = tile-room (tile-at w h n some lt) in
      let long : length front ≡ 8 * n = length-joined 8 n range (λ k. length-range _) in
      let left : length rest ≡ length old - 8 * n = length-drop (8 * n) old in
      record {
        room = b.room;
        below = omega arith;
        as_long = rw (e, length-sets s (range_start w (n % tiles w) (n / tiles w)) (range n)) b.as_long;
        holds = e ∙ rw (at, b.holds, add-one n) (sets_behind (range n) front rest (8 * n) long (rw (length-range (tile w h l (n % tiles w) (n / tiles w))) (omega arith)) ∙ rw (length-range (tile w h l (n % tiles w) (n / tiles w)), drop-drop 8 (8 * n) old, mul-suc 8 n));
      }

  pub built-all : tiles h * tiles w ≤ n → s ≡ ranges_of w h l ++ drop (ranges_size w h) old
  unfolding ranges_of ranges_size
  built-all le = let all : n ≡ tiles h * tiles w = omega arith in rw (← all) b.holds
