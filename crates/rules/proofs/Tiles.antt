-- The ranges of a picture, tile by tile. Each takes eight bytes, so where one tile's stand follows from its number alone; and a tile
-- that the place (x, y) does not lie in is the same after a new texel there. So the ranges of the picture so changed are the old
-- ones with one tile's eight bytes worked out again. Assumes nothing.
use mathlib.Core.Path.{◌≡◌, refl, sym, ap, ap₂, ◌∙◌}
use mathlib.Core.List.{List, [], ◌∷◌, ◌++◌, map, foldr, append-nil}
use Prim.Native.Nat.{ℕ, zero, suc, ◌+◌, ◌*◌, ◌/◌, ◌%◌, ◌≤◌, ◌<◌, min, max}
use native.Mathlib.Nat.{le_refl, mul-suc, mul-zero, mul-le-mul_left, zero-mul, zero-add, mod-lt, div-lt_iff_lt-mul, div-add-mod'}
use native.Mathlib.Decide.{dec_lt}
use native.Mathlib.Omega.{arith}
use lib.Arith.{digits_lt, digits_div, digits_mod}
use lib.ListN.{length, get_or, take, drop, set, length-append, length-set}
use lib.Seq.{sets, sets-eq, set-append_left, take_at, get_or-set_other, get_or-take, drop-append-add, drop-length}
use Rattle.rules.specs.Kinds.{red_of, green_of, blue_of, alpha_of}
use Rattle.rules.specs.Levels.{texel}
use Rattle.rules.specs.Cuts.{cut}
use Rattle.rules.specs.Ranges.{tiles, tile_side, tile, smallest, largest, range_of, joined, ranges_of, ranges_size, range_start, replaced, range_replaced}
use Rattle.rules.proofs.Grid.{grid-ext}

-- ---- the smallest and the largest, as a loop comes by them

module _ (op : ℕ → ℕ → ℕ) (e : ℕ) (first : (b : ℕ) → op b e ≡ op e b) (group : (a b c : ℕ) → op a (op b c) ≡ op (op a b) c) where
  foldr-last : (l : List ℕ) (b : ℕ) → foldr op e (l ++ (b ∷ [])) ≡ op (foldr op e l) b
  foldr-last [] b = first b
  foldr-last (a ∷ l) b = rw (foldr-last l b) (group a (foldr op e l) b)

pub smallest-none : smallest [] ≡ 255
unfolding smallest
smallest-none = refl

pub largest-none : largest [] ≡ 0
unfolding largest
largest-none = refl

pub smallest-last : (l : List ℕ) (b : ℕ) → smallest (l ++ (b ∷ [])) ≡ min (smallest l) b
unfolding smallest
smallest-last = foldr-last min 255 (λ b. omega arith) (λ a b c. omega arith)

pub largest-last : (l : List ℕ) (b : ℕ) → largest (l ++ (b ∷ [])) ≡ max (largest l) b
unfolding largest
largest-last = foldr-last max 0 (λ b. omega arith) (λ a b c. omega arith)

-- ---- lists that are joined, each k long

module _ (k : ℕ) where
  pub length-joined : (n : ℕ) (f : ℕ → List ℕ) → ((i : ℕ) → length (f i) ≡ k) → length (joined n f) ≡ k * n
  unfolding joined
  length-joined zero f long = sym (mul-zero k)
  length-joined (suc n) f long = length-append (joined n f) (f n) ∙ rw (length-joined n f long, long n, mul-suc k n)

pub joined-ext : (n : ℕ) (f g : ℕ → List ℕ) → ((i : ℕ) → i < n → f i ≡ g i) → joined n f ≡ joined n g
unfolding joined
joined-ext zero f g e = refl
joined-ext (suc n) f g e = ap₂ (λ (a b : List ℕ). a ++ b) (joined-ext n f g (λ i lt. e i (omega arith))) (e n (omega arith))

-- ---- stores into joined lists

-- stores that stay in the first list
pub sets-left : (vs xs ys : List ℕ) (i : ℕ) → i + length vs ≤ length xs → sets (xs ++ ys) i vs ≡ sets xs i vs ++ ys
sets-left [] xs ys i le = refl
sets-left (v ∷ vs) xs ys i le =
    let inside : i < length xs = omega arith in
    let l = length-set xs i v in
    rw (set-append_left xs ys i v inside) (sets-left vs (set xs i v) ys (suc i) (omega arith))

-- stores right behind it
pub sets_behind : (vs xs ys : List ℕ) (i : ℕ) → length xs ≡ i → length vs ≤ length ys → sets (xs ++ ys) i vs ≡ xs ++ vs ++ drop (length vs) ys
sets_behind vs xs ys i at room =
    sets-eq vs (xs ++ ys) i (rw length-append (omega arith))
    ∙ rw (take_at xs ys i at, ← at, drop-append-add xs ys (length vs))

-- of n lists, each k long, the m-th is stored anew
pub sets-joined : (k n m : ℕ) (f g : ℕ → List ℕ) → ((i : ℕ) → length (f i) ≡ k) → ((i : ℕ) → length (g i) ≡ k)
    → m < n → ((i : ℕ) → i < n → (i ≡ m → ⊥) → f i ≡ g i) → sets (joined n f) (k * m) (g m) ≡ joined n g
unfolding joined
sets-joined k zero m f g lf lg lt e = absurd (omega arith)
sets-joined k (suc n) m f g lf lg lt e =
    let long = length-joined k n f lf in
    elim (dec_lt m n) [
      | yes below ↦
          let room : k * m + length (g m) ≤ length (joined n f) = rw (lg m, long, ← mul-suc k m) (mul-le-mul_left k below) in
          sets-left (g m) (joined n f) (f n) (k * m) room
          ∙ ap₂ (λ (a b : List ℕ). a ++ b)
          (sets-joined k n m f g lf lg below (λ i l other. e i (omega arith) other))
          (e n (omega arith) (λ z. omega arith))
      | no above ↦
          let last : m ≡ n = omega arith in
          rw last
          (sets_behind (g n) (joined n f) (f n) (k * n) long (rw (lf n, lg n) (le_refl k))
          ∙ rw (lg n, ← (lf n), drop-length (f n)) (append-nil (joined n f ++ g n))
          ∙ ap (λ (a : List ℕ). a ++ g n) (joined-ext n f g (λ i l. e i (omega arith) (λ z. omega arith))))
    ]

-- ---- the ranges of a picture

-- the eight bytes, each by itself
pub range-is : (t : List ℕ) {r R g G b B a A : ℕ} → r ≡ smallest (map red_of t) → R ≡ largest (map red_of t)
    → g ≡ smallest (map green_of t) → G ≡ largest (map green_of t) → b ≡ smallest (map blue_of t) → B ≡ largest (map blue_of t)
    → a ≡ smallest (map alpha_of t) → A ≡ largest (map alpha_of t) → r ∷ R ∷ g ∷ G ∷ b ∷ B ∷ a ∷ A ∷ [] ≡ range_of t
unfolding range_of
range-is t er eR eg eG eb eB ea eA = rw (er, eR, eg, eG, eb, eB, ea, eA)

pub length-range : (t : List ℕ) → length (range_of t) ≡ 8
unfolding range_of
length-range t = refl

pub length-ranges : (w h : ℕ) (l : List ℕ) → length (ranges_of w h l) ≡ ranges_size w h
unfolding ranges_of ranges_size
length-ranges w h l = length-joined 8 (tiles h * tiles w) _ (λ n. length-range _)

-- the tile in column i and row j is one of the picture's
pub record TileAt (w h i j : ℕ) : Type 0 where
  pub column : i < tiles w
  pub row : j < tiles h

module _ {w h i j : ℕ} (t : TileAt w h i j) where
  -- its number is below that of the tiles, and its eight bytes lie in the ranges
  pub tile-number : j * tiles w + i < tiles h * tiles w
  tile-number = digits_lt t.row t.column

  pub tile-room : range_start w i j + 8 ≤ ranges_size w h
  unfolding range_start ranges_size
  tile-room = let n = tile-number in omega (arith, mul-le-mul_left 8 n, mul-suc 8 (j * tiles w + i))

-- the tile that a place of the picture lies in
pub tile-of : (w h x y : ℕ) → x < w → y < h → TileAt w h (x / 16) (y / 16)
tile-of w h x y along down = record { column = omega arith; row = omega arith }

-- a tile reads its own places alone: two lists that agree there have the same tile
module _ (w h i j : ℕ) (t : TileAt w h i j) where
  pub tile-ext : (l l' : List ℕ) → ((x y : ℕ) → x < w → y < h → x / 16 ≡ i → y / 16 ≡ j → get_or l (y * w + x) 0 ≡ get_or l' (y * w + x) 0)
      → tile w h l i j ≡ tile w h l' i j
  unfolding tile cut texel
  tile-ext l l' e =
      grid-ext 1 (tile_side w i) (tile_side h j) (omega arith) (omega arith) _ _ λ f x y hf hx hy.
      let z : f ≡ 0 = omega arith in
      rw (z, zero-mul h, zero-add (16 * j + y)) (e (16 * i + x) (16 * j + y) (omega arith) (omega arith) (omega arith) (omega arith))

-- the column and the row of tile n
pub tile-at : (w h n : ℕ) → 0 < w → n < tiles h * tiles w → TileAt w h (n % tiles w) (n / tiles w)
tile-at w h n some lt =
    let columns : 0 < tiles w = omega arith in
    record { column = mod-lt n columns; row = (div-lt_iff_lt-mul columns).1 lt }

-- so the ranges read level 0 alone
pub ranges-level0 : (w h : ℕ) (l : List ℕ) → 0 < w → ranges_of w h (take (h * w) l) ≡ ranges_of w h l
unfolding ranges_of
ranges-level0 w h l some =
    joined-ext (tiles h * tiles w) _ _ λ n lt.
    ap range_of (tile-ext w h (n % tiles w) (n / tiles w) (tile-at w h n some lt) (take (h * w) l) l λ x y lx ly _ _.
    get_or-take (h * w) l (y * w + x) 0 (digits_lt ly lx))

-- two places that are one
same_place : {w x y x' y' : ℕ} → x < w → x' < w → y * w + x ≡ y' * w + x' → (x ≡ x') × (y ≡ y')
same_place {w} {x} {y} {x'} {y'} lt lt' e = (
  sym (digits_mod y lt) ∙ ap (λ (n : ℕ). n % w) e ∙ digits_mod y' lt',
  sym (digits_div y lt) ∙ ap (λ (n : ℕ). n / w) e ∙ digits_div y' lt',
)

-- a tile that the place does not lie in is as it was
pub tile-same : (w h x y : ℕ) (l : List ℕ) (t i j : ℕ) → TileAt w h i j → x < w → ((x / 16 ≡ i) × (y / 16 ≡ j) → ⊥)
    → tile w h l i j ≡ tile w h (replaced w l x y t) i j
unfolding replaced
tile-same w h x y l t i j at lt other =
    tile-ext w h i j at l (set l (y * w + x) t) λ x' y' lx ly ei ej.
    sym (get_or-set_other l (y * w + x) (y' * w + x') t 0 λ e.
    let same = same_place lx lt e in
    other (rw (← same.0) ei, rw (← same.1) ej))

-- the ranges of the picture with a new texel at (x, y) are the old ones with its tile's own range
module _ (w h x y : ℕ) (l : List ℕ) (t : ℕ) (along : x < w) (down : y < h) where
  number : ℕ
  number = y / 16 * tiles w + x / 16

  at : TileAt w h (x / 16) (y / 16)
  at = tile-of w h x y along down

  column-of : number % tiles w ≡ x / 16
  unfolding number
  column-of = digits_mod (y / 16) at.column

  row_of : number / tiles w ≡ y / 16
  unfolding number
  row_of = digits_div (y / 16) at.column

  -- another tile has another column or another row
  other-tile : (n : ℕ) → n < tiles h * tiles w → (n ≡ number → ⊥)
      → tile w h l (n % tiles w) (n / tiles w) ≡ tile w h (replaced w l x y t) (n % tiles w) (n / tiles w)
  unfolding number
  other-tile n lt other =
      tile-same w h x y l t (n % tiles w) (n / tiles w) (tile-at w h n (omega arith) lt) along
      (λ same. other (sym (div-add-mod' n (tiles w)) ∙ rw (← same.0, ← same.1)))

  pub ranges-replaced : range_replaced w h (replaced w l x y t) (ranges_of w h l) x y ≡ ranges_of w h (replaced w l x y t)
  unfolding range_replaced ranges_of range_start number
  ranges-replaced =
      let g : ℕ → List ℕ = λ n. range_of (tile w h (replaced w l x y t) (n % tiles w) (n / tiles w)) in
      let here : range_of (tile w h (replaced w l x y t) (x / 16) (y / 16)) ≡ g number = rw (column-of, row_of) in
      ap (λ (r : List ℕ). sets (ranges_of w h l) (8 * number) r) here
      ∙ sets-joined 8 (tiles h * tiles w) number _ g (λ n. length-range _) (λ n. length-range _) (tile-number at)
      (λ n lt other. ap range_of (other-tile n lt other))
