-- `tab` and `grid` by their elements: the three laws that all others go through are `length-grid`, `texel-grid` and `grid-ext`.
-- Assumes nothing.
use mathlib.Core.Path.{◌≡◌, refl, ap, ap₂, ◌∙◌}
use mathlib.Core.List.{List, [], ◌∷◌, ◌++◌}
use Prim.Native.Nat.{ℕ, zero, suc, ◌+◌, ◌*◌, ◌/◌, ◌%◌, ◌<◌, suc-le-suc}
use native.Mathlib.Nat.{not-suc-le-zero, le_of_suc-le-suc, zero-lt-suc, div-lt_iff_lt-mul, mod-lt}
use lib.ListN.{length, get_or}
use lib.Arith.{digits_lt, digits_div, digits_mod}
use Rattle.rules.specs.Levels.{tab, grid, texel}

pub length-tab : (n : ℕ) (f : ℕ → ℕ) → length (tab n f) ≡ n
unfolding tab
length-tab zero f = refl
length-tab (suc n) f = ap suc (length-tab n (λ k. f (suc k)))

pub get_or-tab : (n : ℕ) (f : ℕ → ℕ) (i : ℕ) → i < n → get_or (tab n f) i 0 ≡ f i
unfolding tab
get_or-tab zero f i h = absurd (not-suc-le-zero h)
get_or-tab (suc n) f zero h = refl
get_or-tab (suc n) f (suc i) h = get_or-tab n (λ k. f (suc k)) i (le_of_suc-le-suc h)

pub tab-ext : (n : ℕ) (f g : ℕ → ℕ) → ((i : ℕ) → i < n → f i ≡ g i) → tab n f ≡ tab n g
unfolding tab
tab-ext zero f g e = refl
tab-ext (suc n) f g e = ap₂ (λ (x : ℕ) (r : List ℕ). x ∷ r) (e zero (zero-lt-suc n)) (tab-ext n (λ k. f (suc k)) (λ k. g (suc k)) (λ i h. e (suc i) (suc-le-suc h)))

-- one more texel: how a loop that goes up extends what it has written
pub tab-suc : (n : ℕ) (f : ℕ → ℕ) → tab (suc n) f ≡ tab n f ++ (f n ∷ [])
unfolding tab
tab-suc zero f = refl
tab-suc (suc n) f = ap (λ (r : List ℕ). f zero ∷ r) (tab-suc n (λ k. f (suc k)))

-- ---- places in a level of n faces, each of sides w and h

-- a place of the level lies in its list
pub place-lt : {n w h f x y : ℕ} → f < n → x < w → y < h → (f * h + y) * w + x < n * h * w
place-lt hf hx hy = digits_lt (digits_lt hf hy) hx

pub x-of : {w : ℕ} (h f x y : ℕ) → x < w → ((f * h + y) * w + x) % w ≡ x
x-of h f x y hx = digits_mod (f * h + y) hx

pub y_of : {w h : ℕ} (f x y : ℕ) → x < w → y < h → ((f * h + y) * w + x) / w % h ≡ y
y_of {w} {h} f x y hx hy = rw (digits_div (f * h + y) hx) (digits_mod f hy)

pub f-of : {w h : ℕ} (f x y : ℕ) → x < w → y < h → ((f * h + y) * w + x) / w / h ≡ f
f-of {w} {h} f x y hx hy = rw (digits_div (f * h + y) hx) (digits_div f hy)

-- ---- grid

pub length-grid : (n w h : ℕ) (g : ℕ → ℕ → ℕ → ℕ) → length (grid n w h g) ≡ n * h * w
unfolding grid
length-grid n w h g = length-tab (n * h * w) _

pub texel-grid : (n w h : ℕ) (g : ℕ → ℕ → ℕ → ℕ) (f x y : ℕ) → f < n → x < w → y < h → texel w h (grid n w h g) f x y ≡ g f x y
unfolding grid texel
texel-grid n w h g f x y hf hx hy =
    get_or-tab (n * h * w) (λ i. g (i / w / h) (i % w) (i / w % h)) ((f * h + y) * w + x) (place-lt hf hx hy)
    ∙ rw (x-of h f x y hx, y_of f x y hx hy, f-of f x y hx hy)

pub grid-ext : (n w h : ℕ) → 0 < w → 0 < h → (g g' : ℕ → ℕ → ℕ → ℕ)
    → ((f x y : ℕ) → f < n → x < w → y < h → g f x y ≡ g' f x y) → grid n w h g ≡ grid n w h g'
unfolding grid
grid-ext n w h pw ph g g' e =
    tab-ext (n * h * w) _ _ λ i lt.
    e (i / w / h) (i % w) (i / w % h) ((div-lt_iff_lt-mul ph).1 ((div-lt_iff_lt-mul pw).1 lt)) (mod-lt i pw) (mod-lt (i / w) ph)
