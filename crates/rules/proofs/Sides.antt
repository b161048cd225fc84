-- The size laws. Assumes nothing.
use mathlib.Core.Path.{◌≡◌, refl, sym, ap, ◌∙◌}
use Prim.Native.Nat.{ℕ, zero, suc, ◌+◌, ◌-◌, ◌*◌, ◌/◌, ◌^◌, ◌≤◌, ◌<◌, max}
use native.Mathlib.Nat.{add-zero, add-suc, suc-add, pow-zero, div-one, zero-div, div-le_self, max-eq_left, max-eq_right, le_refl}
use native.Mathlib.Omega.{arith}
use native.Mathlib.Nat.{not-le_of_lt, le-div_iff_mul-le, div-lt_iff_lt-mul, sub-add_cancel}
use native.Mathlib.Numerals.{one-add}
use native.Mathlib.Decide.{dec_le}
use lib.Pow.{pow_pos, pow_mono, pow-add, shr-shr, shr_mono}
use borrow.Author.Tests.{le-ltb}
use Rattle.rules.specs.Sizes.{side_at, half, halvings, log2, top, size_at, start, count}

-- ---- sides

-- a side is never 0
pub side-pos : (m s : ℕ) → 0 < side_at m s
unfolding side_at
side-pos m s = omega arith

pub side-le : (m s : ℕ) → 0 < s → side_at m s ≤ s
unfolding side_at
side-le m s p = omega (arith, div-le_self s (2 ^ m))

pub side-zero : (s : ℕ) → 0 < s → side_at 0 s ≡ s
unfolding side_at
side-zero s p = rw (pow-zero, div-one) (omega arith)

pub side-one : (s : ℕ) → side_at 1 s ≡ half s
unfolding side_at
side-one s = refl

-- the side that is held to 1 before a division or only after it
held : (q p : ℕ) → max 1 (max 1 q / p) ≡ max 1 (q / p)
held zero p = rw zero-div (omega (arith, div-le_self 1 p))
held (suc q) p = ap (λ (x : ℕ). max 1 (x / p)) (omega arith)

pub side-add : (a b s : ℕ) → side_at (a + b) s ≡ side_at b (side_at a s)
unfolding side_at
side-add a b s = sym (held (s / 2 ^ a) (2 ^ b) ∙ rw shr-shr)

-- the next level's side, from either end
pub side-half : (m s : ℕ) → side_at m (half s) ≡ side_at (suc m) s
side-half m s = rw (← side-one s, ← side-add 1 m s) (ap (λ (k : ℕ). side_at k s) (omega arith))

pub half-side : (m s : ℕ) → half (side_at m s) ≡ side_at (suc m) s
half-side m s = rw (← side-one (side_at m s), ← side-add m 1 s) (ap (λ (k : ℕ). side_at k s) (omega arith))

-- ---- floor (log2 n)

halvings-step : (k n : ℕ) → 2 ≤ n → halvings (suc k) n ≡ suc (halvings k (n / 2))
unfolding halvings
halvings-step k n h = rw (le-ltb n 2 h, halvings)

halvings-bounds : (k n : ℕ) → 0 < n → n ≤ k → (2 ^ halvings k n ≤ n) × (n < 2 ^ suc (halvings k n))
unfolding halvings
halvings-bounds zero n p h = absurd (omega arith)
halvings-bounds (suc k) zero p h = absurd (omega arith)
halvings-bounds (suc k) (suc zero) p h = omega arith
halvings-bounds (suc k) (suc (suc m)) p h =
    let n = suc (suc m) in
    let ih = halvings-bounds k (n / 2) (omega arith) (omega arith) in
    rw (halvings-step k n (omega arith)) (omega arith)

pub log2-bounds : (n : ℕ) → 0 < n → (2 ^ log2 n ≤ n) × (n < 2 ^ suc (log2 n))
unfolding log2
log2-bounds n p = halvings-bounds n n p (le_refl n)

-- an exponent by its powers
pub exp-le : (a b : ℕ) → 2 ^ a < 2 ^ suc b → a ≤ b
exp-le a b h = elim (dec_le a b) [ yes l ↦ l | no f ↦ absurd (not-le_of_lt h (pow_mono (omega arith))) ]

-- floor (log2 n) is the one k with 2^k ≤ n < 2^(k+1)
pub log2-unique : (n k : ℕ) → 2 ^ k ≤ n → n < 2 ^ suc k → log2 n ≡ k
log2-unique n k lo hi =
    let b = log2-bounds n (omega (arith, pow_pos k)) in
    let u : log2 n ≤ k = exp-le (log2 n) k (omega arith) in
    let v : k ≤ log2 n = exp-le k (log2 n) (omega arith) in
    omega arith

-- one halving: what a loop or a recursion that halves cites
pub log2-half : (n : ℕ) → 2 ≤ n → log2 n ≡ suc (log2 (n / 2))
log2-half n h =
    let b = log2-bounds (n / 2) (omega arith) in
    log2-unique n (suc (log2 (n / 2))) (omega arith) (omega arith)

pub log2-small : (n : ℕ) → n < 2 → log2 n ≡ 0
unfolding log2 halvings
log2-small zero h = refl
log2-small (suc zero) h = refl
log2-small (suc (suc n)) h = absurd (omega arith)

-- ---- the top level

-- the top level is floor(log2(larger side))
pub top-bounds : (w h : ℕ) → 0 < w → (2 ^ top w h ≤ max w h) × (max w h < 2 ^ suc (top w h))
unfolding top
top-bounds w h p = log2-bounds (max w h) (omega arith)

-- a power of two that fits a side is a level
pub le-top : (k w h : ℕ) → 0 < w → 2 ^ k ≤ w → k ≤ top w h
le-top k w h p le = let b = top-bounds w h p in exp-le k (top w h) (omega arith)

-- ---- the top level of level a, opened as a picture of its own

max-shr : (w h k : ℕ) → max (w / 2 ^ k) (h / 2 ^ k) ≡ max w h / 2 ^ k
max-shr w h k =
    elim (dec_le w h) [
      | yes l ↦ rw (max-eq_right l) (max-eq_right (shr_mono k l))
      | no f ↦ let l : h ≤ w = omega arith in rw (max-eq_left l) (max-eq_left (shr_mono k l))
    ]

pub top-side : (w h a : ℕ) → 0 < w → a ≤ top w h → top (side_at a w) (side_at a h) ≡ top w h - a
unfolding top side_at
top-side w h a p le =
    let n = max w h in
    let L = log2 n in
    let b = log2-bounds n (omega arith) in
    let lo : 2 ^ (L - a) ≤ n / 2 ^ a = (le-div_iff_mul-le (pow_pos a)).1 (rw (← pow-add 2 (L - a) a, sub-add_cancel le) b.0) in
    let hi : n / 2 ^ a < 2 ^ suc (L - a) = (div-lt_iff_lt-mul (pow_pos a)).1 (rw (← pow-add 2 (suc (L - a)) a, suc-add (L - a) a, sub-add_cancel le) b.1) in
    let m = max-shr w h a in
    log2-unique _ (L - a) (omega (arith, pow_pos (L - a))) (omega (arith, pow_pos (L - a)))

-- ---- where levels start

pub start-suc : (F w h m : ℕ) → start F w h (suc m) ≡ start F w h m + size_at F w h m
unfolding start
start-suc F w h m = refl

pub size-add : (F w h a b : ℕ) → size_at F w h (a + b) ≡ size_at F (side_at a w) (side_at a h) b
unfolding size_at
size-add F w h a b = rw (side-add a b h, side-add a b w)

pub size-half : (F w h m : ℕ) → size_at F (half w) (half h) m ≡ size_at F w h (suc m)
unfolding size_at
size-half F w h m = rw (side-half m h, side-half m w)

pub size-zero : (F w h : ℕ) → 0 < w → 0 < h → size_at F w h 0 ≡ F * h * w
unfolding size_at
size-zero F w h pw ph = rw (side-zero h ph, side-zero w pw)

-- the levels from a on start where the level a's own chain says, counted from a's start
pub start-add : (F w h a b : ℕ) → start F w h (a + b) ≡ start F w h a + start F (side_at a w) (side_at a h) b
unfolding start
start-add F w h a zero = rw (add-zero a) (omega arith)
start-add F w h a (suc b) = rw (add-suc, start-add F w h a b, size-add F w h a b) (omega arith)

pub start-half : (F w h n : ℕ) → 0 < w → 0 < h → start F w h (suc n) ≡ F * h * w + start F (half w) (half h) n
unfolding start
start-half F w h n pw ph =
    ap (λ (k : ℕ). start F w h k) (sym (one-add n)) ∙ start-add F w h 1 n ∙ rw (size-zero F w h pw ph, side-one w, side-one h) (omega arith)

-- a picture's chain is the levels before a, and then the chain of level a
pub count-side : (F w h a : ℕ) → 0 < w → a ≤ top w h → count F w h ≡ start F w h a + count F (side_at a w) (side_at a h)
unfolding count
count-side F w h a p le = rw (top-side w h a p le, ← start-add F w h a (suc (top w h - a))) (ap (λ (k : ℕ). start F w h k) (omega arith))
