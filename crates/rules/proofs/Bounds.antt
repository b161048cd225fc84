-- How large sizes get. The top level is at most 12; a chain has at most twice the texels of its level
-- 0, since each level has at most half the texels of the one before; every level and every face of it lies in the chain.
-- Assumes nothing.
use mathlib.Core.Path.{◌≡◌, sym, ap, ◌∙◌}
use mathlib.Core.Bool.{Bool, true, false, cond}
use Prim.Native.Nat.{ℕ, zero, suc, ◌+◌, ◌-◌, ◌*◌, ◌^◌, ◌≤◌, ◌<◌, max}
use native.Mathlib.Nat.{mul_comm, mul_assoc, mul-le-mul, mul-le-mul_left, mul-le-mul_right, mul-pos, le_refl}
use native.Mathlib.Decide.{dec_le}
use native.Mathlib.Omega.{arith}
use borrow.Author.Tests.{eq-eqb, ne_eqb}
use lib.Dec.{eqb}
use lib.Pow.{pow_mono}
use Rattle.rules.specs.Kinds.{cubemap, faces_of}
use Rattle.rules.specs.Sizes.{side_at, half, top, size_at, start, count}
use Rattle.rules.specs.View.{face_start}
use Rattle.rules.proofs.Refusing.{Taken}
use Rattle.rules.proofs.Sides.{side-pos, side-one, exp-le, top-bounds, top-side, start-suc, start-half}

-- ---- faces

pub faces-cube : (kind : ℕ) → kind ≡ cubemap → faces_of kind ≡ 6
unfolding faces_of
faces-cube kind e = rw (eq-eqb kind cubemap e)

pub faces-flat : (kind : ℕ) → (kind ≡ cubemap → ⊥) → faces_of kind ≡ 1
unfolding faces_of
faces-flat kind other = rw (ne_eqb kind cubemap other)

six-or-one : (cube : Bool) → (0 < cond cube 6 1) × (cond cube 6 1 ≤ 6)
six-or-one true = (omega arith, omega arith)
six-or-one false = (omega arith, omega arith)

pub faces-some : (kind : ℕ) → 0 < faces_of kind
unfolding faces_of
faces-some kind = (six-or-one (eqb kind cubemap)).0

pub faces-most : (kind : ℕ) → faces_of kind ≤ 6
unfolding faces_of
faces-most kind = (six-or-one (eqb kind cubemap)).1

-- ---- the top level

pub top-most : (w h : ℕ) → 0 < w → w ≤ 4096 → h ≤ 4096 → top w h ≤ 12
top-most w h p q r = let b = top-bounds w h p in exp-le (top w h) 12 (omega arith)

-- above level 0 there is a level only where a side is at least 2
two-sides : (w h : ℕ) → 0 < w → 0 < top w h → 2 ≤ max w h
two-sides w h p t = let b = top-bounds w h p in let two : 2 ^ 1 ≤ 2 ^ top w h = pow_mono t in omega arith

pub top-half : (w h : ℕ) → 0 < w → 0 < top w h → top (half w) (half h) ≡ top w h - 1
top-half w h p t = rw (← side-one w, ← side-one h) (top-side w h 1 p t)

-- ---- where levels start

pub start-mono : (F w h a b : ℕ) → a ≤ b → start F w h a ≤ start F w h b
start-mono F w h a zero le = let z : a ≡ 0 = omega arith in rw z (le_refl _)
start-mono F w h a (suc b) le =
    elim (dec_le a b) [
      | yes l ↦ let s = start-suc F w h b in omega (arith, start-mono F w h a b l)
      | no f ↦ let e : a ≡ suc b = omega arith in rw e (le_refl _)
    ]

-- a level lies in the chain
pub level-end : (F w h m : ℕ) → m ≤ top w h → start F w h m + size_at F w h m ≤ count F w h
unfolding count
level-end F w h m le = rw (← start-suc F w h m) (start-mono F w h (suc m) (suc (top w h)) (omega arith))

-- so does a face of it
pub face-end : (F w h m f : ℕ) → m ≤ top w h → f < F → face_start F w h m f + side_at m h * side_at m w ≤ count F w h
unfolding face_start size_at
face-end F w h m f le lt =
    let n = side_at m h * side_at m w in
    let faces : suc f * n ≤ F * n = mul-le-mul_right n lt in
    let size : size_at F w h m ≡ F * n = mul_assoc F (side_at m h) (side_at m w) in
    omega (arith, level-end F w h m le)

-- ---- how many texels

pub size-some : (F w h m : ℕ) → 0 < F → 0 < size_at F w h m
unfolding size_at
size-some F w h m p = mul-pos (mul-pos p (side-pos m h)) (side-pos m w)

twice-last : (a b c : ℕ) → 2 * (a * b * c) ≡ a * b * (c * 2)
twice-last a b c = mul_comm 2 (a * b * c) ∙ mul_assoc (a * b) c 2

twice-middle : (a b c : ℕ) → 2 * (a * b * c) ≡ a * (b * 2) * c
twice-middle a b c = sym (mul_assoc 2 (a * b) c) ∙ ap (λ (n : ℕ). n * c) (mul_comm 2 (a * b) ∙ mul_assoc a b 2)

-- where a side is at least 2, the next level has at most half as many
next-half : (F w h : ℕ) → 0 < w → 0 < h → 2 ≤ max w h → 2 * (F * half h * half w) ≤ F * h * w
next-half F w h pw ph two =
    elim (dec_le 2 w) [
      | yes l ↦ rw (twice-last F (half h) (half w)) (mul-le-mul (mul-le-mul_left F (omega arith)) (omega arith))
      | no f ↦ rw (twice-middle F (half h) (half w)) (mul-le-mul (mul-le-mul_left F (omega arith)) (omega arith))
    ]

start-double : (F w h n : ℕ) → 0 < w → 0 < h → n ≤ suc (top w h) → start F w h n ≤ 2 * (F * h * w)
unfolding start
start-double F w h zero pw ph le = omega arith
start-double F w h (suc zero) pw ph le = rw (start-half F w h 0 pw ph) (omega arith)
start-double F w h (suc (suc n)) pw ph le =
    let t = top-half w h pw (omega arith) in
    let rest = start-double F (half w) (half h) (suc n) (omega arith) (omega arith) (omega arith) in
    let next = next-half F w h pw ph (two-sides w h pw (omega arith)) in
    rw (start-half F w h (suc n) pw ph) (omega arith)

-- a chain has at most twice the texels of its level 0
pub count-double : (F w h : ℕ) → 0 < w → 0 < h → count F w h ≤ 2 * (F * h * w)
unfolding count
count-double F w h pw ph = start-double F w h (suc (top w h)) pw ph (le_refl _)

-- level 0, and a whole chain, of six faces of sides up to 4,096
pub level0-most : (F w h : ℕ) → F ≤ 6 → w ≤ 4096 → h ≤ 4096 → F * h * w ≤ 100663296
level0-most F w h f qw qh = mul-le-mul {n₂ = 24576} (mul-le-mul {n₂ = 6} f qh) qw

pub count_most : (F w h : ℕ) → F ≤ 6 → 0 < w → 0 < h → w ≤ 4096 → h ≤ 4096 → count F w h ≤ 201326592
count_most F w h f pw ph qw qh = let l = level0-most F w h f qw qh in omega (arith, count-double F w h pw ph)

-- ---- of a picture that is taken

module _ {kind w h : ℕ} (t : Taken kind w h) where
  pub taken-top : top w h ≤ 12
  taken-top = top-most w h t.some-w t.most-w t.most-h

  pub taken-level0 : faces_of kind * h * w ≤ 100663296
  taken-level0 = level0-most (faces_of kind) w h (faces-most kind) t.most-w t.most-h

  pub taken-count : count (faces_of kind) w h ≤ 201326592
  taken-count = count_most (faces_of kind) w h (faces-most kind) t.some-w t.some-h t.most-w t.most-h
