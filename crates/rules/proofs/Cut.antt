-- The first k levels of an aligned cut are the matching cuts of the whole picture's levels. Assumes nothing.
use mathlib.Core.Path.{◌≡◌, sym, ap, ◌∙◌}
use mathlib.Core.List.{List}
use Prim.Native.Nat.{ℕ, zero, suc, ◌+◌, ◌-◌, ◌*◌, ◌/◌, ◌%◌, ◌^◌, ◌≤◌, ◌<◌, min}
use native.Mathlib.Nat.{pow-zero, div-one, mod-eq_of_lt, sub-zero, suc-sub-suc}
use native.Mathlib.Decide.{dec_le}
use native.Mathlib.Numerals.{one-add, add-one}
use native.Mathlib.Omega.{arith}
use lib.Pow.{mod-pow-add, shr-shr}
use Rattle.rules.specs.Sizes.{side_at, half, top}
use Rattle.rules.specs.Levels.{texel, quad, next, level}
use Rattle.rules.specs.Cuts.{cut, CutAt}
use Rattle.rules.proofs.Grid.{texel-grid, grid-ext}
use Rattle.rules.proofs.Sides.{side-half, side-zero, le-top}

-- ---- numbers

-- a multiple of 2^(k+1) is twice a multiple of 2^k
digits : (k x : ℕ) → x % 2 ^ suc k ≡ 0 → x / 2 % 2 ^ k * 2 + x % 2 ≡ 0
digits k x e = sym (mod-pow-add x k 1) ∙ ap (λ (n : ℕ). x % 2 ^ n) (add-one k) ∙ e

even : (k x : ℕ) → x % 2 ^ suc k ≡ 0 → x ≡ 2 * (x / 2)
even k x e = omega (arith, digits k x e)

aligned-half : (k x : ℕ) → x % 2 ^ suc k ≡ 0 → x / 2 % 2 ^ k ≡ 0
aligned-half k x e = omega (arith, digits k x e)

shr-suc : (x j : ℕ) → x / 2 / 2 ^ j ≡ x / 2 ^ suc j
shr-suc x j = shr-shr x 1 j ∙ rw (one-add j)

half-cut : {k w h cx cy cw ch : ℕ} → CutAt (suc k) w h cx cy cw ch → CutAt k (half w) (half h) (cx / 2) (cy / 2) (cw / 2) (ch / 2)
half-cut {k} {w} {h} {cx} {cy} {cw} {ch} c =
    let x = even k cx c.corner-x in
    let y = even k cy c.corner-y in
    let p = even k cw c.side-w in
    let q = even k ch c.side-h in
    record {
      corner-x = aligned-half k cx c.corner-x;
      corner-y = aligned-half k cy c.corner-y;
      side-w = aligned-half k cw c.side-w;
      side-h = aligned-half k ch c.side-h;
      some-w = omega arith;
      some-h = omega arith;
      inside-w = omega arith;
      inside-h = omega arith;
    }

-- the matching cut of level j is aligned by what is left of k
pub matching-at : (j k w h cx cy cw ch : ℕ) → j ≤ k → CutAt k w h cx cy cw ch
    → CutAt (k - j) (side_at j w) (side_at j h) (cx / 2 ^ j) (cy / 2 ^ j) (cw / 2 ^ j) (ch / 2 ^ j)
matching-at zero k w h cx cy cw ch le c =
    rw (sub-zero k, pow-zero 2, div-one cx, div-one cy, div-one cw, div-one ch, side-zero w (omega arith), side-zero h (omega arith)) c
matching-at (suc j) zero w h cx cy cw ch le c = absurd (omega arith)
matching-at (suc j) (suc k) w h cx cy cw ch le c =
    rw (suc-sub-suc k j, ← side-half j w, ← side-half j h, ← shr-suc cx j, ← shr-suc cy j, ← shr-suc cw j, ← shr-suc ch j)
    (matching-at j k (half w) (half h) (cx / 2) (cy / 2) (cw / 2) (ch / 2) (omega arith) (half-cut c))

-- a multiple of 2^k that is not 0 is at least 2^k
le-multiple : (k x : ℕ) → 0 < x → x % 2 ^ k ≡ 0 → 2 ^ k ≤ x
le-multiple k x p e = elim (dec_le (2 ^ k) x) [ yes l ↦ l | no f ↦ let z = mod-eq_of_lt {n = x} {m = 2 ^ k} (omega arith) in absurd (omega arith) ]

-- an aligned cut has k levels above its level 0, and so has the picture that it is cut from
pub cut-top : {k w h cx cy cw ch : ℕ} → CutAt k w h cx cy cw ch → k ≤ top cw ch
cut-top {k} {cw} {ch} c = le-top k cw ch c.some-w (le-multiple k cw c.some-w c.side-w)

pub cut_inside : {k w h cx cy cw ch : ℕ} → CutAt k w h cx cy cw ch → k ≤ top w h
cut_inside {k} {w} {h} {cw} c = let m = le-multiple k cw c.some-w c.side-w in le-top k w h (omega arith) (omega arith)

module _ (reduce : ℕ → ℕ → ℕ → ℕ → ℕ) where
  -- where neither side is held, the four texels are a square
  quad-inner : (w h : ℕ) (l : List ℕ) (f x y : ℕ) → 2 * x + 1 < w → 2 * y + 1 < h
      → quad reduce w h l f x y
      ≡ reduce (texel w h l f (2 * x) (2 * y)) (texel w h l f (2 * x + 1) (2 * y)) (texel w h l f (2 * x) (2 * y + 1)) (texel w h l f (2 * x + 1) (2 * y + 1))
  unfolding quad
  quad-inner w h l f x y hx hy =
      let ex : min (2 * x + 1) (w - 1) ≡ 2 * x + 1 = omega arith in
      let ey : min (2 * y + 1) (h - 1) ≡ 2 * y + 1 = omega arith in
      rw (ex, ey)

  -- one reduction of a cut at an even corner, of even sides
  cut-next : (w h cx cy cw ch x' y' w' h' : ℕ) (l : List ℕ) → cx ≡ 2 * x' → cy ≡ 2 * y' → cw ≡ 2 * w' → ch ≡ 2 * h'
      → 0 < w' → 0 < h' → cx + cw ≤ w → cy + ch ≤ h
      → next reduce 1 cw ch (cut w h cx cy cw ch l) ≡ cut (half w) (half h) x' y' w' h' (next reduce 1 w h l)
  unfolding next cut
  cut-next w h cx cy cw ch x' y' w' h' l ex ey ew eh pw ph iw ih =
      let hw : half cw ≡ w' = omega arith in
      let hh : half ch ≡ h' = omega arith in
      rw (hw, hh) (grid-ext 1 w' h' pw ph _ _ at)
    where
      at : (f x y : ℕ) → f < 1 → x < w' → y < h'
          → quad reduce cw ch (cut w h cx cy cw ch l) f x y ≡ texel (half w) (half h) (next reduce 1 w h l) f (x' + x) (y' + y)
      at f x y hf hx hy =
          let g : ℕ → ℕ → ℕ → ℕ = λ f x y. texel w h l f (cx + x) (cy + y) in
          let x₀ : 2 * (x' + x) ≡ cx + 2 * x = omega arith in
          let y₀ : 2 * (y' + y) ≡ cy + 2 * y = omega arith in
          let x₁ : cx + 2 * x + 1 ≡ cx + (2 * x + 1) = omega arith in
          let y₁ : cy + 2 * y + 1 ≡ cy + (2 * y + 1) = omega arith in
          rw (
            texel-grid 1 (half w) (half h) (quad reduce w h l) f (x' + x) (y' + y) hf (omega arith) (omega arith),
            quad-inner cw ch (cut w h cx cy cw ch l) f x y (omega arith) (omega arith),
            quad-inner w h l f (x' + x) (y' + y) (omega arith) (omega arith),
            texel-grid 1 cw ch g f (2 * x) (2 * y) hf (omega arith) (omega arith),
            texel-grid 1 cw ch g f (2 * x + 1) (2 * y) hf (omega arith) (omega arith),
            texel-grid 1 cw ch g f (2 * x) (2 * y + 1) hf (omega arith) (omega arith),
            texel-grid 1 cw ch g f (2 * x + 1) (2 * y + 1) hf (omega arith) (omega arith),
            x₀,
            y₀,
            x₁,
            y₁,
          )

  -- THE SECOND LAW. Level j of the cut is the cut of level j, its corner and sides divided by 2^j
  pub cut_level : (j k w h cx cy cw ch : ℕ) (l : List ℕ) → j ≤ k → CutAt k w h cx cy cw ch
      → level reduce 1 j cw ch (cut w h cx cy cw ch l)
      ≡ cut (side_at j w) (side_at j h) (cx / 2 ^ j) (cy / 2 ^ j) (cw / 2 ^ j) (ch / 2 ^ j) (level reduce 1 j w h l)
  unfolding level
  cut_level zero k w h cx cy cw ch l le c =
      rw (pow-zero, div-one cx, div-one cy, div-one cw, div-one ch, side-zero w (omega arith), side-zero h (omega arith))
  cut_level (suc j) zero w h cx cy cw ch l le c = absurd (omega arith)
  cut_level (suc j) (suc k) w h cx cy cw ch l le c =
      let x = even k cx c.corner-x in
      let y = even k cy c.corner-y in
      let p = even k cw c.side-w in
      let q = even k ch c.side-h in
      let hw : half cw ≡ cw / 2 = omega arith in
      let hh : half ch ≡ ch / 2 = omega arith in
      rw (
        cut-next w h cx cy cw ch (cx / 2) (cy / 2) (cw / 2) (ch / 2) l x y p q (omega arith) (omega arith) (omega arith) (omega arith),
        hw,
        hh,
        cut_level j k (half w) (half h) (cx / 2) (cy / 2) (cw / 2) (ch / 2) (next reduce 1 w h l) (omega arith) (half-cut c),
        side-half j w,
        side-half j h,
        shr-suc cx j,
        shr-suc cy j,
        shr-suc cw j,
        shr-suc ch j,
      )
