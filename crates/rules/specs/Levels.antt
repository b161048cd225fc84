-- Levels as flat lists of texels, as a lent buffer holds them. Definitions only.
-- A level of `faces` faces, each of sides w by h and row by row, has texel (x, y) of face f at (f * h + y) * w + x: the
-- faces stand below each other, as if they were one picture of faces * h rows.
use Rattle.std.specs.Prelude.{ℕ, zero, suc, ◌+◌, ◌-◌, ◌*◌, ◌/◌, ◌%◌, min, List, [], ◌∷◌, ◌++◌, get_or, take, drop}
use Rattle.rules.specs.Sizes.{half, start}

-- f 0, f 1, …: n of them
unfoldable pub tab : ℕ → (ℕ → ℕ) → List ℕ
tab zero f = []
tab (suc n) f = f zero ∷ tab n (λ k. f (suc k))

-- the list whose texel (x, y) of face f is g f x y
unfoldable pub grid : ℕ → ℕ → ℕ → (ℕ → ℕ → ℕ → ℕ) → List ℕ
grid faces w h g = tab (faces * h * w) (λ i. g (i / w / h) (i % w) (i / w % h))

-- texel (x, y) of face f
unfoldable pub texel : ℕ → ℕ → List ℕ → ℕ → ℕ → ℕ → ℕ
texel w h l f x y = get_or l ((f * h + y) * w + x) 0

module _ (reduce : ℕ → ℕ → ℕ → ℕ → ℕ) where
  -- the texel that takes the place of p00, p10, p01, p11: x0 = 2x, y0 = 2y, x1 = min(x0 + 1, previous width - 1), y1 likewise
  unfoldable pub quad : ℕ → ℕ → List ℕ → ℕ → ℕ → ℕ → ℕ
  quad w h l f x y =
      let x₁ = min (2 * x + 1) (w - 1) in
      let y₁ = min (2 * y + 1) (h - 1) in
      reduce (texel w h l f (2 * x) (2 * y)) (texel w h l f x₁ (2 * y)) (texel w h l f (2 * x) y₁) (texel w h l f x₁ y₁)

  module _ (faces : ℕ) where
    -- the level after a level l of sides w and h
    unfoldable pub next : ℕ → ℕ → List ℕ → List ℕ
    next w h l = grid faces (half w) (half h) (quad w h l)

    -- level m of the picture whose level 0 is l: each level is made from the one before
    unfoldable pub level : ℕ → ℕ → ℕ → List ℕ → List ℕ
    level zero w h l = l
    level (suc m) w h l = level m (half w) (half h) (next w h l)

    -- n levels, one after the other without gaps, the number of levels left falling by one
    unfoldable pub chain : ℕ → ℕ → ℕ → List ℕ → List ℕ
    chain zero w h l = []
    chain (suc n) w h l = l ++ chain n (half w) (half h) (next w h l)

    -- what a lent buffer holds after n levels are made, the first of them already in it: entries past them stay as found
    unfoldable pub filled : ℕ → ℕ → ℕ → List ℕ → List ℕ
    filled n w h buf = chain n w h (take (faces * h * w) buf) ++ drop (start faces w h n) buf
