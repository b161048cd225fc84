-- The aligned cut of a picture that is no cubemap. Definitions only.
use Rattle.std.specs.Prelude.{◌≡◌, Bool, ◌&&◌, List, ℕ, ◌+◌, ◌%◌, ◌/◌, ◌^◌, ◌≤◌, ◌<◌, leb, ltb, eqb}
use Rattle.rules.specs.Sizes.{side_at}
use Rattle.rules.specs.Levels.{grid, texel}

-- texel (x, y) of a cut is the texel at (corner x + x, corner y + y) of the level that it is cut from
unfoldable pub cut : ℕ → ℕ → ℕ → ℕ → ℕ → ℕ → List ℕ → List ℕ
cut w h cx cy cw ch l = grid 1 cw ch (λ f x y. texel w h l f (cx + x) (cy + y))

-- the matching cut of level j, which has sides w and h at level 0: corner and sides divided by 2^j
unfoldable pub matching_cut : ℕ → ℕ → ℕ → ℕ → ℕ → ℕ → ℕ → List ℕ → List ℕ
matching_cut j w h cx cy cw ch l = cut (side_at j w) (side_at j h) (cx / 2 ^ j) (cy / 2 ^ j) (cw / 2 ^ j) (ch / 2 ^ j) l

-- a multiple of 2^k
abbrev pub aligned : ℕ → ℕ → Bool
aligned k n = eqb (n % 2 ^ k) 0

-- the cuts that are taken: order k up to 12, no side 0, corner and sides multiples of 2^k, wholly inside
unfoldable pub cut_taken : ℕ → ℕ → ℕ → ℕ → ℕ → ℕ → ℕ → Bool
cut_taken k w h cx cy cw ch =
    leb k 12 && (ltb 0 cw && (ltb 0 ch
    && (aligned k cx && (aligned k cy && (aligned k cw && (aligned k ch
    && (leb (cx + cw) w && leb (cy + ch) h)))))))

-- the same as facts
pub record CutAt (k w h cx cy cw ch : ℕ) : Type 0 where
  pub corner-x : cx % 2 ^ k ≡ 0
  pub corner-y : cy % 2 ^ k ≡ 0
  pub side-w : cw % 2 ^ k ≡ 0
  pub side-h : ch % 2 ^ k ≡ 0
  pub some-w : 0 < cw
  pub some-h : 0 < ch
  pub inside-w : cx + cw ≤ w
  pub inside-h : cy + ch ≤ h
