-- Sides, level numbers, and where each level starts. Definitions only.
-- `faces` is 6 for a cubemap and 1 for every other kind.
use Rattle.std.specs.Prelude.{ℕ, zero, suc, ◌+◌, ◌*◌, ◌/◌, ◌^◌, max, cond, ltb}

-- a side at level m: shifted right by m, and at least 1
unfoldable pub side_at : ℕ → ℕ → ℕ
side_at m s = max 1 (s / 2 ^ m)

-- the next level's side: `side_at 1`, as code works it out
abbrev pub half : ℕ → ℕ
half s = max 1 (s / 2)

-- floor(log2 n), and 0 at 0: how often n can be halved before it is below 2. The first argument bounds the halvings.
unfoldable pub halvings : ℕ → ℕ → ℕ
halvings zero n = 0
halvings (suc k) n = cond (ltb n 2) 0 (suc (halvings k (n / 2)))

unfoldable pub log2 : ℕ → ℕ
unfolding halvings
log2 n = halvings n n

-- the top level: levels number 1 + floor(log2(larger side))
unfoldable pub top : ℕ → ℕ → ℕ
top w h = log2 (max w h)

-- the texels of level m
unfoldable pub size_at : ℕ → ℕ → ℕ → ℕ → ℕ
size_at faces w h m = faces * side_at m h * side_at m w

-- where level m starts: levels follow each other without gaps
unfoldable pub start : ℕ → ℕ → ℕ → ℕ → ℕ
start faces w h zero = 0
start faces w h (suc m) = start faces w h m + size_at faces w h m

-- the whole chain's texels
unfoldable pub count : ℕ → ℕ → ℕ → ℕ
count faces w h = start faces w h (suc (top w h))
