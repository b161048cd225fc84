-- The level itself, as part of the caller's texels; of a cubemap one face of it. Definitions only.
use Rattle.std.specs.Prelude.{List, ℕ, ◌+◌, ◌*◌, take, drop}
use Rattle.rules.specs.Sizes.{side_at, start}

-- where face f of level m starts
unfoldable pub face_start : ℕ → ℕ → ℕ → ℕ → ℕ → ℕ
face_start faces w h m f = start faces w h m + f * (side_at m h * side_at m w)

-- face f of level m
unfoldable pub face_view : ℕ → ℕ → ℕ → ℕ → ℕ → List ℕ → List ℕ
unfolding face_start
face_view faces w h m f l = take (side_at m h * side_at m w) (drop (face_start faces w h m f) l)
