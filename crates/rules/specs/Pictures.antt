-- What a picture of a kind is, and by a packing mode its levels and its chain. Definitions only.
use Rattle.std.specs.Prelude.{◌≡◌, List, ℕ, suc, ◌*◌, ◌≤◌, ◌<◌, length}
use Rattle.rules.specs.declared.Packing.{Packing}
use Rattle.rules.specs.Kinds.{faces_of}
use Rattle.rules.specs.Sizes.{top}
use Rattle.rules.specs.Levels.{level, chain, filled}
use Rattle.rules.specs.Reducing.{reduce_of}

-- level 0 of a picture that no call refuses: sides 1 to 4,096
pub record Picture (kind w h : ℕ) (l : List ℕ) : Type 0 where
  pub known : kind ≤ 4
  pub some-w : 0 < w
  pub some-h : 0 < h
  pub most-w : w ≤ 4096
  pub most-h : h ≤ 4096
  pub whole : length l ≡ faces_of kind * h * w

-- level m of the picture whose level 0 is l
unfoldable pub level_of : ℕ → Packing → ℕ → ℕ → ℕ → List ℕ → List ℕ
level_of kind packing = level (reduce_of kind packing) (faces_of kind)

-- all its levels, one after the other
unfoldable pub chain_of : ℕ → Packing → ℕ → ℕ → List ℕ → List ℕ
chain_of kind packing w h = chain (reduce_of kind packing) (faces_of kind) (suc (top w h)) w h

-- what a lent buffer holds once its chain is filled
unfoldable pub filled_of : ℕ → Packing → ℕ → ℕ → List ℕ → List ℕ
filled_of kind packing w h = filled (reduce_of kind packing) (faces_of kind) (suc (top w h)) w h
