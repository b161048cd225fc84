-- A chain, whoever made it, judged level by level: each given the level before it as it stands there. A verdict is the first wrong
-- texel's place, and none where all follow. Definitions only.
use Rattle.std.specs.Prelude.{◌≡◌, Bool, cond, Option, None, Some, List, ℕ, zero, suc, ◌+◌, ◌-◌, ◌*◌, ◌/◌, ◌%◌, ◌≤◌, ◌<◌, eqb, get_or, take, drop}
use Rattle.rules.specs.declared.Packing.{Packing}
use Rattle.rules.specs.Kinds.{faces_of}
use Rattle.rules.specs.Sizes.{side_at, top, size_at, start}
use Rattle.rules.specs.Levels.{next}
use Rattle.rules.specs.Reducing.{reduce_of}

-- level m as it stands in a chain
unfoldable pub standing : ℕ → ℕ → ℕ → List ℕ → ℕ → List ℕ
standing faces w h l m = take (size_at faces w h m) (drop (start faces w h m) l)

-- the smallest of n places, from i on, that is not right
unfoldable pub first_wrong : (ℕ → Bool) → ℕ → ℕ → Option ℕ
first_wrong right i zero = None
first_wrong right i (suc n) = cond (right i) (first_wrong right (suc i) n) (Some i)

-- the first of two verdicts
abbrev pub first_of : Option ℕ → Option ℕ → Option ℕ
first_of None v = v
first_of (Some i) v = Some i

module _ (reduce : ℕ → ℕ → ℕ → ℕ → ℕ) (faces w h : ℕ) (l : List ℕ) where
  -- the texel that is due at place i of level m + 1: the reduction of its four texels as they stand in level m
  unfoldable pub due : ℕ → ℕ → ℕ
  due m i = get_or (next reduce faces (side_at m w) (side_at m h) (standing faces w h l m)) (i - start faces w h (suc m)) 0

  abbrev pub right_at : ℕ → ℕ → Bool
  right_at m i = eqb (get_or l i 0) (due m i)

  -- a level, given its predecessor: the first wrong texel's place. Level 0 always follows
  unfoldable pub level_verdict : ℕ → Option ℕ
  level_verdict zero = None
  level_verdict (suc m) = first_wrong (right_at m) (start faces w h (suc m)) (size_at faces w h (suc m))

  -- the first of the verdicts of n levels
  unfoldable pub levels_verdict : ℕ → Option ℕ
  levels_verdict zero = None
  levels_verdict (suc n) = first_of (levels_verdict n) (level_verdict n)

  -- place i of level m + 1 has a wrong texel
  pub record Wrong (m i : ℕ) : Type 0 where
    pub from : start faces w h (suc m) ≤ i
    pub before : i < start faces w h (suc (suc m))
    pub differs : get_or l i 0 ≡ due m i → ⊥

-- the place in level m + 1 of the one texel, if any, that is made from the texel at place i of level m
unfoldable pub child : ℕ → ℕ → ℕ → ℕ → ℕ → ℕ
child faces w h m i =
    let k = i - start faces w h m in
    let f = k / side_at m w / side_at m h in
    let x = k % side_at m w in
    let y = k / side_at m w % side_at m h in
    start faces w h (suc m) + ((f * side_at (suc m) h + y / 2) * side_at (suc m) w + x / 2)

-- by kind and packing mode: one level, and the whole chain
unfoldable pub level_verdict_of : ℕ → Packing → ℕ → ℕ → List ℕ → ℕ → Option ℕ
level_verdict_of kind packing = level_verdict (reduce_of kind packing) (faces_of kind)

unfoldable pub chain_verdict_of : ℕ → Packing → ℕ → ℕ → List ℕ → Option ℕ
chain_verdict_of kind packing w h l = levels_verdict (reduce_of kind packing) (faces_of kind) w h l (suc (top w h))
