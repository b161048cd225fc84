-- Document 01's reference list as one table: a row for each thing that it says, with the item's number, what is asked of the rules
-- and what 01 answers; and what document 02 says of an item in nearest mode. `Holds table` is the one claim about it. Definitions only.
use Rattle.std.specs.Prelude.{◌≡◌, List, [], ◌∷◌, map, Result, Ok, ℕ, pos, negsuc, Float}
use Rattle.std.specs.Float.{binary32}
use Rattle.std.specs.Float.Ieee.{of_bits}
use Rattle.rules.specs.declared.LevelSizes.{LevelSizes}
use Rattle.rules.specs.declared.Refusal.{Refusal}
use Rattle.rules.specs.Lanes.{Lanes, Directions, Spots}
use Rattle.rules.specs.Kinds.{srgb, normal, metallic_roughness, cubemap, linear}
use Rattle.rules.specs.Floats.{zero32, half32, one32, minus1}
use Rattle.rules.specs.Wrapping.{mode_of, wrap_of}
use Rattle.rules.specs.Answers.{refused, level_sizes_answer, chain_leaves, mip_level_answer, facing_answer, sample4_rgb_answer}

-- a row: the item's number, what is asked, what is answered
pub record Row : Type 1 where
  pub item : ℕ
  pub Kind : Type 0
  pub asked : Kind
  pub answered : Kind

abbrev pub row : ℕ → {A : Type 0} → A → A → Row
row n {A} q a = record { item = n; Kind = A; asked = q; answered = a }

-- every row's question has its answer
abbrev pub Holds : List Row → Type 0
Holds [] = Unit {0}
Holds (r ∷ rs) = (r.asked ≡ r.answered) × Holds rs

-- ---- how the rows ask

-- sizes do not look at the kind, but for the cubemap's six faces
abbrev sizes : ℕ → ℕ → ℕ → Result LevelSizes Refusal
sizes w h m = level_sizes_answer linear w h m

-- where a level starts, its sides, and the chain's texel count
abbrev level : ℕ → ℕ → ℕ → ℕ → Result LevelSizes Refusal
level start w h total = Ok record { start = start; width = w; height = h; total = total }

-- the packing modes: 01's items are those of truncating
abbrev truncating : ℕ
truncating = 0

abbrev nearest : ℕ
nearest = 1

-- what a buffer of three holds after the chain call: two texels side by side, and the level made of them
abbrev pair : ℕ → ℕ → ℕ → ℕ → List ℕ
pair kind mode p q = chain_leaves kind 2 1 mode (p ∷ q ∷ 0 ∷ [])

-- the texel numbers of item 9, wrapped into a side of 4 by a code
abbrev wraps : ℕ → List ℕ
wraps code = map (λ t. wrap_of (mode_of code) t 4) (negsuc 0 ∷ pos 4 ∷ pos 5 ∷ pos 8 ∷ [])

-- f32 numbers by their bit patterns, and one number in all four lanes
abbrev bits : ℕ → Float
bits b = of_bits binary32 b

abbrev every : Float → Lanes
every x = record { a = x; b = x; c = x; d = x }

abbrev steps : Float → Float → Float → Float → Lanes
steps a b c d = record { a = a; b = b; c = c; d = d }

-- 1/16, 3/4, 2.0 and -0.0
abbrev sixteenth : Float
sixteenth = bits 0x3d800000

abbrev three_quarters : Float
three_quarters = bits 0x3f400000

abbrev two : Float
two = bits 0x40000000

abbrev minus0 : Float
minus0 = bits 0x80000000

-- one direction in all four lanes
abbrev facing : Float → Float → Float → Result Spots Refusal
facing x y z = facing_answer (record { x = every x; y = every y; z = every z })

abbrev on : ℕ → Float → Float → Result Spots Refusal
on face u v = Ok record { face = record { a = face; b = face; c = face; d = face }; u = every u; v = every v }

-- the green picture of one texel, looked up at (u, v)
abbrev lookup : Float → Float → Result Directions Refusal
lookup u v = sample4_rgb_answer linear 1 1 (0x00FF00FF ∷ []) (record { wrap_s = 10497; wrap_t = 10497 }) (every u) (every v) (every zero32)

abbrev green : Result Directions Refusal
green = Ok record { x = every zero32; y = every one32; z = every zero32 }

-- ---- the table

abbrev pub table : List Row
table =
    -- 5 by 3: levels 5x3, 2x1, 1x1 at 0, 15, 17; 18 texels. 1 by 1: one level
    row 1 (sizes 5 3 0) (level 0 5 3 18)
    ∷ row 1 (sizes 5 3 1) (level 15 2 1 18)
    ∷ row 1 (sizes 5 3 2) (level 17 1 1 18)
    ∷ row 1 (sizes 5 3 3) (refused 6)
    ∷ row 1 (sizes 1 1 0) (level 0 1 1 1)
    ∷ row 1 (sizes 1 1 1) (refused 6)
    -- 3 by 1: 3x1, 1x1; the third column takes no part
    ∷ row 2 (sizes 3 1 0) (level 0 3 1 4)
    ∷ row 2 (sizes 3 1 1) (level 3 1 1 4)
    ∷ row 2 (sizes 3 1 2) (refused 6)
    ∷ row 2 {A = ℕ → List ℕ} (λ third. chain_leaves linear 3 1 truncating (0x00FF00FF ∷ 0xFF0000FF ∷ third ∷ 0 ∷ [])) (λ third. 0x00FF00FF ∷ 0xFF0000FF ∷ third ∷ 0x7F7F00FF ∷ [])
    -- 4096 by 1: 13 levels, 8,191 texels. 4097: refusal 2
    ∷ row 3 (sizes 4096 1 12) (level 8190 1 1 8191)
    ∷ row 3 (sizes 4096 1 13) (refused 6)
    ∷ row 3 (sizes 4097 1 0) (refused 2)
    -- Cubemap 2 by 2: levels at 0 and 24; 30 texels
    ∷ row 4 (level_sizes_answer cubemap 2 2 0) (level 0 2 2 30)
    ∷ row 4 (level_sizes_answer cubemap 2 2 1) (level 24 1 1 30)
    ∷ row 4 (level_sizes_answer cubemap 2 2 2) (refused 6)
    -- Linear 00FF00FF, FF0000FF side by side: 7F7F00FF, nearest 808000FF
    ∷ row 5 (pair linear truncating 0x00FF00FF 0xFF0000FF) (0x00FF00FF ∷ 0xFF0000FF ∷ 0x7F7F00FF ∷ [])
    ∷ row 5 (pair linear nearest 0x00FF00FF 0xFF0000FF) (0x00FF00FF ∷ 0xFF0000FF ∷ 0x808000FF ∷ [])
    -- Normal 01FF80FF twice: 00FF80FF, nearest 01FF80FF
    ∷ row 6 (pair normal truncating 0x01FF80FF 0x01FF80FF) (0x01FF80FF ∷ 0x01FF80FF ∷ 0x00FF80FF ∷ [])
    ∷ row 6 (pair normal nearest 0x01FF80FF 0x01FF80FF) (0x01FF80FF ∷ 0x01FF80FF ∷ 0x01FF80FF ∷ [])
    -- MetallicRoughness 11FF0022, 3300FF44: 11B47F22, nearest 11B48022
    ∷ row 7 (pair metallic_roughness truncating 0x11FF0022 0x3300FF44) (0x11FF0022 ∷ 0x3300FF44 ∷ 0x11B47F22 ∷ [])
    ∷ row 7 (pair metallic_roughness nearest 0x11FF0022 0x3300FF44) (0x11FF0022 ∷ 0x3300FF44 ∷ 0x11B48022 ∷ [])
    -- SRGB FF0000FF, 000000FF: BB0000FF, in nearest mode too
    ∷ row 8 (pair srgb truncating 0xFF0000FF 0x000000FF) (0xFF0000FF ∷ 0x000000FF ∷ 0xBB0000FF ∷ [])
    ∷ row 8 (pair srgb nearest 0xFF0000FF 0x000000FF) (0xFF0000FF ∷ 0x000000FF ∷ 0xBB0000FF ∷ [])
    -- side 4, t = -1, 4, 5, 8: Repeat 3 0 1 0; Clamp 0 3 3 3; Mirrored 1 3 3 0
    ∷ row 9 (wraps 10497) (3 ∷ 0 ∷ 1 ∷ 0 ∷ [])
    ∷ row 9 (wraps 33071) (0 ∷ 3 ∷ 3 ∷ 3 ∷ [])
    ∷ row 9 (wraps 33648) (1 ∷ 3 ∷ 3 ∷ 0 ∷ [])
    -- 64 by 64, steps (1/16, 0, 0, 1/16): level 2; (1/16, 0, 0, 0): level 1; all zero: 0
    ∷ row 10 (mip_level_answer 64 64 (steps sixteenth zero32 zero32 sixteenth)) (Ok 2)
    ∷ row 10 (mip_level_answer 64 64 (steps sixteenth zero32 zero32 zero32)) (Ok 1)
    ∷ row 10 (mip_level_answer 64 64 (every zero32)) (Ok 0)
    -- (1,1,1): face 0, (0, 0). (0,2,1): face 2, (0.5, 0.75). (-0,0,-1): face 5, (0.5, 0.5). (0,0,0): refusal 7
    ∷ row 11 (facing one32 one32 one32) (on 0 zero32 zero32)
    ∷ row 11 (facing zero32 two one32) (on 2 half32 three_quarters)
    ∷ row 11 (facing minus0 zero32 minus1) (on 5 half32 half32)
    ∷ row 11 (facing zero32 zero32 zero32) (refused 7)
    -- coordinate 2048 is taken; the next f32 above is refusal 5
    ∷ row 12 (lookup (bits 0x45000000) (bits 0x45000000)) green
    ∷ row 12 (lookup (bits 0x45000001) zero32) (refused 5)
    ∷ row 12 (lookup zero32 (bits 0x45000001)) (refused 5)
    ∷ []
