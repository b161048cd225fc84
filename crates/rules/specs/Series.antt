-- A series of calls of replace_texel. Definitions only.
use Rattle.std.specs.Prelude.{List, [], ◌∷◌, ℕ}
use Rattle.rules.specs.Answers.{ranges_leaves, replace_leaves, replace_ranges_leaves}

-- a picture's texels and the ranges beside them
pub record Beside : Type 0 where
  pub texels : List ℕ
  pub ranges : List ℕ

-- one replacement: the place, and the texel that is put there
pub record Replacement : Type 0 where
  pub x : ℕ
  pub y : ℕ
  pub texel : ℕ

-- after a call of build_ranges
abbrev pub built : ℕ → ℕ → ℕ → Beside → Beside
built kind w h b = record { texels = b.texels; ranges = ranges_leaves kind w h b.texels b.ranges }

-- after a call of replace_texel
abbrev pub after_one : ℕ → ℕ → ℕ → Replacement → Beside → Beside
after_one kind w h r b =
    record {
      texels = replace_leaves kind w h b.texels b.ranges r.x r.y r.texel;
      ranges = replace_ranges_leaves kind w h b.texels b.ranges r.x r.y r.texel;
    }

-- after a list of calls, each on what the one before left
unfoldable pub after_all : ℕ → ℕ → ℕ → List Replacement → Beside → Beside
after_all kind w h [] b = b
after_all kind w h (r ∷ rs) b = after_all kind w h rs (after_one kind w h r b)
