-- The turns that sum a cubemap, row by row and part by part. Definitions only.
use Rattle.std.specs.Prelude.{List, ℕ, zero, suc, ◌+◌, ◌-◌, ◌*◌, length, get_or, take, drop}
use Rattle.rules.specs.Irradiance.{Sh4}
use Rattle.rules.specs.Irradiance.{omega_of, centre_of, place_basis, decoded_of, all_get, in_turn, with_texel}
use Rattle.irradiance.specs.declared.cubemap.Cubemap.{Cubemap}

-- the texels of row y of face f
abbrev pub row_of : Cubemap → ℕ → ℕ → List ℕ
row_of c f y = take c.width (drop ((f * c.height + y) * c.width) c.texels.now)

-- the sums with the texel of column x in row y of face f
abbrev pub with_column : Cubemap → ℕ → ℕ → ℕ → Sh4 → Sh4
with_column c f y = with_texel c.width c.height c.texels.now f y

-- and with the whole row
abbrev pub with_row : Cubemap → ℕ → ℕ → Sh4 → Sh4
with_row c f y = in_turn c.width (with_column c f y)

-- step from, step (from + 1), …: n of them, one after the other
unfoldable pub in_turn_from : {A : Type 0} → ℕ → ℕ → (ℕ → A → A) → A → A
in_turn_from from zero step s = s
in_turn_from from (suc n) step s = step (from + n) (in_turn_from from n step s)

-- the sums with the texel t as that of column x in row y of face f
unfoldable pub with_given : Cubemap → ℕ → ℕ → ℕ → ℕ → Sh4 → Sh4
with_given c f y x t = all_get (decoded_of t) (place_basis (omega_of c.width c.height) f (centre_of c.width x) (centre_of c.height y))

-- and with a part of the row, whose texels are l, from the column `from` on
abbrev pub with_part : Cubemap → ℕ → ℕ → ℕ → List ℕ → Sh4 → Sh4
with_part c f y from l = in_turn_from from (length l) (λ x. with_given c f y x (get_or l (x - from) 0))
