-- A coordinate is taken exactly where it lies in -2,048 to 2,048, which is two comparisons: a NaN fails both, an infinity one.
-- Assumes nothing.
use mathlib.Core.Path.{◌≡◌, refl, sym, ◌∙◌, subst}
use mathlib.Core.Bool.{true, false, ◌&&◌}
use lib.IntN.{pos}
use lib.Dec.{T}
use lib.Ieee.{Float, nan, inf, fin, neg, le, lt, eq}
use lib.Ieee.Fits.{and_i, and_l, and_r}
use Rattle.rules.specs.Floats.{Between, magnitude}
use Rattle.rules.specs.Refusals.{high11, coordinate_taken}
use Rattle.places.proofs.Magnitudes.{same_test, le_not, sized, within, magnitude-le}

-- -2,048
abbrev pub low11 : Float
low11 = fin true 1 (pos 11)

pub coordinate-words : (u : Float) → (le low11 u && le u high11) ≡ coordinate_taken u
unfolding coordinate_taken neg
coordinate-words nan = unfold le lt eq in refl
coordinate-words (inf true) = unfold le lt eq in refl
coordinate-words (inf false) = unfold le lt eq in refl
coordinate-words (fin s m e) =
    let u = fin s m e in
    let k = sized u tt in
    same_test (le low11 u && le u high11) (le (magnitude u) high11)
    (λ t. magnitude-le u high11 (record { low = and_l (le low11 u) (le u high11) t; high = and_r (le low11 u) (le u high11) t }))
    (λ t. let b = within u (magnitude u) high11 tt k t in and_i (le low11 u) (le u high11) b.low b.high)
    ∙ le_not (magnitude u) high11 k.size tt

pub taken_in : (u : Float) → T (coordinate_taken u) → Between low11 u high11
taken_in u t =
    let k = subst T (sym (coordinate-words u)) t in
    record { low = and_l (le low11 u) (le u high11) k; high = and_r (le low11 u) (le u high11) k }
