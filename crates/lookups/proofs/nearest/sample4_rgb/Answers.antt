-- `lookups::nearest::sample4_rgb` meets its contract: each place is one of the texels that are lent, and the answer is made of them.
use mathlib.Core.Path.{ap, ◌∙◌}
use Rattle.std.specs.Prelude.{Ok}
use Rattle.lookups.proofs.Answering.{sample4-found, sample4-inside, sample4-rgb-read}
use Rattle.lookups.proofs.nearest.sample4_rgb.Goals as goal

pub rgb_four-requires : goal.rgb_four-requires
rgb_four-requires c = let given = c.in_ok-picture.ensures in sample4-inside _ _ _ _ _ _ _ _ (sample4-found _ _ _ _ _ _ _ _ given.is given.told c.in_ok-at.ensures)

pub returns : goal.returns
returns c =
    let given = c.in_ok-picture.ensures in
    record { answer = ap Ok c.rgb_four.ensures ∙ sample4-rgb-read _ _ _ _ _ _ _ _ (sample4-found _ _ _ _ _ _ _ _ given.is given.told c.in_ok-at.ensures) }
