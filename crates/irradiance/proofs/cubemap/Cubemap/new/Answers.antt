-- `irradiance::cubemap::Cubemap::new` makes a cubemap: past the tests nothing is refused.
use mathlib.Core.Path.{sym}
use Rattle.rules.proofs.RefusingIrradiance.{light-facts}
use Rattle.rules.proofs.Answering.{told_none}
use Rattle.irradiance.proofs.cubemap.Cubemap.new.Goals as goal

pub invariant_of-result : goal.invariant_of-result
invariant_of-result c = record { cubed = light-facts _ _ _ _ (told_none _ (sym c.in_ok-check_irradiance.ensures)) }
