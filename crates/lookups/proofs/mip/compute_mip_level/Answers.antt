-- `lookups::mip::compute_mip_level` meets its contract.
use mathlib.Core.Path.{sym}
use Rattle.rules.proofs.Refusing.{sides-facts}
use Rattle.rules.proofs.Answering.{told_none}
use Rattle.lookups.proofs.mip.compute_mip_level.Goals as goal

pub invariant_of-width : goal.invariant_of-width
invariant_of-width c = let s = sides-facts _ _ (told_none _ (sym c.in_ok-check_sides.ensures)) in record { is = (s.some-w, s.most-w) }

pub invariant_of-height : goal.invariant_of-height
invariant_of-height c = let s = sides-facts _ _ (told_none _ (sym c.in_ok-check_sides.ensures)) in record { is = (s.some-h, s.most-h) }
