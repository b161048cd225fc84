-- `ranges::level0::Level0::new` makes a level 0: past the tests nothing is refused.
use mathlib.Core.Path.{sym}
use lib.ListN.{length}
use Rattle.rules.proofs.Answering.{told_none}
use Rattle.rules.proofs.RefusingRanges.{Ranged, ranges-facts}
use Rattle.rules.proofs.Building.{flat-of}
use Rattle.ranges.proofs.level0.Level0.new.Goals as goal
use Rattle.ranges.proofs.level0.Level0.new.Goals.{In_ok-check_ranges}

known : (c : goal.In_ok-check_ranges)
    → let a = c.args in
    Ranged a.kind a.width a.height (length a.texels.now) (length a.ranges.now)
known c = ranges-facts _ _ _ _ _ (told_none _ (sym c.in_ok-check_ranges.ensures))

pub invariant_of-result : goal.invariant_of-result
invariant_of-result c = record { flat = flat-of (known (goal.at.invariant_of-result c).In_ok-check_ranges) }

pub returns-clause-room : goal.returns-clause-room
returns-clause-room c = (known (goal.at.returns-clause-room c).In_ok-check_ranges).room
