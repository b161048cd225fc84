-- `ranges::level0::Level0::tile_range` meets its contract: the cut of order 0 is not refused, and leaves the tile in front.
use mathlib.Core.Path.{refl, sym, subst}
use mathlib.Core.List.{List}
use Prim.Native.Nat.{ℕ, ◌*◌, ◌≤◌}
use lib.ListN.{length}
use lib.Seq.{length-take-le}
use Rattle.rules.proofs.Building.{tile-small, tile-cut}
use Rattle.ranges.specs.Scans.{RangeIs}
use Rattle.ranges.proofs.level0.Level0.tile_range.Goals as goal
use Rattle.ranges.proofs.level0.Level0.tile_range.Goals.{After-cut}

fits : (c : goal.After-cut) → c.tile_side-2.result * c.tile_side.result ≤ length c.cut.new.target
fits c = rw (c.tile_side-2.ensures, c.tile_side.ensures, c.cut.auto.target) (tile-small c.args.self.flat c.requires)

pub slice_bounds-part-end : goal.slice_bounds-part-end
slice_bounds-part-end c = fits (goal.at.slice_bounds-part-end c).After-cut

pub slice_bounds-scan-end : goal.slice_bounds-scan-end
slice_bounds-scan-end c = sym (length-take-le _ c.cut.new.target (fits (goal.at.slice_bounds-scan-end c).After-cut))

pub returns : goal.returns
returns c =
    subst (λ (t : List ℕ). RangeIs t c.scan.result)
    (tile-cut _ _ _ c.args.self.flat c.requires refl c.tile_side.ensures c.tile_side-2.ensures c.cut.ensures.leaves)
    c.scan.ensures
