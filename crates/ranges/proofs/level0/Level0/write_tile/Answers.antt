-- `ranges::level0::Level0::write_tile` meets its contract: the eight bytes of the tile's scan are its range.
use native.Mathlib.Omega.{arith}
use Prim.Native.Nat.{◌+◌, ◌*◌, ◌≤◌}
use lib.ListN.{length}
use Rattle.rules.specs.Ranges.{range_start}
use Rattle.rules.proofs.Tiles.{tile-room}
use Rattle.ranges.proofs.Scanning.{range-stored}
use Rattle.ranges.proofs.level0.Level0.write_tile.Goals as goal
use Rattle.ranges.proofs.level0.Level0.write_tile.Goals.{After-tiles}

room : (c : goal.After-tiles) → 8 * (c.args.j * c.tiles.result + c.args.i) + 8 ≤ length c.args.ranges.now
unfolding range_start
room c = rw c.tiles.ensures (omega (arith, tile-room c.requires.tile_at, c.requires.room))

pub slice_bounds-copy_from_slice-end : goal.slice_bounds-copy_from_slice-end
slice_bounds-copy_from_slice-end c = room c

pub returns : goal.returns
unfolding range_start
returns c =
    range-stored _ _ _ _ _ c.tile_range-range.ensures (rw c.copy_from_slice.ensures.after c.bytes.ensures) (omega arith) (rw c.tiles.ensures) (room (goal.at.returns c).After-tiles)
