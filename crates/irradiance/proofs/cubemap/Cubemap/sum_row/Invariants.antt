-- `irradiance::cubemap::Cubemap::sum_row` meets its contract. The invariant: the columns that have gone by are summed, and the next part
-- starts at a multiple of 64.
use mathlib.Core.Path.{◌≡◌}
use Prim.Native.Nat.{◌-◌, ◌*◌, ◌<◌}
use lib.ListN.{length}
use Rattle.std.specs.Slice.Iter.{chunks_rest, chunks_size}
use Rattle.std.specs.Iterator.Adapters.{enumerate_source, enumerate_count}
use Rattle.rules.specs.Irradiance.{in_turn}
use Rattle.irradiance.specs.Turns.{row_of, with_column}
use Rattle.irradiance.proofs.Texels.{Left}
use Rattle.irradiance.proofs.cubemap.Cubemap.sum_row.Given as goal

abbrev pub invariant-loop-i : goal.invariant-loop-i
invariant-loop-i l =
    let rest = chunks_rest (enumerate_source l.i-iterator) in
    let k = l.self.width - length rest in
    record {
      size : chunks_size (enumerate_source l.i-iterator) ≡ 64;
      left : Left (row_of l.self l.face l.y) k rest;
      column : (0 < length rest) → 64 * enumerate_count l.i-iterator ≡ k;
      sums : l.sums ≡ in_turn k (with_column l.self l.face l.y) l.initial.sums;
    }
