-- `reduce::check_row::check_pairs` meets its contract. The invariant: the parts so far stand there, and the rest is left.
use mathlib.Core.Path.{◌≡◌}
use Prim.Native.Nat.{◌*◌, min}
use lib.ListN.{length, drop}
use Rattle.std.specs.Iterator.Adapters.{enumerate_source, enumerate_count}
use Rattle.std.specs.Slice.Iter.{chunks_rest, chunks_size}
use Rattle.kinds.specs.Runs.{pairs_of}
use Rattle.kinds.proofs.Runs.{Over}
use Rattle.reduce.proofs.check_row.check_pairs.Given as goal

abbrev pub invariant-loop-i : goal.invariant-loop-i
invariant-loop-i g l =
    let n = enumerate_count l.i-iterator in
    record {
      size : chunks_size (enumerate_source l.i-iterator) ≡ 64;
      left : chunks_rest (enumerate_source l.i-iterator) ≡ drop (64 * n) l.standing.texels.now;
      run : Over 0 l.standing.texels.now (min (64 * n) (length l.standing.texels.now)) (pairs_of (g.R.Reduce.rule l.rule) l.standing.above) l.standing.texels.now;
    }
