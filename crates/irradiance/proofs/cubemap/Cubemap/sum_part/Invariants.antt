-- `irradiance::cubemap::Cubemap::sum_part` meets its contract. The invariant: the texels that have gone by are added, and as many places and
-- guesses are left as texels.
use mathlib.Core.Path.{◌≡◌}
use Prim.Native.Nat.{◌+◌, ◌-◌}
use lib.ListN.{length, get_or}
use Rattle.std.specs.Slice.Iter.{iter_rest}
use Rattle.std.specs.Iterator.Adapters.{zip_first, zip_second}
use Rattle.rules.specs.Irradiance.{centre_of}
use Rattle.irradiance.specs.Holding.{Placed}
use Rattle.irradiance.specs.Turns.{in_turn_from, with_given}
use Rattle.irradiance.proofs.Texels.{Left}
use Rattle.irradiance.proofs.cubemap.Cubemap.sum_part.Given as goal

abbrev pub invariant-loop-texel : goal.invariant-loop-texel
invariant-loop-texel l =
    let texels = iter_rest (zip_first (zip_first l.texel-iterator)) in
    let us = iter_rest (zip_second (zip_first l.texel-iterator)) in
    let k = length l.texels - length texels in
    record {
      left : Left l.texels k texels;
      places : Placed (λ j. centre_of l.self.width (l.from + (k + j))) us;
      as_many : (length us ≡ length texels) × (length (iter_rest (zip_second l.texel-iterator)) ≡ length texels);
      sums : l.sums ≡ in_turn_from l.from k (λ x. with_given l.self l.face l.y x (get_or l.texels (x - l.from) 0)) l.initial.sums;
    }
