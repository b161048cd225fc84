-- `ranges::build::write_tiles` meets its contract. The invariant: n tiles are written.
use Rattle.rules.proofs.Building.{Built}
use Rattle.ranges.proofs.build.write_tiles.Given as goal

abbrev pub invariant-loop-n : goal.invariant-loop-n
invariant-loop-n l = Built l.level.width l.level.height l.level.texels.now l.initial.ranges l.ranges l.n
