-- `kinds::linear::byte` meets its contract: the mean of four values in 0 to 1 lies there, so it packs.
use borrow.Author.Rules.{rules}
use Rattle.rules.specs.Floats.{unpack_of, mean_of}
use Rattle.rules.specs.Reducing.{mean_byte}
use Rattle.texel.proofs.Unit.{unpacked-in, mean-in}
use Rattle.kinds.proofs.Quads.{by-each}
use Rattle.kinds.proofs.linear.byte.Goals as goal

pub pack-requires : goal.pack-requires
pack-requires c =
    let p = c.map.ensures in
    rw c.mean.ensures
    (mean-in _ _ _ _
    (unpacked-in p.first (search rules))
    (unpacked-in p.second (search rules))
    (unpacked-in p.third (search rules))
    (unpacked-in p.fourth (search rules)))

pub returns : goal.returns
unfolding mean_byte
returns c = rw (c.pack.ensures, by-each unpack_of mean_of c.map.ensures c.mean.ensures)
