-- `kinds::normal::byte` meets its contract: the value back from -1 to 1 lies in 0 to 1, so it packs.
use mathlib.Core.Path.{◌≡◌}
use borrow.Author.Rules.{rules}
use Rattle.rules.specs.Floats.{unpack_of, mean_of}
use Rattle.rules.specs.Reducing.{spread_of, normal_byte}
use Rattle.texel.proofs.Unit.{unpack-in, normal-in}
use Rattle.kinds.proofs.Quads.{by-each}
use Rattle.kinds.proofs.normal.byte.Goals as goal
use Rattle.kinds.proofs.normal.byte.Goals.{After-mean}

mean-is : (c : goal.After-mean) → let p = c.args.p in c.mean.result ≡ mean_of (spread_of (unpack_of p.p00)) (spread_of (unpack_of p.p10)) (spread_of (unpack_of p.p01)) (spread_of (unpack_of p.p11))
mean-is c = by-each (λ b. spread_of (unpack_of b)) mean_of c.map.ensures c.mean.ensures

pub pack-requires : goal.pack-requires
pack-requires c =
    let p = c.args.p in
    rw (mean-is (goal.at.pack-requires c).After-mean)
    (normal-in _ _ _ _ (unpack-in p.p00 (search rules)) (unpack-in p.p10 (search rules)) (unpack-in p.p01 (search rules)) (unpack-in p.p11 (search rules)))

pub returns : goal.returns
unfolding normal_byte
returns c = rw (c.pack.ensures, mean-is (goal.at.returns c).After-mean)
