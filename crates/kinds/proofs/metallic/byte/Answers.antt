-- `kinds::metallic::byte` meets its contract: the root of a value in 0 to 1 lies there, so it packs.
use mathlib.Core.Path.{◌≡◌}
use borrow.Author.Rules.{rules}
use Rattle.rules.specs.Floats.{Between, zero32, one32, unpack_of, square_of, mean_of}
use Rattle.rules.specs.Reducing.{rough_byte}
use Rattle.texel.proofs.Unit.{unpack-in, mean-in, product-in}
use Rattle.texel.proofs.RootRule.{widen, root_in}
use Rattle.kinds.proofs.Quads.{by-each}
use Rattle.kinds.proofs.metallic.byte.Goals as goal
use Rattle.kinds.proofs.metallic.byte.Goals.{After-mean}

mean-is : (c : goal.After-mean) → let p = c.args.p in c.mean.result ≡ mean_of (square_of (unpack_of p.p00)) (square_of (unpack_of p.p10)) (square_of (unpack_of p.p01)) (square_of (unpack_of p.p11))
mean-is c = by-each (λ b. square_of (unpack_of b)) mean_of c.map.ensures c.mean.ensures

-- the mean of squares lies in 0 to 1
mean-holds : (c : goal.After-mean) → Between zero32 c.mean.result one32
mean-holds c =
    let p = c.args.p in
    let a = unpack-in p.p00 (search rules) in
    let b = unpack-in p.p10 (search rules) in
    let e = unpack-in p.p01 (search rules) in
    let f = unpack-in p.p11 (search rules) in
    rw (mean-is c)
    (mean-in _ _ _ _ (product-in _ _ a a) (product-in _ _ b b) (product-in _ _ e e) (product-in _ _ f f))

pub sqrt-requires : goal.sqrt-requires
sqrt-requires c = widen (mean-holds c)

pub pack-requires : goal.pack-requires
pack-requires c = rw c.sqrt.ensures (root_in _ (mean-holds (goal.at.pack-requires c).After-mean))

pub returns : goal.returns
unfolding rough_byte
returns c = rw (c.pack.ensures, c.sqrt.ensures, mean-is (goal.at.returns c).After-mean)
