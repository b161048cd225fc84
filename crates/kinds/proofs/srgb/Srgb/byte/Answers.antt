-- `kinds::srgb::Srgb::byte` meets its contract: the mean of T values lies in 0 to 1, where the inverse is given.
use mathlib.Core.Path.{◌≡◌, ◌∙◌}
use borrow.Author.Rules.{rules}
use Rattle.rules.specs.Floats.{Between, zero32, one32, mean_of}
use Rattle.rules.specs.Curve.{curve}
use Rattle.rules.specs.Reducing.{srgb_byte}
use Rattle.texel.proofs.Unit.{mean-in}
use Rattle.texel.proofs.Inverse.{curve-in}
use Rattle.kinds.proofs.srgb.Srgb.byte.Goals as goal
use Rattle.kinds.proofs.srgb.Srgb.byte.Goals.{After-mean-m}

-- the mean is that of T's values
mean-is : (c : goal.After-mean-m) → let p = c.args.p in c.mean-m.result ≡ mean_of (curve p.p00) (curve p.p10) (curve p.p01) (curve p.p11)
mean-is c =
    let t = c.map.ensures in
    let p = c.args.p in
    let r = c.map.result in
    let a : r.p00 ≡ curve p.p00 = search rules in
    let b : r.p10 ≡ curve p.p10 = search rules in
    let d : r.p01 ≡ curve p.p01 = search rules in
    let e : r.p11 ≡ curve p.p11 = search rules in
    c.mean-m.ensures ∙ rw (a, b, d, e)

-- so it lies in 0 to 1
mean-holds : (c : goal.After-mean-m) → Between zero32 c.mean-m.result one32
mean-holds c =
    let p = c.args.p in
    rw (mean-is c)
    (mean-in _ _ _ _ (curve-in p.p00 (search rules)) (curve-in p.p10 (search rules)) (curve-in p.p01 (search rules)) (curve-in p.p11 (search rules)))

pub encode-requires : goal.encode-requires
encode-requires c = let m = mean-holds c in search rules

pub returns : goal.returns
unfolding srgb_byte
returns c = c.encode.ensures ∙ rw (mean-is (goal.at.returns c).After-mean-m)
