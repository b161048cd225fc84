use native.Mathlib.Omega.{arith}
use native.Mathlib.Numerals.{add-one}
use mathlib.Core.Path.{◌≡◌, ◌∙◌}
use Prim.Native.Nat.{suc}
use Rattle.rules.specs.Kinds.{code_of}
use Rattle.rules.specs.Sizes.{top}
use Rattle.rules.proofs.Bounds.{top-most}
use Rattle.txr.specs.Listing.{level_lines}
use Rattle.txr.proofs.Listings.{lines-short}
use Rattle.txr.proofs.listing.level_lines.Goals as goal
use Rattle.txr.proofs.listing.level_lines.Goals.{After-level_line}

pub level_line-requires-clause-page : goal.level_line-requires-clause-page
level_line-requires-clause-page c =
    let p = c.args.chain.picture in
    let s = p.sides in
    let short = lines-short (code_of p.kind) p.width p.height s.some-w s.most-w s.some-h s.most-h c.args.chain.texels.now c.loop-m.m (omega arith) in
    rw c.loop-m.invariant (omega (arith, short, top-most p.width p.height s.some-w s.most-w s.most-h))

-- one line more
more : (c : goal.After-level_line)
    → let p = c.args.chain.picture in
    c.level_line.new.page ≡ level_lines (code_of p.kind) p.width p.height c.args.chain.texels.now (suc c.loop-m.m)
unfolding level_lines
more c = c.level_line.ensures ∙ rw c.loop-m.invariant

pub loop-m-preserved : goal.loop-m-preserved
loop-m-preserved c = rw (add-one c.loop-m.m) (more (goal.at.loop-m-preserved c).After-level_line)

pub returns-2 : goal.returns-2
returns-2 c =
    let last : c.loop-m.m ≡ top c.args.chain.picture.width c.args.chain.picture.height = omega arith in
    rw (← last) (more (goal.at.returns-2 c).After-level_line)
