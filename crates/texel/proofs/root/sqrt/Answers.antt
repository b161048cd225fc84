-- `texel::root::sqrt` meets its contract.
use mathlib.Core.Path.{sym, subst}
use lib.Dec.{T}
use lib.Ieee.{binary32, fits}
use lib.Ieee.Positive.{positive}
use Rattle.texel.proofs.Patterns.{below_no_nan}
use Rattle.texel.proofs.RootRule.{test-above, test_zero, root-of-pattern, root-of-zero}
use Rattle.texel.proofs.root.sqrt.Goals as goal
use Rattle.texel.proofs.root.sqrt.Goals.{Start, Then-x}

above : (c : goal.Then-x) → T (positive c.args.x)
above c = test-above c.args.x c.requires c.if-x.true

held : (s : goal.Start) → T (fits binary32 s.args.x)
held s = subst T (sym s.well_formed.0.1) tt

pub root_pattern-requires : goal.root_pattern-requires
root_pattern-requires c = above c

pub float_from_bits-result : goal.float_from_bits-result
float_from_bits-result c = below_no_nan c.root_pattern.result c.root_pattern.ensures.1

pub returns-then-x : goal.returns-then-x
returns-then-x c =
    root-of-pattern c.args.x c.root_pattern.result c.requires (held (goal.at.returns-then-x c).Start) (above (goal.at.returns-then-x c).Then-x) c.root_pattern.ensures.0 c.root_pattern.ensures.1

pub returns : goal.returns
returns c = root-of-zero c.args.x c.requires (test_zero c.args.x c.requires c.if-x.false)
