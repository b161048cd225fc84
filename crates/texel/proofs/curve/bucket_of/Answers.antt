-- `texel::curve::bucket_of` meets its contract.
use mathlib.Core.Path.{sym, subst}
use lib.Dec.{T}
use lib.Ieee.{binary32, fits, of_bits}
use Rattle.rules.specs.Floats.{zero32, one32}
use Rattle.texel.proofs.Range.{Between-finite}
use Rattle.texel.proofs.Patterns.{no_nan}
use Rattle.texel.proofs.Inverse.{bucket-first, bucket-later}
use Rattle.texel.proofs.curve.bucket_of.Goals as goal
use Rattle.texel.proofs.curve.bucket_of.Goals.{Start}

held : (c : goal.Start) → T (fits binary32 c.args.mean)
held c = subst T (sym c.well_formed.0.1) tt

pub float_to_bits-high : goal.float_to_bits-high
unfolding of_bits
float_to_bits-high c = no_nan c.args.mean (Between-finite zero32 c.args.mean one32 tt tt c.requires)

pub returns-then-high-lt14751 : goal.returns-then-high-lt14751
returns-then-high-lt14751 c = bucket-first c.args.mean (held (goal.at.returns-then-high-lt14751 c).Start) c.requires c.if-high-lt14751.true

pub returns : goal.returns
returns c = bucket-later c.args.mean (held (goal.at.returns c).Start) c.requires c.if-high-lt14751.false
