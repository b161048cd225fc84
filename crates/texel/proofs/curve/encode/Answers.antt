-- `texel::curve::encode` meets its contract: the index leaves two bytes, and the compare settles which.
use mathlib.Core.Path.{sym, subst}
use lib.Dec.{T}
use lib.ListN.{get_or}
use lib.Ieee.{binary32, fits}
use Rattle.texel.specs.Tables.{Entry}
use Rattle.texel.proofs.Inverse.{settled_at, settled_before}
use Rattle.texel.proofs.curve.encode.Goals as goal
use Rattle.texel.proofs.curve.encode.Goals.{After-bucket_of-i, Start}

held : (c : goal.Start) → T (fits binary32 c.args.mean)
held c = subst T (sym c.well_formed.1.1.0.1) tt

-- the entry that was read
entry : (c : goal.After-bucket_of-i) → Entry c.bucket_of-i.result (get_or c.args.index.now c.bucket_of-i.result 0)
entry c = c.requires.1.at c.bucket_of-i.result c.bucket_of-i.ensures.small

pub overflow_sub-result : goal.overflow_sub-result
overflow_sub-result c = (entry (goal.at.overflow_sub-result c).After-bucket_of-i).some

pub returns-then-decode-mean : goal.returns-then-decode-mean
returns-then-decode-mean c =
    settled_at c.args.mean (held (goal.at.returns-then-decode-mean c).Start) c.requires.2 c.bucket_of-i.result _ c.bucket_of-i.ensures (entry (goal.at.returns-then-decode-mean c).After-bucket_of-i) c.decode.result c.decode.ensures c.if-decode-mean.true

pub returns-else-decode-mean : goal.returns-else-decode-mean
returns-else-decode-mean c =
    settled_before c.args.mean (held (goal.at.returns-else-decode-mean c).Start) c.requires.2 c.bucket_of-i.result _ c.bucket_of-i.ensures (entry (goal.at.returns-else-decode-mean c).After-bucket_of-i) c.decode.result c.decode.ensures c.if-decode-mean.false
