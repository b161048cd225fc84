-- `levels::layout::Layout::new` meets its contract: what the walk leaves is where the levels start.
use native.Mathlib.Omega.{arith}
use Rattle.levels.proofs.Starts.{top-few, started}
use Rattle.levels.proofs.layout.Layout.new.Goals as goal

pub starts_of-total-requires : goal.starts_of-total-requires
starts_of-total-requires c = (rw c.faces-faces.ensures c.args.picture.sides, omega arith)

pub invariant_of-result : goal.invariant_of-result
invariant_of-result c =
    let s = c.args.picture.sides in
    record { started = started _ (omega arith) s.most-f s.most-w s.most-h (top-few s) (rw c.faces-faces.ensures at c.starts_of-total.ensures.leaves) }
