-- `kinds::rounded::Rounded::all_right` meets its contract. The invariant: no more differ than were looked at, and where none does they are all
-- those of their pairs.
use mathlib.Core.Path.{◌≡◌}
use Prim.Native.Nat.{ℕ, ◌≤◌, ◌<◌}
use lib.ListN.{get_or}
use Rattle.rules.specs.declared.Packing.TheVariants.{Nearest}
use Rattle.rules.specs.Reducing.{linear_of}
use Rattle.kinds.specs.Runs.{pairs_of}
use Rattle.kinds.proofs.rounded.RoundedReduce.all_right.Given as goal

abbrev pub invariant-loop-x : goal.invariant-loop-x
invariant-loop-x l =
    record {
      most : l.unlike ≤ l.x;
      same : (l.unlike ≡ 0) → (k : ℕ) → k < l.x → get_or l.standing.texels.now k 0 ≡ pairs_of (linear_of Nearest) l.standing.above k;
    }
