-- `levels::picture::Picture::check_level` meets its contract: no level up to the top one is above 12.
use Rattle.std.specs.Prelude.{Result, Ok, Err, IfOk}
use Prim.Native.Nat.{ℕ, ◌≤◌}
use native.Mathlib.Nat.{le_trans}
use Rattle.levels.proofs.Starts.{top-few}
use Rattle.levels.proofs.picture.Picture.check_level.Goals as goal

few : {A E : Type 0} (k : ℕ) {n : ℕ} (r : Result A E) → n ≤ 12 → IfOk r (λ _. k ≤ n) → IfOk r (λ _. (k ≤ n) × (k ≤ 12))
few k (Ok _) most le = (le, le_trans le most)
few k (Err _) most le = le

pub returns-clause-below : goal.returns-clause-below
returns-clause-below c = few c.args.level c.check_level.result (top-few c.args.self.sides) c.check_level.ensures.below
