-- `reduce::check_block::in_a_run` meets its contract: the rest of all rows, or the rest of a face.
use mathlib.Core.Path.{◌≡◌, refl}
use Prim.Native.Nat.{◌*◌, ◌%◌, ◌<◌}
use native.Mathlib.Nat.{mod-lt}
use native.Mathlib.Omega.{arith}
use Rattle.rules.specs.Sizes.{half}
use Rattle.reduce.proofs.Runs.{run-face, run-even}
use Rattle.reduce.proofs.check_block.in_a_run.Goals as goal

pub returns-then-h-eq0-clause-run : goal.returns-then-h-eq0-clause-run
returns-then-h-eq0-clause-run c =
    let s = c.args.shape in
    let sides = s.sides in
    let even : s.height ≡ 2 * half s.height = omega arith in
    rw c.halved-h2.ensures (run-even s.width s.height (half s.height) s.faces c.args.y _ refl (omega arith) (omega arith) even (omega arith))

pub returns-else-h-eq0-clause-run : goal.returns-else-h-eq0-clause-run
returns-else-h-eq0-clause-run c =
    let s = c.args.shape in
    let sides = s.sides in
    let pos : 0 < half s.height = omega arith in
    let i : c.args.y % half s.height < half s.height = mod-lt c.args.y pos in
    rw c.halved-h2.ensures (run-face s.width s.height (half s.height) s.faces c.args.y _ refl (omega arith) (omega arith) (omega arith) (omega arith))
