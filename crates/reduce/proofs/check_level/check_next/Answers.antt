-- `reduce::check_level::check_next` meets its contract: the buffer parts into the level and the next behind it.
use mathlib.Core.Path.{◌≡◌, refl, ◌∙◌}
use Prim.Native.Nat.{◌*◌}
use native.Mathlib.Omega.{arith}
use Rattle.rules.specs.Sizes.{half}
use Rattle.reduce.proofs.Rows.{row-long}
use Rattle.reduce.proofs.Standing.{right-part, wrong-by}
use Rattle.reduce.proofs.check_level.check_next.Goals as goal

pub returns : goal.returns
returns g c =
    let s = c.args.pair.shape in
    let n = c.next.ensures in
    let m : c.size-m.result ≡ s.faces * half s.height * half s.width = c.size-m.ensures ∙ rw (n.0, n.1, n.2) refl in
    let k = c.size-n.ensures in
    let room = c.args.pair.room in
    rw (← k, ← m)
    (wrong-by (λ r t. right-part c.size-n.result c.args.pair.texels.now (omega (arith, room, k, m)) t)
    (rw (row-long c.size-m.result c.size-n.result c.args.pair.texels.now (omega (arith, room, k, m))) at c.check_level.ensures))
