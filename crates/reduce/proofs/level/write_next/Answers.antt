-- `reduce::level::write_next` meets its contract: the buffer parts into the level and what lies behind it.
use mathlib.Core.Path.{◌≡◌, refl, ◌∙◌}
use Prim.Native.Nat.{◌*◌}
use lib.Seq.{drop-drop}
use Rattle.rules.specs.Sizes.{half}
use Rattle.reduce.specs.Levels.{written}
use Rattle.reduce.proofs.level.write_next.Goals as goal

pub returns : goal.returns
unfolding written
returns g c =
    let parts = c.split_at_mut-level.ensures in
    let n = c.next.ensures in
    let s = c.args.shape in
    let m : c.size-m.result ≡ s.faces * half s.height * half s.width = c.size-m.ensures ∙ rw (n.0, n.1, n.2) refl in
    rw (c.make_next.ensures, parts.front, parts.back, c.size-n.ensures, m, drop-drop _ _ c.args.s.now)
