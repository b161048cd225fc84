-- `levels::sizes::count_of` meets its contract: the top level is at most 12.
use native.Mathlib.Omega.{arith}
use Rattle.rules.proofs.Bounds.{top-most}
use Rattle.levels.proofs.sizes.count_of.Goals as goal

pub overflow_add-top_level : goal.overflow_add-top_level
overflow_add-top_level c =
    let a = c.args in
    let p = c.requires in
    omega (arith, top-most a.width a.height p.1 p.2 p.3)

pub start_of-requires : goal.start_of-requires
start_of-requires c =
    let a = c.args in
    let p = c.requires in
    omega (arith, top-most a.width a.height p.1 p.2 p.3)
