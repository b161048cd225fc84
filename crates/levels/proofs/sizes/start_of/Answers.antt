use native.Mathlib.Omega.{arith}
use native.Mathlib.Numerals.{add-one}
use Rattle.rules.specs.Sizes.{start}
use Rattle.rules.proofs.Sides.{start-suc}
use Rattle.levels.proofs.Starts.{size-most, start-most}
use Rattle.levels.proofs.sizes.start_of.Goals as goal

pub loop-m-init : goal.loop-m-init
unfolding start
loop-m-init c = omega arith

pub overflow_add-at : goal.overflow_add-at
overflow_add-at c =
    let a = c.args in
    let p = c.requires in
    let m = c.loop-m.m in
    omega (arith, start-most a.faces a.width a.height p.0 p.1 p.2 m, size-most a.faces a.width a.height p.0 p.1 p.2 m)

pub loop-m-preserved : goal.loop-m-preserved
loop-m-preserved c = rw (add-one, start-suc) (omega arith)
