-- `irradiance::refusals::check_irradiance` meets its contract: a picture that `level_sizes` does not refuse is taken, then test by test.
use mathlib.Core.Path.{◌≡◌, sym, ap, ◌∙◌}
use native.Mathlib.Nat.{mul-le-mul}
use native.Mathlib.Omega.{arith}
use Rattle.std.specs.Prelude.{Ok}
use Rattle.rules.specs.Refusals.{refusal_of, picture_refusal}
use Rattle.rules.specs.Answers.{answer, told}
use Rattle.rules.proofs.Answering.{first, told_none}
use Rattle.rules.proofs.Refusing.{Taken, picture-facts, cube-taken, cube-refused}
use Rattle.rules.proofs.RefusingRanges.{level0_told}
use Rattle.rules.proofs.RefusingIrradiance.{level0-cube, level0-flat, light-short, light-kind}
use Rattle.irradiance.proofs.refusals.check_irradiance.Goals as goal
use Rattle.irradiance.proofs.refusals.check_irradiance.Goals.{In_ok-level_sizes, In_default}

-- past `level_sizes` the picture is taken
fine : (c : goal.In_ok-level_sizes) → let a = c.args in picture_refusal a.kind a.width a.height ≡ 0
fine c = told_none _ (level0_told _ _ _ ∙ ap (λ s. first s (Ok tt)) (sym c.in_ok-level_sizes.ensures.answer))

known : (c : goal.In_ok-level_sizes) → let a = c.args in Taken a.kind a.width a.height
known c = picture-facts _ _ _ (fine c)

pub overflow_mul-face : goal.overflow_mul-face
overflow_mul-face c = let k = known (goal.at.overflow_mul-face c).In_ok-level_sizes in omega (arith, mul-le-mul k.most-h k.most-w)

pub overflow_mul-cube : goal.overflow_mul-cube
overflow_mul-cube c = let k = known (goal.at.overflow_mul-cube c).In_ok-level_sizes in omega (arith, mul-le-mul k.most-h k.most-w)

pub returns-in-3 : goal.returns-in-3
unfolding answer refusal_of
returns-in-3 c =
    sym (ap told (light-short _ _ _ _ (fine (goal.at.returns-in-3 c).In_ok-level_sizes) (rw (level0-cube _ _ _ c.in-3.is) c.if-texels-cube.true)))

pub returns-in-3-2 : goal.returns-in-3-2
unfolding answer
returns-in-3-2 c =
    let six = c.in-3.is in
    sym (ap told (light-kind _ _ _ _ (fine (goal.at.returns-in-3-2 c).In_ok-level_sizes) (rw (level0-cube _ _ _ six) c.if-texels-cube.false) ∙ cube-taken _ six))

-- no cubemap
other : (c : goal.In_default) → c.args.kind ≡ 3 → ⊥
other c e = omega arith

pub returns-in_default : goal.returns-in_default
unfolding answer refusal_of
returns-in_default c =
    let at = goal.at.returns-in_default c in
    sym (ap told (light-short _ _ _ _ (fine at.In_ok-level_sizes) (rw (level0-flat _ _ _ (other at.In_default)) c.if-texels-face.true)))

pub returns-in_default-2 : goal.returns-in_default-2
unfolding answer refusal_of
returns-in_default-2 c =
    let at = goal.at.returns-in_default-2 c in
    let flat = other at.In_default in
    sym (ap told (light-kind _ _ _ _ (fine at.In_ok-level_sizes) (rw (level0-flat _ _ _ flat) c.if-texels-face.false) ∙ cube-refused _ flat))
