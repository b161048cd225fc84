-- `irradiance::root::settled` meets its contract: digits that pass the test are those of the root.
use mathlib.Core.Path.{sym, subst}
use native.Mathlib.Omega.{arith}
use lib.Dec.{T}
use lib.Ieee.{binary32, fits, to_bits}
use Rattle.texel.proofs.Patterns.{below_no_nan}
use Rattle.irradiance.proofs.Roots.{Pattern, pattern-in, from_zero, number_in, root-settled}
use Rattle.irradiance.proofs.root.settled.Goals as goal
use Rattle.irradiance.proofs.root.settled.Goals.{Start}

held : (c : goal.Start) → T (fits binary32 c.args.distance.d)
held c = subst T (sym c.well_formed.0.1.1.0.1) tt

pattern : (c : goal.Start) → Pattern (to_bits binary32 c.args.distance.d)
pattern c = pattern-in c.args.distance.d (held c) c.args.distance.in_three

pub overflow_cast-b : goal.overflow_cast-b
overflow_cast-b c = let p = pattern (goal.at.overflow_cast-b c).Start in omega arith

pub overflow_sub-n : goal.overflow_sub-n
overflow_sub-n c = let p = pattern (goal.at.overflow_sub-n c).Start in omega arith

pub overflow_mul-n-then-guess : goal.overflow_mul-n-then-guess
overflow_mul-n-then-guess c = let n = number_in _ (pattern (goal.at.overflow_mul-n-then-guess c).Start) in omega arith

pub float_from_bits-result : goal.float_from_bits-result
float_from_bits-result c = below_no_nan _ (omega arith)

pub returns-then-is_nearest : goal.returns-then-is_nearest
returns-then-is_nearest c =
    root-settled c.args.distance.d _ (held (goal.at.returns-then-is_nearest c).Start) c.args.distance.in_three (c.is_nearest.ensures c.if-is_nearest.true)

pub sqrt-requires : goal.sqrt-requires
sqrt-requires c = from_zero _ c.args.distance.in_three
