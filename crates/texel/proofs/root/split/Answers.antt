-- `texel::root::split` meets its contract: the f64 pattern of x has the exponent, moved by 872, and the digits at the top.
use mathlib.Core.Path.{◌≡◌, sym, subst}
use Prim.Native.Nat.{◌+◌, ◌*◌}
use native.Mathlib.Omega.{arith}
use lib.Dec.{T}
use lib.Ieee.{binary32, binary64, to_bits, fits}
use lib.Ieee.Positive.{positive-finite}
use Rattle.texel.proofs.Patterns.{positive-below, positive-bits, no_nan, widens}
use Rattle.texel.proofs.RootDigits.{Parts, parts, wide-bits, parts-read}
use Rattle.texel.proofs.root.split.Goals as goal
use Rattle.texel.proofs.root.split.Goals.{Start}

held : (s : goal.Start) → T (fits binary32 s.args.x)
held s = subst T (sym s.well_formed.0.1) tt

apart : (s : goal.Start) → Parts (to_bits binary32 s.args.x)
apart s = let x = s.args.x in parts (to_bits binary32 x) (positive-bits x (held s) s.requires) (positive-below x (held s) s.requires)

bits : (s : goal.Start) → to_bits binary64 s.args.x ≡ ((apart s).e + 872) * 4503599627370496 + (apart s).m * 536870912
bits s = wide-bits s.args.x (held s) s.requires (apart s)

pub float_to_float-b : goal.float_to_float-b
float_to_float-b c = widens c.args.x (held (goal.at.float_to_float-b c).Start) (positive-finite c.args.x c.requires)

pub float_to_bits-b : goal.float_to_bits-b
float_to_bits-b c = no_nan c.args.x (positive-finite c.args.x c.requires)

pub overflow_sub-b : goal.overflow_sub-b
overflow_sub-b c = let i = (apart (goal.at.overflow_sub-b c).Start).is in let b = bits (goal.at.overflow_sub-b c).Start in omega arith

pub overflow_cast-b : goal.overflow_cast-b
overflow_cast-b c = let i = (apart (goal.at.overflow_cast-b c).Start).is in let b = bits (goal.at.overflow_cast-b c).Start in omega arith

pub returns : goal.returns
returns c = parts-read _ (to_bits binary64 c.args.x) (apart (goal.at.returns c).Start) (bits (goal.at.returns c).Start)
