-- Packing modes, and a value from 0 to 1 packed to a byte by each. Definitions only.
use Rattle.std.specs.Prelude.{cond, ℕ, eqb, Float, Result, Ok, Err}
use Rattle.std.specs.Float.{binary32}
use Rattle.std.specs.Float.Ieee.{mul, to_unsigned}
use Rattle.rules.specs.declared.Packing.{Packing}
use Rattle.rules.specs.declared.Packing.TheVariants.{Truncating, Nearest}
use Rattle.rules.specs.declared.Refusal.{Refusal}
use Rattle.rules.specs.declared.Refusal.TheVariants.{UnknownPacking}
use Rattle.rules.specs.Floats.{top32}
use Rattle.rules.specs.Whole.{upward_of}

-- 0 truncating, 1 nearest; every other code is refused
unfoldable pub packing_code : ℕ → Result Packing Refusal
packing_code code = cond (eqb code 0) (Ok Truncating) (cond (eqb code 1) (Ok Nearest) (Err UnknownPacking))

-- the mode of a code that is known
abbrev pub packing_in : Result Packing Refusal → Packing
packing_in (Ok packing) = packing
packing_in (Err refusal) = Truncating

abbrev pub packing_of : ℕ → Packing
packing_of code = packing_in (packing_code code)

-- the whole number that is kept of a product
abbrev pub kept_of : Packing → Float → ℕ
kept_of Truncating p = to_unsigned 64 p
kept_of Nearest p = upward_of p

-- pack: the f32 product value * 255.0, truncated; or nearest with a half upward
unfoldable pub pack_of : Packing → Float → ℕ
pack_of packing x = kept_of packing (mul binary32 x top32)
