-- The square root as a function of every f32. Definitions only.
use Rattle.std.specs.Prelude.{cond, Float}
use Rattle.std.specs.Float.Ieee.{le}
use Rattle.rules.specs.Floats.{zero32, largest}
use Rattle.rules.specs.Root.{sqrt_of}

-- the root of an x that is finite and not negative, and x itself elsewhere
abbrev pub root_alone : Float → Float
root_alone x = cond (le zero32 x) (cond (le x largest) (sqrt_of x) x) x
