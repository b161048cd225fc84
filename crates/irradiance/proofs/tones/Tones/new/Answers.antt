-- `irradiance::tones::Tones::new` holds T at every byte: each call of the closure gives it.
use Rattle.std.proofs.Common.{rules}
use lib.Ieee.{nan}
use Rattle.irradiance.proofs.tones.Tones.new.Goals as goal

pub invariant_of-result : goal.invariant_of-result
invariant_of-result c = record { held = λ i below. let items = c.from_fn.ensures.items in let a = items.at i nan (rw items.long at below) in search (rules, a) }
