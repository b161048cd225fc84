-- `lookups::facing::facing` meets its contract: past the refusal each direction is taken.
use mathlib.Core.Path.{sym}
use Rattle.std.proofs.iter.Serving.{serving}
use Rattle.rules.proofs.RefusingLookups.{directions-facts}
use Rattle.rules.proofs.Answering.{told_none}
use Rattle.lookups.proofs.facing.facing.Goals as goal

pub new-requires : goal.new-requires
new-requires c = let f = directions-facts _ (told_none _ (sym c.in_ok-check_directions.ensures)) in grind serving
