-- `places::level::greatest_four` meets its contract: max(footprint, 1) is no NaN, its exponent's field is at least that of 1, 127, and
-- half of what is above that is the level.
use Rattle.places.proofs.Fours.{held-no-nan, held-exponent, four-held}
use Rattle.places.proofs.level.greatest_four.Goals as goal

pub float_to_bits-held : goal.float_to_bits-held
float_to_bits-held c = rw c.pick-held.ensures (held-no-nan c.args.footprint)

pub overflow_sub-held : goal.overflow_sub-held
overflow_sub-held c = rw c.pick-held.ensures (held-exponent c.args.footprint).least

pub returns : goal.returns
returns c =
    rw (c.min.ensures, c.pick-held.ensures) (four-held c.args.top.level c.args.footprint c.args.top.is)
