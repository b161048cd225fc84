-- `replay::words::float`: bits that are not above infinity's, their sign taken off, are no NaN's.
use Rattle.std.proofs.lemmas.Float.{not_nan_f32_bits}
use Rattle.replay.proofs.words.float.Goals as goal

pub float_from_bits-result : goal.float_from_bits-result
float_from_bits-result c = not_nan_f32_bits c.args.bits c.if-bits-gt2139095040.false
