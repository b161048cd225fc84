-- What the pack adds to a product, so that the whole number that a mode keeps stands in the sum's pattern. Definitions only.
use Rattle.std.specs.Prelude.{false, pos, negsuc, Float}
use Rattle.std.specs.Float.{fin}
use Rattle.rules.specs.declared.Packing.{Packing}
use Rattle.rules.specs.declared.Packing.TheVariants.{Truncating, Nearest}

-- 2^20, and to the nearest 2^20 + 1/2
abbrev pub offset_of : Packing → Float
offset_of Truncating = fin false 1 (pos 20)
offset_of Nearest = fin false 2097153 (negsuc 0)
