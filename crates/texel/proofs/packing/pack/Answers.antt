-- `texel::packing::pack` meets its contract: the product lies in 0 to 255, and the sum with the mode's offset has in its pattern what the mode
-- keeps (`Packs`).
use lib.Ieee.{binary32, mul, of_bits}
use lib.Ieee.Fits.{mul-fits}
use Rattle.rules.specs.Floats.{Between, zero32, top32}
use Rattle.rules.specs.Packing.{pack_of}
use Rattle.texel.proofs.Range.{Between-finite}
use Rattle.texel.proofs.Unit.{scaled-in}
use Rattle.texel.proofs.Patterns.{widens}
use Rattle.texel.proofs.Packs.{pack-bits, pack-no-nan}
use Rattle.texel.proofs.packing.pack.Goals as goal
use Rattle.texel.proofs.packing.pack.Goals.{Start}

product : (s : goal.Start) → Between zero32 (mul binary32 s.args.value top32) top32
product s = scaled-in s.args.value s.requires

pub float_to_float-y : goal.float_to_float-y
unfolding of_bits
float_to_float-y c = widens _ (mul-fits binary32 c.args.value top32) (Between-finite zero32 _ top32 tt tt (product (goal.at.float_to_float-y c).Start))

pub float_to_bits-result : goal.float_to_bits-result
unfolding of_bits
float_to_bits-result c =
    rw c.offset.ensures (pack-no-nan c.args.packing _ (mul-fits binary32 c.args.value top32) (product (goal.at.float_to_bits-result c).Start))

pub returns : goal.returns
unfolding of_bits pack_of
returns c =
    rw c.offset.ensures (pack-bits c.args.packing _ (mul-fits binary32 c.args.value top32) (product (goal.at.returns c).Start))
