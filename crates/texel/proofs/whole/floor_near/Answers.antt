-- `texel::whole::floor_near` meets its contract: both arms are the law of the f32 sum.
use mathlib.Core.Path.{refl}
use lib.Ieee.{of_bits}
use Rattle.texel.proofs.Floors.{close-same, close-before}
use Rattle.texel.proofs.whole.floor_near.Goals as goal

pub returns-then-x-near : goal.returns-then-x-near
unfolding of_bits
returns-then-x-near c = close-before c.args.x c.requires _ (refl, refl) c.if-x-near.true

pub returns-else-x-near : goal.returns-else-x-near
unfolding of_bits
returns-else-x-near c = close-same c.args.x c.requires c.if-x-near.false
