-- `texel::whole::floor` meets its contract: both arms are the law of the f64 sum, and the floor is an f32 already.
use mathlib.Core.Path.{refl, sym, subst}
use lib.Dec.{T}
use lib.Ieee.{of_bits}
use Rattle.texel.specs.Ends.{low23, high23}
use Rattle.texel.proofs.Range.{Between-finite}
use Rattle.texel.proofs.Patterns.{widens}
use Rattle.texel.proofs.Floors.{narrows, wide-same, wide-before}
use Rattle.texel.proofs.whole.floor.Goals as goal

pub float_to_float-wide : goal.float_to_float-wide
float_to_float-wide c = widens c.args.x (subst T (sym c.well_formed.0.1) tt) (Between-finite low23 c.args.x high23 tt tt c.requires)

pub returns-then-wide-near : goal.returns-then-wide-near
unfolding of_bits
returns-then-wide-near c = wide-before c.args.x c.requires _ (refl, refl) c.if-wide-near.true

pub returns-else-wide-near : goal.returns-else-wide-near
unfolding of_bits
returns-else-wide-near c = wide-same c.args.x c.requires c.if-wide-near.false

pub float_to_float-result : goal.float_to_float-result
float_to_float-result c = narrows c.args.x c.requires _ (returns-then-wide-near c)

pub float_to_float-result-else-wide-near : goal.float_to_float-result-else-wide-near
float_to_float-result-else-wide-near c = narrows c.args.x c.requires _ (returns-else-wide-near c)
