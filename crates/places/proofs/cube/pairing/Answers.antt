-- `places::cube::pairing` meets its contract: the floor of the held level is a whole number up to the top level.
use mathlib.Core.Path.{sym, subst}
use native.Mathlib.Omega.{arith}
use lib.Ieee.{Float, of_bits}
use Rattle.rules.specs.Floats.{Between}
use Rattle.rules.specs.Cubemap.{hold_of}
use Rattle.texel.specs.Ends.{low12, high12}
use Rattle.texel.proofs.Coord.{side-float}
use Rattle.places.proofs.Pairs.{top_in, held-range, Known, known, at-pairing}
use Rattle.places.proofs.cube.pairing.Goals as goal
use Rattle.places.proofs.cube.pairing.Goals.{After-floor_near-l}

facts : (c : goal.After-floor_near-l) → Known c.clamp-held.result c.args.top.level c.floor_near-l.result
unfolding hold_of of_bits
facts c = known c.args.fraction c.clamp-held.result c.args.top.level c.floor_near-l.result c.requires c.args.top.is c.clamp-held.ensures.value c.floor_near-l.ensures

pub int_to_float-top : goal.int_to_float-top
int_to_float-top c = side-float _ (let h = c.args.top.is in omega arith)

pub clamp-held-requires : goal.clamp-held-requires
unfolding of_bits
clamp-held-requires c = (top_in c.args.top.level).low

pub floor_near-l-requires : goal.floor_near-l-requires
unfolding hold_of of_bits
floor_near-l-requires c =
    subst (λ (x : Float). Between low12 x high12) (sym c.clamp-held.ensures.value) (held-range c.args.fraction c.args.top.level c.requires c.args.top.is)

pub float_to_int-low : goal.float_to_int-low
float_to_int-low c = (facts (goal.at.float_to_int-low c).After-floor_near-l).whole

pub overflow_add-low : goal.overflow_add-low
overflow_add-low c = let k = facts (goal.at.overflow_add-low c).After-floor_near-l in let h = c.args.top.is in rw k.cut (omega (arith, k.most))

pub returns : goal.returns
unfolding hold_of of_bits
returns c =
    let k = facts (goal.at.returns c).After-floor_near-l in
    let e = c.min.ensures in (
      at-pairing c.args.fraction _ c.args.top.level _ _ _ c.clamp-held.ensures.value c.floor_near-l.ensures k.cut e,
      rw k.cut k.most,
      omega arith,
      k.weight,
    )
