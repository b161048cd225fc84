-- `lookups::cubemap::sample_cubemap_rgb` meets its contract: past the refusals each place is one of the texels that are lent.
use mathlib.Core.Path.{◌≡◌, sym, ap, ◌∙◌, subst}
use lib.ListN.{length}
use Rattle.std.specs.Prelude.{Ok}
use Rattle.rules.specs.Refusals.{chain_refusal, cubemap_refusal}
use Rattle.rules.proofs.Refusing.{or_else-taken, cube-facts}
use Rattle.rules.proofs.RefusingLookups.{Cubed, cubemap-facts}
use Rattle.rules.proofs.Answering.{told_none}
use Rattle.lane.specs.Reading.{Inside, read_rgb}
use Rattle.lane.proofs.Holding.{cubes-inside}
use Rattle.lookups.proofs.Answering.{cube-chained, cubemap-read}
use Rattle.lookups.proofs.cubemap.sample_cubemap_rgb.Goals as goal
use Rattle.lookups.proofs.cubemap.sample_cubemap_rgb.Goals.{After-places}

-- past the refusals
none : (c : goal.After-places) → let a = c.args in cubemap_refusal a.kind a.width a.height (length a.texels.now) a.directions ≡ 0
unfolding cubemap_refusal chain_refusal
none c =
    let given = c.in_ok-picture.ensures in
    let is = given.is in
    let room = told_none _ (sym c.in_ok-layout.ensures.told) in
    let cube = told_none _ (sym c.in_ok-check_cubemap.ensures) in
    or_else-taken _ _ (or_else-taken _ _ (told_none _ (sym given.told)) (rw (is.0, is.1, is.2) at room)) (or_else-taken _ _ (rw is.0 at cube) (told_none _ (sym c.in_ok-met.ensures.told)))

facts : (c : goal.After-places) → let a = c.args in Cubed a.kind a.width a.height (length a.texels.now) a.directions
facts c = cubemap-facts _ _ _ _ _ (none c)

pub invariant_of-cube : goal.invariant_of-cube
invariant_of-cube c = record { is = rw c.in_ok-layout.ensures.is (cube-facts _ (told_none _ (sym c.in_ok-check_cubemap.ensures))) }

pub rgb_four-requires : goal.rgb_four-requires
rgb_four-requires c =
    let is = c.in_ok-picture.ensures.is in
    subst (Inside _) (sym (rw (c.in_ok-layout.ensures.is, is.1, is.2) at c.places.ensures)) (cubes-inside _ _ _ (cube-chained (facts (goal.at.rgb_four-requires c).After-places)) c.in_ok-met.met.on)

pub returns : goal.returns
returns c =
    let a = c.args in
    let is = c.in_ok-picture.ensures.is in
    let at = (goal.at.returns c).After-places in
    record { answer = ap Ok (c.rgb_four.ensures ∙ ap (read_rgb _) (rw (c.in_ok-layout.ensures.is, is.1, is.2) at c.places.ensures)) ∙ sym (cubemap-read a.kind a.width a.height _ a.directions a.levels (none at) c.in_ok-met.ensures.met) }
