-- `lookups::trilinear::sample_cubemap_trilinear_rgb` meets its contract: past the refusals each place is one of the texels that are lent.
use mathlib.Core.Path.{◌≡◌, sym, ap, ◌∙◌, subst}
use lib.ListN.{length}
use Rattle.rules.specs.Refusals.{chain_refusal, cubemap_refusal, trilinear_refusal}
use Rattle.rules.proofs.Refusing.{or_else-taken, cube-facts}
use Rattle.rules.proofs.RefusingLookups.{Cubed, cubemap-facts, finite-facts}
use Rattle.rules.proofs.Answering.{told_none}
use Rattle.lane.specs.Reading.{Inside}
use Rattle.lane.proofs.Holding.{cubes-inside}
use Rattle.lookups.proofs.Answering.{cube-chained, trilinear-made}
use Rattle.lookups.proofs.trilinear.sample_cubemap_trilinear_rgb.Goals as goal
use Rattle.lookups.proofs.trilinear.sample_cubemap_trilinear_rgb.Goals.{In_ok-check_finite}

-- past the refusals
none : (c : goal.In_ok-check_finite) → let a = c.args in cubemap_refusal a.kind a.width a.height (length a.texels.now) a.directions ≡ 0
unfolding cubemap_refusal chain_refusal
none c =
    let given = c.in_ok-picture.ensures in
    let is = given.is in
    let room = told_none _ (sym c.in_ok-layout.ensures.told) in
    let cube = told_none _ (sym c.in_ok-check_cubemap.ensures) in
    or_else-taken _ _ (or_else-taken _ _ (told_none _ (sym given.told)) (rw (is.0, is.1, is.2) at room)) (or_else-taken _ _ (rw is.0 at cube) (told_none _ (sym c.in_ok-met.ensures.told)))

all-none : (c : goal.In_ok-check_finite) → let a = c.args in trilinear_refusal a.kind a.width a.height (length a.texels.now) a.directions a.levels ≡ 0
unfolding trilinear_refusal
all-none c = or_else-taken _ _ (none c) (told_none _ (sym c.in_ok-check_finite.ensures))

facts : (c : goal.In_ok-check_finite) → let a = c.args in Cubed a.kind a.width a.height (length a.texels.now) a.directions
facts c = cubemap-facts _ _ _ _ _ (none c)

pub two_levels-m-requires : goal.two_levels-m-requires
two_levels-m-requires c = finite-facts _ (told_none _ (sym c.in_ok-check_finite.ensures))

pub invariant_of-level_places : goal.invariant_of-level_places
invariant_of-level_places c = record { is = rw c.in_ok-layout.ensures.is (cube-facts _ (told_none _ (sym c.in_ok-check_cubemap.ensures))) }

pub rgb_four-low-requires : goal.rgb_four-low-requires
rgb_four-low-requires c =
    let is = c.in_ok-picture.ensures.is in
    let e = rw (c.in_ok-layout.ensures.is, is.1, is.2) at c.level_places-at.ensures in
    subst (Inside _) (sym (ap (λ p. p.low) e)) (cubes-inside _ _ _ (cube-chained (facts (goal.at.rgb_four-low-requires c).In_ok-check_finite)) c.in_ok-met.met.on)

pub rgb_four-high-requires : goal.rgb_four-high-requires
rgb_four-high-requires c =
    let is = c.in_ok-picture.ensures.is in
    let e = rw (c.in_ok-layout.ensures.is, is.1, is.2) at c.level_places-at.ensures in
    subst (Inside _) (sym (ap (λ p. p.high) e)) (cubes-inside _ _ _ (cube-chained (facts (goal.at.rgb_four-high-requires c).In_ok-check_finite)) c.in_ok-met.met.on)

pub returns : goal.returns
returns c =
    let a = c.args in
    let is = c.in_ok-picture.ensures.is in
    let at = (goal.at.returns c).In_ok-check_finite in
    record {
      answer = trilinear-made a.kind a.width a.height _ a.directions a.levels (all-none at) c.in_ok-met.ensures.met
          (c.top_level.ensures.0 ∙ rw (is.1, is.2)) c.two_levels-m.ensures.0 (rw (c.in_ok-layout.ensures.is, is.1, is.2) at c.level_places-at.ensures) c.rgb_four-low.ensures c.rgb_four-high.ensures c.lerp_four.ensures;
    }
