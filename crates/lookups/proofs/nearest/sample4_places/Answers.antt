-- `lookups::nearest::sample4_places` meets its contract: past the refusals the level that the steps ask for is one of the picture's.
use mathlib.Core.Path.{◌≡◌, sym}
use lib.ListN.{length}
use Rattle.rules.specs.Kinds.{faces_of, code_of}
use Rattle.rules.specs.Sizes.{count}
use Rattle.rules.specs.Refusals.{◌or_else◌, buffer_refusal, no_cubemap_refusal, sampler_refusal, coordinates_refusal, finite_refusal}
use Rattle.rules.proofs.Refusing.{or_else-taken, answer-given}
use Rattle.rules.proofs.RefusingLookups.{coordinates-facts}
use Rattle.rules.proofs.Answering.{told_none, given_none, given_is}
use Rattle.rules.proofs.Inside.{mip-below}
use Rattle.places.specs.Samplers.{wrapping_of}
use Rattle.lookups.specs.Reads.{sample4_four}
use Rattle.lookups.proofs.nearest.sample4_places.Goals as goal
use Rattle.lookups.proofs.nearest.sample4_places.Goals.{In_ok-check_finite}

-- past the refusals
none : (c : goal.In_ok-check_finite) → let a = c.args in let p = a.picture in
    (buffer_refusal (count (faces_of (code_of p.kind)) p.width p.height) (length a.texels.now) or_else no_cubemap_refusal (code_of p.kind) or_else sampler_refusal a.sampler or_else coordinates_refusal a.u a.v or_else finite_refusal a.steps) ≡ 0
none c =
    or_else-taken _ _ (told_none _ (sym c.in_ok-layout.ensures.told))
    (or_else-taken _ _ (told_none _ (sym c.in_ok-check_no_cubemap.ensures))
    (or_else-taken _ _ (given_none _ _ _ (sym c.in_ok-by.ensures))
    (or_else-taken _ _ (told_none _ (sym c.in_ok-check_coordinates.ensures)) (told_none _ (sym c.in_ok-check_finite.ensures)))))

pub invariant_of-width : goal.invariant_of-width
invariant_of-width c = let s = c.args.picture.sides in record { is = (s.some-w, s.most-w) }

pub invariant_of-height : goal.invariant_of-height
invariant_of-height c = let s = c.args.picture.sides in record { is = (s.some-h, s.most-h) }

pub level_at-requires : goal.level_at-requires
level_at-requires c = rw (c.in_ok-layout.ensures.is, c.mip_level_of-level.ensures) (mip-below _ _ _)

pub invariant_of-u : goal.invariant_of-u
invariant_of-u c = record { taken = (coordinates-facts _ _ (told_none _ (sym c.in_ok-check_coordinates.ensures))).along-u }

pub invariant_of-v : goal.invariant_of-v
invariant_of-v c = record { taken = (coordinates-facts _ _ (told_none _ (sym c.in_ok-check_coordinates.ensures))).along-v }

pub returns : goal.returns
unfolding sample4_four wrapping_of
returns c =
    let by = given_is _ _ _ (sym c.in_ok-by.ensures) in
    rw (c.nearest_places.ensures, c.level_at.ensures, c.mip_level_of-level.ensures, c.in_ok-layout.ensures.is, by)
    (sym (answer-given _ _ _ (none (goal.at.returns c).In_ok-check_finite)))
