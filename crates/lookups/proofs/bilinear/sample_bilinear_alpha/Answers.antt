-- `lookups::bilinear::sample_bilinear_alpha` meets its contract: past the refusals the answer comes from the places that it reads.
use mathlib.Core.Path.{◌≡◌, sym, ap, ◌∙◌, subst}
use Rattle.std.specs.Prelude.{Ok}
use lib.ListN.{length}
use Rattle.rules.specs.Kinds.{faces_of}
use Rattle.rules.specs.Places.{plane_of}
use Rattle.rules.specs.Refusals.{bilinear_alpha_refusal}
use Rattle.rules.proofs.Refusing.{or_else-taken}
use Rattle.rules.proofs.RefusingLookups.{BilinearAlpha, bilinear-alpha-facts}
use Rattle.rules.proofs.Answering.{told_none, given_none, given_is}
use Rattle.lane.specs.Reading.{AllWithin, blended_alpha}
use Rattle.places.specs.Sized.{Below}
use Rattle.places.specs.Samplers.{wrapping_of}
use Rattle.lookups.proofs.Answering.{first-below, level-faces, level-squares, bilinear-alpha-read}
use Rattle.lookups.proofs.bilinear.sample_bilinear_alpha.Goals as goal
use Rattle.lookups.proofs.bilinear.sample_bilinear_alpha.Goals.{After-first_faces, After-level_at, In_ok-by}

-- past the refusals
none : (c : goal.In_ok-by) → let a = c.args in bilinear_alpha_refusal a.kind a.width a.height (length a.texels.now) a.sampler a.u a.v a.level ≡ 0
unfolding bilinear_alpha_refusal
none c =
    let given = c.in_ok-layout.ensures in
    let is = given.is in
    let face = told_none _ (sym c.in_ok-check_no_cubemap.ensures) in
    let rest = given_none _ _ _ (sym c.in_ok-by.ensures) in
    or_else-taken _ _ (told_none _ (sym given.told)) (or_else-taken _ _ (rw is.0 at face) (rw (is.1, is.2) at rest))

facts : (c : goal.In_ok-by) → let a = c.args in BilinearAlpha a.kind a.width a.height (length a.texels.now) a.sampler a.u a.v a.level
facts c = bilinear-alpha-facts _ _ _ _ _ _ _ _ (none c)

-- the level and the modes
at : (c : goal.After-level_at) → let a = c.args in (c.level_at.result.plane ≡ plane_of a.kind a.width a.height a.level) × (c.in_ok-by.by ≡ wrapping_of a.sampler)
at c = let is = c.in_ok-layout.ensures.is in (c.level_at.ensures ∙ rw (is.0, is.1, is.2), given_is _ _ _ (sym c.in_ok-by.ensures))

-- each lane's face is one of the picture's
below : (c : goal.After-first_faces) → Below (faces_of c.args.kind) c.first_faces.result
below c = rw c.first_faces.ensures (first-below c.args.kind)

pub level_at-requires : goal.level_at-requires
level_at-requires c =
    let is = c.in_ok-layout.ensures.is in
    rw (is.1, is.2) (facts (goal.at.level_at-requires c).In_ok-by).blended.below

pub invariant_of-u : goal.invariant_of-u
invariant_of-u c = record { taken = (facts (goal.at.invariant_of-u c).In_ok-by).blended.coordinates.along-u }

pub invariant_of-v : goal.invariant_of-v
invariant_of-v c = record { taken = (facts (goal.at.invariant_of-v c).In_ok-by).blended.coordinates.along-v }

pub squares-at-requires : goal.squares-at-requires
squares-at-requires c =
    let a = c.args in
    let f = facts (goal.at.squares-at-requires c).In_ok-by in
    let e = at (goal.at.squares-at-requires c).After-level_at in
    level-faces a.kind a.width a.height a.texels.now a.sampler a.u a.v a.level e.0 e.1 _ (below (goal.at.squares-at-requires c).After-first_faces)

pub squares_alpha-requires : goal.squares_alpha-requires
squares_alpha-requires c =
    let a = c.args in
    let f = facts (goal.at.squares_alpha-requires c).In_ok-by in
    let e = at (goal.at.squares_alpha-requires c).After-level_at in
    subst (AllWithin _) (sym c.squares-at.ensures) (level-squares a.kind a.width a.height _ a.sampler a.u a.v a.level e.0 e.1 _ (below (goal.at.squares_alpha-requires c).After-first_faces) f.chained f.blended.below)

pub returns : goal.returns
returns c =
    let a = c.args in
    let e = at (goal.at.returns c).After-level_at in
    record {
      answer = ap Ok (c.squares_alpha.ensures ∙ ap (blended_alpha _) (rw c.first_faces.ensures at c.squares-at.ensures)) ∙ sym (bilinear-alpha-read a.kind a.width a.height _ a.sampler a.u a.v a.level e.0 e.1 (none (goal.at.returns c).In_ok-by));
    }
