-- `txr::listing::list_levels` meets its contract: the chain that is listed is that of the file.
use native.Mathlib.Omega.{arith}
use mathlib.Core.Path.{◌≡◌, refl, sym, ap, subst, ◌∙◌}
use Rattle.std.proofs.Common.{ℕ, ◌≤◌, ◌*◌, length}
use lib.Seq.{length-take-le}
use lib.ListN.{length-drop}
use Rattle.rules.proofs.Answering.{told_none}
use Rattle.rules.proofs.Refusing.{answer-given}
use Rattle.std.specs.Prelude.{Ok}
use Rattle.txr.specs.File.{size_in, longest, file_refusal}
use Rattle.txr.proofs.Listings.{load-asked, texels_behind, chain-made, lines-found, chain-room}
use Rattle.txr.proofs.listing.list_levels.Goals as goal
use Rattle.txr.proofs.listing.list_levels.Goals.{After-level0}

taken : (c : goal.After-level0) → file_refusal c.args.input.now ≡ 0
taken c = told_none _ (sym c.in_ok-file.ensures.told)

size : (c : goal.After-level0) → c.level0.result ≡ size_in c.args.input.now
size c = let is = c.in_ok-file.ensures.picture in c.level0.ensures ∙ rw (is.0, is.1, is.2)

fits : (c : goal.After-level0) → c.level0.result ≤ longest
fits c = rw (size c) (load-asked c.args.input.now (taken c)).0

pub slice_bounds-texels-end : goal.slice_bounds-texels-end
slice_bounds-texels-end c = fits (goal.at.slice_bounds-texels-end c).After-level0

pub slice_bounds-put_bytes-end : goal.slice_bounds-put_bytes-end
slice_bounds-put_bytes-end c = sym (length-take-le _ _ (fits (goal.at.slice_bounds-put_bytes-end c).After-level0))

pub put_bytes-requires : goal.put_bytes-requires
put_bytes-requires c =
    let k = (goal.at.put_bytes-requires c).After-level0 in
    let input = c.args.input.now in
    let room : 4 * size_in input ≤ length c.in_ok-file.file.texels.now = rw (c.in_ok-file.ensures.texels, length-drop 10 input) (omega (arith, load-asked input (taken k))) in
    subst (λ (n : ℕ). 4 * n ≤ length c.in_ok-file.file.texels.now) (sym (length-take-le _ _ (fits k) ∙ size k)) room

pub returns-in_err-generate_mipmaps : goal.returns-in_err-generate_mipmaps
returns-in_err-generate_mipmaps c =
    let k = (goal.at.returns-in_err-generate_mipmaps c).After-level0 in
    let p = c.in_ok-file.file.picture in
    let is = c.in_ok-file.ensures.picture in
    absurd (chain-made c.args.input.now (taken k) c.code.result p.width p.height (c.code.ensures ∙ is.0) is.1 is.2 _ c.put_bytes.new.texels _ refl _ (c.put_bytes.ensures ∙ texels_behind _ _ _ c.in_ok-file.ensures.texels) (length-take-le _ _ (fits k) ∙ size k) (omega arith) _ c.in_err-generate_mipmaps.ensures.answer)

pub invariant_of-level_lines : goal.invariant_of-level_lines
invariant_of-level_lines c =
    let k = (goal.at.invariant_of-level_lines c).After-level0 in
    let is = c.in_ok-file.ensures.picture in
    record { room = chain-room c.args.input.now (taken k) _ _ _ is.0 is.1 is.2 _ (omega arith) }

pub returns : goal.returns
returns c =
    let k = (goal.at.returns c).After-level0 in
    let p = c.in_ok-file.file.picture in
    let is = c.in_ok-file.ensures.picture in
    let lines = lines-found c.args.input.now (taken k) c.code.result p.width p.height (c.code.ensures ∙ is.0) is.1 is.2 _ c.put_bytes.new.texels _ refl _ (c.put_bytes.ensures ∙ texels_behind _ _ _ c.in_ok-file.ensures.texels) (length-take-le _ _ (fits k) ∙ size k) (omega arith) _ c.generate_mipmaps.ensures.leaves in
    ap Ok (c.level_lines.ensures ∙ rw (← c.code.ensures) lines) ∙ sym (answer-given _ _ _ (taken k))
