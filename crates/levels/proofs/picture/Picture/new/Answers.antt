-- `levels::picture::Picture::new` meets its contract: what is not refused has a kind that is known, and sides that are taken.
use mathlib.Core.Path.{sym, ap, ◌∙◌, refl}
use Rattle.rules.specs.Kinds.{code_of}
use Rattle.rules.proofs.Bounds.{faces-some, faces-most}
use Rattle.rules.proofs.Refusing.{kind-facts, kind_coded, sides-facts}
use Rattle.rules.proofs.Answering.{given_none, given_is, told_none}
use Rattle.levels.proofs.picture.Picture.new.Goals as goal

pub invariant_of-result : goal.invariant_of-result
invariant_of-result c =
    let s = sides-facts _ _ (told_none _ (sym (c.in_ok-check_sides.ensures))) in
    let F = code_of c.in_ok-kind.kind in
    record {
      sides = record { some-f = faces-some F; most-f = faces-most F; some-w = s.some-w; most-w = s.most-w; some-h = s.some-h; most-h = s.most-h };
    }

pub returns-clause-is : goal.returns-clause-is
returns-clause-is c =
    let e = sym (c.in_ok-kind.ensures) in
    (ap code_of (given_is _ _ _ e) ∙ kind_coded _ (kind-facts _ (given_none _ _ _ e)), refl, refl)
