-- What a rule makes of four that each come of one of four others. Assumes nothing.
use mathlib.Core.Path.{◌≡◌, ◌∙◌}
use Rattle.kinds.specs.declared.channel.Quad.{Quad}
use Rattle.kinds.specs.Quads.{Each}

pub by-each : {A B C : Type 0} (of : A → B) (rule : B → B → B → B → C) {q : Quad A} {r : Quad B} {v : C} → Each (λ x y. y ≡ of x) q r
    → v ≡ rule r.p00 r.p10 r.p01 r.p11 → v ≡ rule (of q.p00) (of q.p10) (of q.p01) (of q.p11)
by-each of rule e is = is ∙ rw (e.first, e.second, e.third, e.fourth)
