use native.Mathlib.Omega.{arith}
use mathlib.Core.Path.{sym, ◌∙◌}
use mathlib.Core.List.{append_assoc, append-nil}
use Prim.Native.Nat.{◌-◌, ◌/◌}
use Rattle.txr.specs.Digits.{digits_of}
use Rattle.txr.proofs.Spelling.{grown, length_digits, digits-none, digits_more}
use Rattle.txr.proofs.page.Page.+digits.Goals as goal

pub text-requires : goal.text-requires
text-requires t c =
    let a = c.args in
    omega (arith, grown a.self.now (digits_of a.base (a.k - 1) (a.n / a.base)) c.digits.ensures, length_digits a.base (a.k - 1) (a.n / a.base))

pub returns-then-k-ne0 : goal.returns-then-k-ne0
returns-then-k-ne0 t c =
    let a = c.args in
    c.text.ensures ∙ rw (c.digits.ensures, c.digit.ensures, digits_more a.base a.k a.n c.if-k-ne0.true, append_assoc)

pub returns-else-k-ne0 : goal.returns-else-k-ne0
returns-else-k-ne0 t c = let a = c.args in rw (digits-none a.base a.k a.n c.if-k-ne0.false) (sym (append-nil a.self.now))
