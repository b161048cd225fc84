-- An answer by several numbers is that of the first, and where that refuses nothing the answer by the others; and so is what a buffer
-- holds. Stated as equations that the search rewrites by. Assumes nothing.
use mathlib.Core.Path.{◌≡◌, refl, sym, ap, ◌∙◌}
use mathlib.Core.Bool.{Bool, true, false, false≢true}
use mathlib.Core.List.{List}
use mathlib.Core.Logic.{⊎_elim}
use Prim.Native.Nat.{ℕ, zero, suc}
use native.Mathlib.Omega.{arith}
use borrow.Author.Tests.{ne_eqb}
use Rattle.std.specs.Prelude.{Result, Ok, Err}
use Rattle.rules.specs.declared.Refusal.{Refusal}
use Rattle.rules.specs.declared.Refusal.TheVariants.{UnknownKind, SideOutside, ShortBuffer, UnknownWrap, NumberOutside, LevelAbove, DirectionOutside, KindNotTaken, CrossOutside, CutOutside, NotTheFile, PlaceOutside, UnknownPacking}
use Rattle.rules.specs.Refusals.{◌or_else◌, number_of}
use Rattle.rules.specs.Answers.{answer, leaves, refused, told}
use Rattle.rules.proofs.Refusing.{answer-given, answer-refused, none_or_some}

-- what follows where nothing is refused
abbrev pub first : {A B : Type 0} → Result A Refusal → Result B Refusal → Result B Refusal
first (Ok given) next = next
first (Err refusal) next = Err refusal

-- what a buffer holds after it
abbrev pub kept : {A : Type 0} → Result A Refusal → List ℕ → List ℕ → List ℕ
kept (Ok given) found made = made
kept (Err refusal) found made = found

pub answer_or : {A : Type 0} (n m : ℕ) (a : A) → answer (n or_else m) refused (Ok a) ≡ first (told n) (answer m refused (Ok a))
unfolding answer ◌or_else◌
answer_or zero m a = refl
answer_or (suc n) m a = rw (ne_eqb (suc n) 0 (λ z. omega arith)) (rw (ne_eqb (suc n) 0 (λ z. omega arith)) refl)

pub answer_as : {A : Type 0} (n : ℕ) (a : A) → answer n refused (Ok a) ≡ first (told n) (Ok a)
unfolding answer
answer_as zero a = refl
answer_as (suc n) a = rw (ne_eqb (suc n) 0 (λ z. omega arith)) refl

pub leaves_or : (n m : ℕ) (found made : List ℕ) → leaves (n or_else m) found made ≡ kept (told n) found (leaves m found made)
unfolding answer ◌or_else◌
leaves_or zero m found made = refl
leaves_or (suc n) m found made = rw (ne_eqb (suc n) 0 (λ z. omega arith)) (rw (ne_eqb (suc n) 0 (λ z. omega arith)) refl)

pub leaves_as : (n : ℕ) (found made : List ℕ) → leaves n found made ≡ kept (told n) found made
unfolding answer
leaves_as zero found made = refl
leaves_as (suc n) found made = rw (ne_eqb (suc n) 0 (λ z. omega arith)) refl

-- the same where the others are told as one, by a call of their own
pub or_else_assoc : (n m k : ℕ) → ((n or_else m) or_else k) ≡ (n or_else (m or_else k))
unfolding ◌or_else◌
or_else_assoc zero m k = refl
or_else_assoc (suc n) m k = rw (ne_eqb (suc n) 0 (λ z. omega arith)) (rw (ne_eqb (suc n) 0 (λ z. omega arith)) refl)

pub answer_then : {A : Type 0} (n m : ℕ) (a : A) → answer (n or_else m) refused (Ok a) ≡ first (told n) (first (told m) (Ok a))
answer_then n m a = answer_or n m a ∙ ap (first (told n)) (answer_as m a)

pub leaves_then : (n m : ℕ) (found made : List ℕ) → leaves (n or_else m) found made ≡ kept (told n) found (kept (told m) found made)
leaves_then n m found made = leaves_or n m found made ∙ ap (kept (told n) found) (leaves_as m found made)

-- nothing is refused exactly where the number is 0
abbrev is-given : {A : Type 0} → Result A Refusal → Bool
is-given (Ok given) = true
is-given (Err refusal) = false

pub given_none : {A : Type 0} (n : ℕ) (a b : A) → answer n refused (Ok a) ≡ Ok b → n ≡ 0
given_none n a b e =
    ⊎_elim
    (λ none. none)
    (λ some. absurd (false≢true (ap is-given (sym (answer-refused n refused (Ok a) some) ∙ e))))
    (none_or_some n)

abbrev given-in : {A : Type 0} → A → Result A Refusal → A
given-in other (Ok given) = given
given-in other (Err refusal) = other

-- and what is given is the answer's
pub given_is : {A : Type 0} (n : ℕ) (a b : A) → answer n refused (Ok a) ≡ Ok b → b ≡ a
given_is n a b e = ap (given-in b) (sym e ∙ answer-given n refused (Ok a) (given_none n a b e))

pub told_none : (n : ℕ) → told n ≡ Ok tt → n ≡ 0
told_none n e = given_none n tt tt e

pub number-some : (refusal : Refusal) → number_of refusal ≡ 0 → ⊥
number-some UnknownKind e = omega arith
number-some SideOutside e = omega arith
number-some ShortBuffer e = omega arith
number-some UnknownWrap e = omega arith
number-some NumberOutside e = omega arith
number-some LevelAbove e = omega arith
number-some DirectionOutside e = omega arith
number-some KindNotTaken e = omega arith
number-some CrossOutside e = omega arith
number-some CutOutside e = omega arith
number-some NotTheFile e = omega arith
number-some PlaceOutside e = omega arith
number-some UnknownPacking e = omega arith
