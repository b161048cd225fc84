-- Turns, one after the other. Each adds its step to what the turns before it left; n turns from a column on, after those of the columns
-- before it, are the turns of all these columns; and what each step keeps, all of them keep: one induction, over columns, rows and faces.
-- So what every texel keeps, and unlit has, the sums have. Assumes nothing.
use mathlib.Core.Path.{◌≡◌, refl, sym, ap, ◌∙◌}
use mathlib.Core.List.{List}
use Prim.Native.Nat.{ℕ, zero, suc, ◌+◌, ◌≤◌, ◌<◌}
use native.Mathlib.Nat.{add-zero, add-suc}
use native.Mathlib.Omega.{arith}
use native.Mathlib.Numerals.{add-one}
use Rattle.rules.specs.Irradiance.{Sh4}
use Rattle.rules.specs.Irradiance.{in_turn, with_texel, unlit, sums_of}
use Rattle.irradiance.specs.Turns.{in_turn_from}

module _ {A : Type 0} (step : ℕ → A → A) where
  -- no turn yet, one more, and all of them
  pub turn_first : (s : A) → s ≡ in_turn 0 step s
  unfolding in_turn
  turn_first s = refl

  pub turn_next : (n : ℕ) (s r t : A) → t ≡ step n r → r ≡ in_turn n step s → t ≡ in_turn (n + 1) step s
  unfolding in_turn
  turn_next n s r t e h = rw (add-one n) (e ∙ ap (step n) h)

  pub turn_all : (m n : ℕ) (s r : A) → m ≤ n → n ≤ m → r ≡ in_turn m step s → r ≡ in_turn n step s
  turn_all m n s r most least h = let e : m ≡ n = omega arith in rw e at h

  -- the same of turns from a column on
  pub from_first : (from : ℕ) (s : A) → s ≡ in_turn_from from 0 step s
  unfolding in_turn_from
  from_first from s = refl

  pub from_next : (from n : ℕ) (s r t : A) → t ≡ step (from + n) r → r ≡ in_turn_from from n step s → t ≡ in_turn_from from (n + 1) step s
  unfolding in_turn_from
  from_next from n s r t e h = rw (add-one n) (e ∙ ap (step (from + n)) h)

  turns-joined : (from n : ℕ) (s : A) → in_turn_from from n step (in_turn from step s) ≡ in_turn (from + n) step s
  unfolding in_turn in_turn_from
  turns-joined from zero s = rw (add-zero from)
  turns-joined from (suc n) s = rw (add-suc from n) (ap (step (from + n)) (turns-joined from n s))

  -- a part more
  pub turn_part : (from n all : ℕ) (s r t : A) → from + n ≡ all → t ≡ in_turn_from from n step r → r ≡ in_turn from step s → t ≡ in_turn all step s
  turn_part from n all s r t a e h = rw (sym a) (e ∙ ap (in_turn_from from n step) h ∙ turns-joined from n s)

-- steps that are alike
pub turns-alike : {A : Type 0} (from n : ℕ) (step other : ℕ → A → A) (s : A) → ((i : ℕ) → i < n → (a : A) → step (from + i) a ≡ other (from + i) a)
    → in_turn_from from n step s ≡ in_turn_from from n other s
unfolding in_turn_from
turns-alike from zero step other s e = refl
turns-alike from (suc n) step other s e =
    e n (omega arith) (in_turn_from from n step s) ∙ ap (other (from + n)) (turns-alike from n step other s (λ i h. e i (omega arith)))

pub turns-keep : {A : Type 0} (P : A → Type 0) (n : ℕ) (step : ℕ → A → A) (s : A) → ((i : ℕ) → i < n → (a : A) → P a → P (step i a)) → P s → P (in_turn n step s)
unfolding in_turn
turns-keep P zero step s k p = p
turns-keep P (suc n) step s k p = k n (omega arith) (in_turn n step s) (turns-keep P n step s (λ i h. k i (omega arith)) p)

pub sums-keep : (P : Sh4 → Type 0) (w h : ℕ) (l : List ℕ) → ((f y x : ℕ) → f < 6 → y < h → x < w → (s : Sh4) → P s → P (with_texel w h l f y x s)) → P unlit
    → P (sums_of w h l)
unfolding sums_of
sums-keep P w h l k p = turns-keep P 6 _ unlit (λ f a s q. turns-keep P h _ s (λ y b t r. turns-keep P w _ t (λ x c. k f y x a b c) r) q) p
