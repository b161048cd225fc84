-- A finite x lies within ±h exactly where its magnitude is at most h: -|x| ≤ x ≤ |x|, and negation turns the order round. The
-- order of finite values is total, so a test and its reverse are each other's negation. Assumes nothing.
use mathlib.Core.Path.{◌≡◌, refl, subst}
use mathlib.Core.Logic.{inl, inr}
use mathlib.Core.Bool.{Bool, true, false, not, cond}
use Prim.Native.Nat.{ℕ, ◌+◌, ◌*◌, ◌≤◌, ◌<◌}
use native.Mathlib.Nat.{lt_irrefl}
use native.Mathlib.Omega.{arith}
use lib.IntN.{ℤ}
use lib.Dec.{T, ltb, ltb→lt, nltb→le}
use lib.Ieee.{Float, nan, inf, fin, up, down, neg, le, lt, of_bits}
use lib.Ieee.Scale.{finite}
use Rattle.rules.specs.Floats.{Between, zero32, magnitude}
use Rattle.texel.proofs.Range.{lt→, →le, le_lt_trans, le-trans-finite, neg-finite, neg-order}
use Rattle.texel.proofs.Total.{le-or-lt}

-- two tests that say the same are equal
pub same_test : (a b : Bool) → (T a → T b) → (T b → T a) → a ≡ b
same_test true true f g = refl
same_test false false f g = refl
same_test true false f g = absurd (f tt)
same_test false true f g = absurd (g tt)

pub not_yes : (b : Bool) → (T b → ⊥) → T (not b)
not_yes true h = absurd (h tt)
not_yes false h = tt

pub yes-not : (b : Bool) → T (not b) → T b → ⊥
yes-not true h t = h
yes-not false h t = t

-- x ≤ y exactly where not y < x
clash : (x y : Float) → T (finite x) → T (finite y) → T (le x y) → T (lt y x) → ⊥
clash x y p q h k = lt_irrefl _ (lt→ x x p p (le_lt_trans x y x p q p h k))

pub le_not : (x y : Float) → T (finite x) → T (finite y) → le x y ≡ not (lt y x)
le_not x y p q =
    same_test (le x y) (not (lt y x))
    (λ h. not_yes (lt y x) (clash x y p q h))
    (λ h. elim (le-or-lt x y p q) [ inl k ↦ k | inr k ↦ absurd (yes-not (lt y x) h k) ])

pub neg-twice : (x : Float) → neg (neg x) ≡ x
unfolding neg
neg-twice nan = refl
neg-twice (inf true) = refl
neg-twice (inf false) = refl
neg-twice (fin true m e) = refl
neg-twice (fin false m e) = refl

-- a is the magnitude of x, both finite
pub record Sized (x a : Float) : Type 0 where
  pub whole : T (finite x)
  pub size : T (finite a)
  pub low : T (le (neg a) x)
  pub high : T (le x a)

same_size : (s t : Bool) (m : ℕ) (e : ℤ) → (T t → m * up e ≡ 0) → Sized (fin s m e) (fin t m e)
unfolding neg
same_size true true m e z =
    let k = z tt in
    record { whole = tt; size = tt; low = →le (fin false m e) (fin true m e) tt tt (rw k (omega arith)); high = →le (fin true m e) (fin true m e) tt tt (rw k (omega arith)) }
same_size false true m e z =
    let k = z tt in
    record { whole = tt; size = tt; low = →le (fin false m e) (fin false m e) tt tt (rw k (omega arith)); high = →le (fin false m e) (fin true m e) tt tt (rw k (omega arith)) }
same_size true false m e z =
    record { whole = tt; size = tt; low = →le (fin true m e) (fin true m e) tt tt (omega arith); high = →le (fin true m e) (fin false m e) tt tt (omega arith) }
same_size false false m e z =
    record { whole = tt; size = tt; low = →le (fin true m e) (fin false m e) tt tt (omega arith); high = →le (fin false m e) (fin false m e) tt tt (omega arith) }

pub sized : (x : Float) → T (finite x) → Sized x (magnitude x)
unfolding magnitude lt neg of_bits
sized nan h = absurd h
sized (inf s) h = absurd h
sized (fin false m e) h = go (ltb (m * up e * 1) (0 * 1 * down e)) (ltb→lt (m * up e * 1) (0 * 1 * down e))
  where
    go : (b : Bool) → (T b → m * up e * 1 < 0 * 1 * down e) → Sized (fin false m e) (cond b (fin true m e) (fin false m e))
    go true g = absurd (none (down e) (g tt))
      where
        none : (d : ℕ) → m * up e * 1 < 0 * 1 * d → ⊥
        none d h = omega arith
    go false g = same_size false false m e (λ t. absurd t)
sized (fin true m e) h = go (ltb 0 (m * up e * 1 + 0 * 1 * down e)) (nltb→le 0 (m * up e * 1 + 0 * 1 * down e))
  where
    go : (b : Bool) → (T (not b) → m * up e * 1 + 0 * 1 * down e ≤ 0) → Sized (fin true m e) (cond b (fin false m e) (fin true m e))
    go true g = same_size true false m e (λ t. absurd t)
    go false g = same_size true true m e (λ t. none (down e) (g tt))
      where
        none : (d : ℕ) → m * up e * 1 + 0 * 1 * d ≤ 0 → m * up e ≡ 0
        none d h = omega arith

pub within : (x a h : Float) → T (finite h) → Sized x a → T (le a h) → Between (neg h) x h
within x a h H s l =
    record {
      low = le-trans-finite (neg h) (neg a) x (neg-finite h H) (neg-finite a s.size) s.whole (neg-order h a l) s.low;
      high = le-trans-finite x a h s.whole s.size H s.high l;
    }

pub opposite : (x h : Float) → Between (neg h) x h → Between (neg h) (neg x) h
opposite x h b =
    record { low = neg-order h x b.high; high = subst (λ (w : Float). T (le (neg x) w)) (neg-twice h) (neg-order x (neg h) b.low) }

pub magnitude-le : (x h : Float) → Between (neg h) x h → T (le (magnitude x) h)
unfolding magnitude
magnitude-le x h b = go (lt x zero32)
  where
    go : (k : Bool) → T (le (cond k (neg x) x) h)
    go true = (opposite x h b).high
    go false = b.high
