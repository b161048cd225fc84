-- A pattern's value in units of the smallest one, 2^-149, grows with the pattern: within one exponent by a step of the same width, and from the
-- last pattern of an exponent to the first of the next as well. Assumes nothing.
use mathlib.Core.Path.{◌≡◌, refl, sym, ap, ◌∙◌, subst}
use Prim.Native.Nat.{ℕ, zero, suc, ◌+◌, ◌-◌, ◌*◌, ◌/◌, ◌%◌, ◌^◌, ◌≤◌, ◌<◌}
use native.Mathlib.Nat.{le_trans, le_of_eq, le_of_lt, lt_of_lt_of_le, mul-lt-mul_of_pos_right, pow-succ'}
use native.Mathlib.Omega.{arith}
use mathlib.Core.Bool.{Bool, true, false, not, cond}
use lib.Dec.{T, ltb, ltb→lt, lt→ltb, nltb→le}
use lib.Arith.{le→nltb}
use lib.Pow.{pow_pos}
use Rattle.rules.specs.NearestValue.{units}

cond_yes : {X : Type 0} (b : Bool) (x y : X) → T b → cond b x y ≡ x
cond_yes true x y t = refl
cond_yes false x y t = absurd t

cond_no : {X : Type 0} (b : Bool) (x y : X) → T (not b) → cond b x y ≡ y
cond_no true x y t = absurd t
cond_no false x y t = refl

-- ---- the two cases of `units`
pub units-low : (b : ℕ) → b < 8388608 → units b ≡ b
unfolding units
units-low b h = cond_yes (ltb b 8388608) _ _ (lt→ltb b 8388608 h)

pub units-high : (b : ℕ) → 8388608 ≤ b → units b ≡ (8388608 + b % 8388608) * 2 ^ (b / 8388608 - 1)
unfolding units
units-high b h = cond_no (ltb b 8388608) _ _ (le→nltb b 8388608 h)

-- a pattern by its field and its digits
pub units-at : (x t : ℕ) → t < 8388608 → units (suc x * 8388608 + t) ≡ (8388608 + t) * 2 ^ x
units-at x t h =
    let b = suc x * 8388608 + t in
    let q : b / 8388608 - 1 ≡ x = omega arith in
    let r : b % 8388608 ≡ t = omega arith in
    units-high b (omega arith) ∙ ap (λ (z : ℕ). (8388608 + z) * 2 ^ (b / 8388608 - 1)) r ∙ ap (λ (z : ℕ). (8388608 + t) * 2 ^ z) q

-- ---- it grows at each step
split_pattern : (b : ℕ) → 8388608 ≤ b → b ≡ suc (b / 8388608 - 1) * 8388608 + b % 8388608
split_pattern b h = omega arith

step_same : (x t : ℕ) → t + 1 < 8388608 → units (suc x * 8388608 + t) < units (suc x * 8388608 + t + 1)
step_same x t h =
    let e : units (suc x * 8388608 + t + 1) ≡ (8388608 + (t + 1)) * 2 ^ x = ap units (regroup x t) ∙ units-at x (t + 1) h in
    rw (units-at x t (omega arith), e) (mul-lt-mul_of_pos_right (omega arith) (pow_pos x))
  where
    regroup : (x t : ℕ) → suc x * 8388608 + t + 1 ≡ suc x * 8388608 + (t + 1)
    regroup x t = omega arith

step-up : (x t : ℕ) → t ≡ 8388607 → units (suc x * 8388608 + t) < units (suc x * 8388608 + t + 1)
step-up x t h =
    let e : units (suc x * 8388608 + t + 1) ≡ (8388608 + 0) * 2 ^ suc x = ap units (regroup x t h) ∙ units-at (suc x) 0 (omega arith) in
    let p = pow_pos x in
    let d = pow-succ' 2 x in
    let g = units-at x t (omega arith) in
    let k : (8388608 + t) * 2 ^ x ≡ 16777215 * 2 ^ x = ap (λ (z : ℕ). (8388608 + z) * 2 ^ x) h in
    let l : 16777215 * 2 ^ x < (8388608 + 0) * 2 ^ suc x = rw d (omega arith) in
    rw (g, e, k) l
  where
    regroup : (x t : ℕ) → t ≡ 8388607 → suc x * 8388608 + t + 1 ≡ suc (suc x) * 8388608 + 0
    regroup x t h = omega arith

units-suc : (b : ℕ) → units b < units (b + 1)
units-suc b = go (ltb b 8388608) (ltb→lt b 8388608) (nltb→le b 8388608)
  where
    high : (x t : ℕ) (k : Bool) → t < 8388608 → (T k → t + 1 < 8388608) → (T (not k) → 8388608 ≤ t + 1) → units (suc x * 8388608 + t) < units (suc x * 8388608 + t + 1)
    high x t true l h g = step_same x t (h tt)
    high x t false l h g = let k = g tt in step-up x t (omega arith)

    low : (b : ℕ) (k : Bool) → b < 8388608 → (T k → b + 1 < 8388608) → (T (not k) → 8388608 ≤ b + 1) → units b < units (b + 1)
    low b true l h g = rw (units-low b l, units-low (b + 1) (h tt)) (omega arith)
    low b false l h g =
        let k = g tt in
        let e : units (b + 1) ≡ 8388608 = ap units (last b l k) ∙ units-at 0 0 (omega arith) in
        rw (units-low b l, e) l
      where
        last : (b : ℕ) → b < 8388608 → 8388608 ≤ b + 1 → b + 1 ≡ suc 0 * 8388608 + 0
        last b l k = omega arith

    go : (k : Bool) → (T k → b < 8388608) → (T (not k) → 8388608 ≤ b) → units b < units (b + 1)
    go true h g = low b (ltb (b + 1) 8388608) (h tt) (ltb→lt (b + 1) 8388608) (nltb→le (b + 1) 8388608)
    go false h g =
        let x = b / 8388608 - 1 in
        let t = b % 8388608 in
        subst (λ (z : ℕ). units z < units (z + 1)) (sym (split_pattern b (g tt)))
        (high x t (ltb (t + 1) 8388608) (omega arith) (ltb→lt (t + 1) 8388608) (nltb→le (t + 1) 8388608))

pub units_mono : (a k : ℕ) → units a ≤ units (a + k)
units_mono a zero = le_of_eq (ap units (none a))
  where
    none : (a : ℕ) → a ≡ a + 0
    none a = omega arith
units_mono a (suc k) = le_trans (units_mono a k) (le_trans (le_of_lt (units-suc (a + k))) (le_of_eq (ap units (more a k))))
  where
    more : (a k : ℕ) → a + k + 1 ≡ a + suc k
    more a k = omega arith

pub units-le : (a b : ℕ) → a ≤ b → units a ≤ units b
units-le a b h = subst (λ (z : ℕ). units a ≤ units z) (back a b h) (units_mono a (b - a))
  where
    back : (a b : ℕ) → a ≤ b → a + (b - a) ≡ b
    back a b h = omega arith

pub units_lt : (a b : ℕ) → a < b → units a < units b
units_lt a b h = lt_of_lt_of_le (units-suc a) (units-le (a + 1) b (omega arith))
