-- The remainder of document 01 over the integers: t = k * d + r with r in 0..d-1, also for a negative t. For t = -1 - a with
-- a = q * d + m the remainder is d - 1 - m, and k is -1 - q. Only one r is so. Assumes nothing.
use mathlib.Core.Path.{◌≡◌, sym, ap, ◌∙◌}
use Prim.Native.Nat.{ℕ, zero, suc, ◌+◌, ◌-◌, ◌*◌, ◌/◌, ◌%◌, ◌<◌}
use native.Mathlib.Nat.{mod-lt, div-add-mod', add-mul, one-mul}
use native.Mathlib.Omega.{arith}
use lib.IntN.{ℤ, pos, negsuc, neg_ℤ, ◌+ℤ◌, ◌*ℤ◌}
use borrow.Author.Tests.{lt-ltb}
use Rattle.rules.specs.Wrapping.{remainder_of}

-- r is the remainder of t by d
pub record Rest (t : ℤ) (d r : ℕ) : Type 0 where
  pub times : ℤ
  pub small : r < d
  pub is : t ≡ times *ℤ pos d +ℤ pos r

-- -n + r, for r below n, is -1 - (n - 1 - r)
take-off : (n r : ℕ) → r < n → neg_ℤ (pos n) +ℤ pos r ≡ negsuc (n - suc r)
take-off zero r h = absurd (none r h)
  where
    none : (r : ℕ) → r < 0 → ⊥
    none r h = omega arith
take-off (suc n) r h = rw (lt-ltb r (suc n) h)

-- (q + 1) * d is q * d + d
pub suc-mul : (q d : ℕ) → suc q * d ≡ q * d + d
suc-mul q d = ap (λ (z : ℕ). z * d) (one q) ∙ add-mul q 1 d ∙ ap (λ (z : ℕ). q * d + z) (one-mul d)
  where
    one : (q : ℕ) → suc q ≡ q + 1
    one q = omega arith

pub rest : (t : ℤ) (d : ℕ) → 0 < d → Rest t d (remainder_of t d)
unfolding remainder_of
rest (pos a) d h = record { times = pos (a / d); small = mod-lt a h; is = ap pos (sym (div-add-mod' a d)) }
rest (negsuc a) d h =
    let m = mod-lt a h in
    let e = div-add-mod' a d in
    let s = suc-mul (a / d) d in
    record {
      times = negsuc (a / d);
      small = omega arith;
      is =
          sym
          (take-off (suc (a / d) * d) (d - 1 - a % d) (omega arith)
          ∙ ap negsuc (back (suc (a / d) * d) (a / d * d) (a % d) d a s m e));
    }
  where
    back : (n q m d a : ℕ) → n ≡ q + d → m < d → q + m ≡ a → n - suc (d - 1 - m) ≡ a
    back n q m d a s h e = omega arith
