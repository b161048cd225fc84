-- How many bytes numbers, lines and the listing take: a digit each, and no number here has more than four decimal digits.
-- Assumes nothing.
use mathlib.Core.Path.{◌≡◌, refl, sym, ap, ◌∙◌}
use mathlib.Core.List.{List, [], ◌∷◌, ◌++◌}
use Prim.Native.Nat.{ℕ, zero, suc, ◌+◌, ◌-◌, ◌/◌, ◌%◌, ◌≤◌, ◌<◌}
use native.Mathlib.Nat.{le_refl}
use native.Mathlib.Decide.{dec_le}
use native.Mathlib.Omega.{arith}
use lib.ListN.{length, length-append}
use borrow.Author.Tests.{lt-ltb, le-ltb}
use Rattle.txr.specs.Digits.{digit_of, digits_of, places_in, places_of, decimal_of, hex_of}
use Rattle.txr.specs.Listing.{field_of, line_of, refused_line}

-- a page that grew
pub grown : (a b : List ℕ) {s : List ℕ} → s ≡ a ++ b → length s ≡ length a + length b
grown a b e = ap length e ∙ length-append a b

pub length_digits : (base k n : ℕ) → length (digits_of base k n) ≡ k
unfolding digits_of
length_digits base zero n = refl
length_digits base (suc k) n = length-append (digits_of base k (n / base)) _ ∙ omega (arith, length_digits base k (n / base))

-- no digits, and one more
pub digits-none : (base k n : ℕ) → k ≡ 0 → digits_of base k n ≡ []
unfolding digits_of
digits-none base k n e = rw e

pub digits_more : (base k n : ℕ) → (k ≡ 0 → ⊥) → digits_of base k n ≡ digits_of base (k - 1) (n / base) ++ (digit_of (n % base) ∷ [])
unfolding digits_of
digits_more base zero n some = absurd (some refl)
digits_more base (suc k) n some = let same : suc k - 1 ≡ k = omega arith in rw same

-- ---- how many decimal digits

places-small : (n : ℕ) → n < 10 → (k : ℕ) → places_in k n ≡ 1
unfolding places_in
places-small n lt zero = refl
places-small n lt (suc k) = rw (lt-ltb n 10 lt)

places-step : (k n : ℕ) → 10 ≤ n → places_in (suc k) n ≡ suc (places_in k (n / 10))
unfolding places_in
places-step k n le = rw (le-ltb n 10 le)

-- the bound does not matter where it is large enough
places-bound : (k j n : ℕ) → n ≤ k → n ≤ j → places_in k n ≡ places_in j n
places-bound zero j n p q = places-small n (omega arith) zero ∙ sym (places-small n (omega arith) j)
places-bound (suc k) zero n p q = places-small n (omega arith) (suc k) ∙ sym (places-small n (omega arith) zero)
places-bound (suc k) (suc j) n p q =
    elim (dec_le 10 n) [
      | yes le ↦ rw (places-step k n le, places-step j n le, places-bound k j (n / 10) (omega arith) (omega arith))
      | no less ↦ rw (places-small n (omega arith) (suc k), places-small n (omega arith) (suc j))
    ]

-- one digit, and one more than the quotient has
pub places_one : (n : ℕ) → n < 10 → places_of n ≡ 1
unfolding places_of
places_one n lt = places-small n lt n

pub places_more : (n : ℕ) → 10 ≤ n → places_of n ≡ suc (places_of (n / 10))
unfolding places_of
places_more zero le = absurd (omega arith)
places_more (suc n) le = places-step n (suc n) le ∙ ap suc (places-bound n (suc n / 10) (suc n / 10) (omega arith) (le_refl _))

pub places-pos : (n : ℕ) → 0 < places_of n
places-pos n = elim (dec_le 10 n) [ yes le ↦ omega (arith, places_more n le) | no less ↦ omega (arith, places_one n (omega arith)) ]

pub length_decimal : (n : ℕ) → length (decimal_of n) ≡ places_of n
unfolding decimal_of
length_decimal n = length_digits 10 (places_of n) n

pub length-hex : (t : ℕ) → length (hex_of t) ≡ 8
unfolding hex_of
length-hex t = length_digits 16 8 t

-- ---- lines

pub length-field : (n : ℕ) → length (field_of n) ≡ places_of n + 1
unfolding field_of
length-field n = length-append (decimal_of n) _ ∙ omega (arith, length_decimal n)

pub length-line : (m w h t : ℕ) → length (line_of m w h t) ≡ length (field_of m) + length (field_of w) + length (field_of h) + 9
unfolding line_of
length-line m w h t = simp length-append (omega (arith, length-hex t))

pub length-refused : (n : ℕ) → length (refused_line n) ≡ places_of n + 9
unfolding refused_line
length-refused n = simp length-append (omega (arith, length_decimal n))
