-- Numbers as text, in ASCII. Definitions only.
use Rattle.std.specs.Prelude.{cond, List, [], ◌∷◌, ◌++◌, ℕ, zero, suc, ◌+◌, ◌/◌, ◌%◌, ltb}

-- a digit below 16: `0` to `9`, then capital `A` to `F`
unfoldable pub digit_of : ℕ → ℕ
digit_of d = cond (ltb d 10) (48 + d) (55 + d)

-- the last k digits of n in a base, the most significant first
unfoldable pub digits_of : ℕ → ℕ → ℕ → List ℕ
digits_of base zero n = []
digits_of base (suc k) n = digits_of base k (n / base) ++ (digit_of (n % base) ∷ [])

-- how often n can be divided by ten before it is below ten, and one more. The first argument bounds the divisions
unfoldable pub places_in : ℕ → ℕ → ℕ
places_in zero n = 1
places_in (suc k) n = cond (ltb n 10) 1 (suc (places_in k (n / 10)))

-- how many decimal digits n has
unfoldable pub places_of : ℕ → ℕ
places_of n = places_in n n

-- a number in decimal
unfoldable pub decimal_of : ℕ → List ℕ
decimal_of n = digits_of 10 (places_of n) n

-- a texel as eight hex digits
unfoldable pub hex_of : ℕ → List ℕ
hex_of t = digits_of 16 8 t
