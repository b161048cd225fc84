-- The nearest-value rule: the f32 that is nearest to a root, by its bit pattern, over whole numbers. Definitions only.
use Rattle.std.specs.Prelude.{ℕ, zero, suc, ◌+◌, ◌-◌, ◌*◌, ◌/◌, ◌%◌, ◌^◌, Bool, true, false, ◌&&◌, cond, leb, ltb, eqb}

-- the value of a pattern below the infinity's, in units of the smallest value, 2 ^ -149
unfoldable pub units : ℕ → ℕ
units b = cond (ltb b 8388608) b ((8388608 + b % 8388608) * 2 ^ (b / 8388608 - 1))

-- l ≤ v ≤ h, and with both ends left out where the Bool is false
abbrev pub within : Bool → ℕ → ℕ → ℕ → Bool
within true l v h = leb l v && leb v h
within false l v h = ltb l v && ltb v h

-- The pattern b is that of the f32 nearest to the number v with v ^ p = n / d; a tie goes to the even one. A half-way
-- point between two patterns is the sum of their values, in units of 2 ^ -150: v lies between the two about b, and on one of
-- them only where b is even.
unfoldable pub nearest_root : ℕ → ℕ → ℕ → ℕ → Bool
unfolding units
nearest_root p n d b = within (eqb (b % 2) 0) ((units (b - 1) + units b) ^ p * d) ((2 ^ 150) ^ p * n) ((units b + units (b + 1)) ^ p * d)

-- v is past the half-way point below b, or on it where b is even
unfoldable pub reaches : ℕ → ℕ → ℕ → ℕ → Bool
unfolding units
reaches p n d b = cond (eqb (b % 2) 0) (leb ((units (b - 1) + units b) ^ p * d) ((2 ^ 150) ^ p * n)) (ltb ((units (b - 1) + units b) ^ p * d) ((2 ^ 150) ^ p * n))

-- the greatest pattern that v reaches, by its binary digits from the k-th down: the nearest one (`nearest-found` of texel)
unfoldable pub found : ℕ → ℕ → ℕ → ℕ → ℕ → ℕ
unfolding reaches
found p n d zero b = b
found p n d (suc k) b = found p n d k (cond (reaches p n d (b + 2 ^ k)) (b + 2 ^ k) b)

-- the pattern of the f32 nearest to the p-th root of n / d
unfoldable pub root_pattern : ℕ → ℕ → ℕ → ℕ
unfolding found
root_pattern p n d = found p n d 31 0
