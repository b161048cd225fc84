-- The greatest power of 4 up to a footprint, in the paper's words, and as half of the exponent of max(footprint, 1): 4^j is at most an
-- f from 1 up exactly where 2j is at most the exponent that f's bit pattern holds, since both say 2^(2j + 149) ≤ f in units of 2^-149.
-- Assumes nothing.
use mathlib.Core.Path.{◌≡◌, refl, sym, ap, ◌∙◌, subst}
use mathlib.Core.Logic.{◌⊎◌, inl, inr}
use mathlib.Core.Bool.{Bool, true, false, not, cond, ◌&&◌, ◌||◌}
use Prim.Native.Nat.{ℕ, zero, suc, ◌+◌, ◌-◌, ◌*◌, ◌/◌, ◌^◌, ◌≤◌, ◌<◌, min}
use native.Mathlib.Nat.{le_trans, le_of_lt, le_of_eq, lt_of_lt_of_le, lt_of_not-le, lt_irrefl, zero-lt-suc, mul-one, mul_right_comm, mul-le-mul_right, le_of_mul-le-mul_right, le_of_suc-le-suc, le-suc, eq-or-lt_of_le, pow-suc, pow-le-pow_right, le-div_iff_mul-le, div-lt_iff_lt-mul}
use native.Mathlib.Omega.{arith}
use lib.IntN.{ℤ, pos}
use lib.Dec.{T, leb, ltb, eqb, leb→le, le→leb, ltb→lt, lt→ltb, eqb→eq, lit≤}
use lib.Pow.{pow_pos, pow_mono, pow-add}
use lib.Ieee.{Float, nan, inf, fin, binary32, up, down, lt, eq, le, of_int, of_bits, to_bits, is_nan, size}
use lib.Ieee.Fits.{down_pos, and_l}
use lib.Ieee.Exact.{HasValue}
use lib.Ieee.Back.{round_whole}
use lib.Ieee.Order.{le_of_values}
use lib.Ieee.Digits.{size-lt, size_reaches}
use borrow.Author.Tests.{le-leb, lt-leb, leb-true, leb-false}
use Rattle.rules.specs.Floats.{float, one32}
use Rattle.rules.specs.Footprint.{four_of}
use Rattle.places.proofs.Magnitudes.{same_test}
use Rattle.places.proofs.Taken.{or_l, or_split}
use Rattle.places.proofs.Wholes.{only_zero}

-- ---- a whole number a beside a float
whole : (a : ℕ) → a ≤ 16777216 → HasValue (float a) false a 1
unfolding of_int
whole a h = round_whole binary32 false a h

-- beside m * 2^e the test is one of whole numbers
pub whole_le : (a : ℕ) (x : Float) (m : ℕ) (e : ℤ) → HasValue x false a 1 → le x (fin false m e) ≡ leb (a * down e) (m * up e)
whole_le a nan m e v = absurd v
whole_le a (inf s) m e v = absurd v
whole_le a (fin true k d) m e v = absurd (subst T v.0 tt)
whole_le a (fin false k d) m e v =
    same_test (le (fin false k d) (fin false m e)) (leb (a * down e) (m * up e))
    (λ t. le→leb (a * down e) (m * up e) (cross (k * up d) (down d) a (m * up e) (down e) (down_pos d) v.1 (split (k * up d * down e) (m * up e * down d) (unfold le lt eq in t))))
    (λ t. le_of_values (fin false k d) (fin false m e) a 1 (m * up e) (down e) (zero-lt-suc 0) (down_pos e) v (refl, refl) (subst (λ (z : ℕ). a * down e ≤ z) (sym (mul-one (m * up e))) (leb→le (a * down e) (m * up e) t)))
  where
    split : (a b : ℕ) → T (ltb a b || (eqb a b && true)) → a ≤ b
    split a b t = elim (or_split (ltb a b) (eqb a b && true) t) [ inl u ↦ le_of_lt (ltb→lt a b u) | inr u ↦ le_of_eq (eqb→eq a b (and_l (eqb a b) true u)) ]

    cross : (K D a A E : ℕ) → 0 < D → K * 1 ≡ a * D → K * E ≤ A * D → a * E ≤ A
    cross K D a A E h v l =
        le_of_mul-le-mul_right
        (subst (λ (z : ℕ). z ≤ A * D) (ap (λ (z : ℕ). z * E) (sym (mul-one K) ∙ v) ∙ mul_right_comm a D E) l)
        h

-- what is at least a whole number from 2 up is above 1
above-one : (a : ℕ) (x f : Float) → 2 ≤ a → HasValue x false a 1 → T (le x f) → T (lt one32 f)
unfolding lt of_bits
above-one a nan f h v t = absurd v
above-one a (inf s) f h v t = absurd v
above-one a (fin true k d) f h v t = absurd (subst T v.0 tt)
above-one a (fin false k d) nan h v t = unfold le eq in t
above-one a (fin false k d) (inf true) h v t = unfold le eq in t
above-one a (fin false k d) (inf false) h v t = tt
above-one a (fin false k d) (fin true m e) h v t = let z = (only_zero m e (fin false k d) a 1 (zero-lt-suc 0) v t).0 in absurd (none z)
  where
    none : a ≡ 0 → ⊥
    none z = omega arith
above-one a (fin false k d) (fin false m e) h v t =
    lt→ltb (1 * down e) (m * up e * 1) (more (m * up e) (down e) (down_pos e) (leb→le (a * down e) (m * up e) (subst T (whole_le a (fin false k d) m e v) t)))
  where
    more : (A D : ℕ) → 0 < D → a * D ≤ A → 1 * D < A * 1
    more A D l u = let k : 2 * D ≤ a * D = mul-le-mul_right D h in omega arith

-- ---- powers of 4
pub four-two : (j : ℕ) → 4 ^ j ≡ 2 ^ (2 * j)
four-two zero = refl
four-two (suc j) = pow-suc 4 j ∙ ap (λ (z : ℕ). z * 4) (four-two j) ∙ sym (pow-add 2 (2 * j) 2) ∙ ap (λ (z : ℕ). 2 ^ z) (two j)
  where
    two : (j : ℕ) → 2 * j + 2 ≡ 2 * suc j
    two j = omega arith

pub four-le : (i j : ℕ) → i ≤ j → 4 ^ i ≤ 4 ^ j
four-le i j h = pow-le-pow_right {n = 4} (zero-lt-suc 3) h

pub power : (j : ℕ) → j ≤ 12 → HasValue (float (4 ^ j)) false (4 ^ j) 1
power j h = whole (4 ^ j) (four-le j 12 h)

-- ---- the exponent: n has s binary digits, and s - 23 stands in the pattern above the 23 digits below the leading one
reaches : (i n : ℕ) → leb (2 ^ i) n ≡ leb (suc i) (size n)
reaches i n =
    same_test (leb (2 ^ i) n) (leb (suc i) (size n))
    (λ t. le→leb (suc i) (size n) (lt_of_not-le (λ h. lt_irrefl n (lt_of_lt_of_le (size-lt n) (le_trans (pow_mono h) (leb→le (2 ^ i) n t))))))
    (λ t. le→leb (2 ^ i) n (size_reaches n i (leb→le (suc i) (size n) t)))

field : (n : ℕ) → 8388608 ≤ n → (0 + (size n - 24) * 8388608 + n / 2 ^ (size n - 24)) / 8388608 + 23 ≡ size n
field n h =
    go (size n) (leb→le 24 (size n) (subst T (reaches 23 n) (le→leb 8388608 n h))) (size-lt n) (size_reaches n (size n - 1))
  where
    go : (s : ℕ) → 24 ≤ s → n < 2 ^ s → (s - 1 < s → 2 ^ (s - 1) ≤ n) → (0 + (s - 24) * 8388608 + n / 2 ^ (s - 24)) / 8388608 + 23 ≡ s
    go s l u r =
        let a : 2 ^ s ≡ 16777216 * 2 ^ (s - 24) = ap (λ (z : ℕ). 2 ^ z) (split s 24 l) ∙ pow-add 2 24 (s - 24) in
        let b : 2 ^ (s - 1) ≡ 8388608 * 2 ^ (s - 24) = ap (λ (z : ℕ). 2 ^ z) (less s l) ∙ pow-add 2 23 (s - 24) in
        let most : n / 2 ^ (s - 24) < 16777216 = (div-lt_iff_lt-mul (pow_pos (s - 24))).1 (subst (λ (z : ℕ). n < z) a u) in
        let least : 8388608 ≤ n / 2 ^ (s - 24) = (le-div_iff_mul-le (pow_pos (s - 24))).1 (subst (λ (z : ℕ). z ≤ n) b (r (omega arith))) in
        sum (s - 24) (n / 2 ^ (s - 24)) least most (omega arith)
      where
        split : (s k : ℕ) → k ≤ s → s ≡ k + (s - k)
        split s k h = omega arith

        less : (s : ℕ) → 24 ≤ s → s - 1 ≡ 23 + (s - 24)
        less s h = omega arith

        sum : (k q : ℕ) → 8388608 ≤ q → q < 16777216 → k + 24 ≡ s → (0 + k * 8388608 + q) / 8388608 + 23 ≡ s
        sum k q h l e = omega arith

-- f in units of 2^-149, beside 2^(i + 149)
units : (i A D : ℕ) → 0 < D → leb (2 ^ i * D) A ≡ leb (2 ^ (i + 149)) (A * 2 ^ 149 / D)
units i A D h =
    same_test (leb (2 ^ i * D) A) (leb (2 ^ (i + 149)) (A * 2 ^ 149 / D))
    (λ t. le→leb (2 ^ (i + 149)) (A * 2 ^ 149 / D) ((le-div_iff_mul-le h).1 (subst (λ (z : ℕ). z ≤ A * 2 ^ 149) (move i D) (mul-le-mul_right (2 ^ 149) (leb→le (2 ^ i * D) A t)))))
    (λ t. le→leb (2 ^ i * D) A (le_of_mul-le-mul_right (subst (λ (z : ℕ). z ≤ A * 2 ^ 149) (sym (move i D)) ((le-div_iff_mul-le h).0 (leb→le (2 ^ (i + 149)) (A * 2 ^ 149 / D) t))) (pow_pos 149)))
  where
    move : (i D : ℕ) → 2 ^ i * D * 2 ^ 149 ≡ 2 ^ (i + 149) * D
    move i D = mul_right_comm (2 ^ i) D (2 ^ 149) ∙ ap (λ (z : ℕ). z * D) (sym (pow-add 2 i 149))

-- what the pattern of an f from 1 up says of the powers of 4
pub record Exponent (f : Float) (x : ℕ) : Type 0 where
  pub least : 127 ≤ x
  pub test : (j : ℕ) → j ≤ 12 → le (float (4 ^ j)) f ≡ leb (2 * j + 127) x

by_size : (n x : ℕ) → x + 23 ≡ size n → T (leb (2 ^ 149) n) → 127 ≤ x
by_size n x e t = let l = leb→le 150 (size n) (subst T (reaches 149 n) t) in omega arith

by_digits : (i n x : ℕ) → x + 23 ≡ size n → leb (2 ^ (i + 149)) n ≡ leb (i + 127) x
by_digits i n x e =
    reaches (i + 149) n
    ∙ same_test (leb (suc (i + 149)) (size n)) (leb (i + 127) x)
    (λ t. le→leb (i + 127) x (let l = leb→le (suc (i + 149)) (size n) t in omega arith))
    (λ t. le→leb (suc (i + 149)) (size n) (let l = leb→le (i + 127) x t in omega arith))

exponent-fin : (m : ℕ) (e : ℤ) → T (le one32 (fin false m e)) → Exponent (fin false m e) (to_bits binary32 (fin false m e) / 8388608)
unfolding to_bits of_bits
exponent-fin m e t =
    let n = m * up e * 2 ^ 149 / down e in
    let x = (0 + (size n - 24) * 8388608 + n / 2 ^ (size n - 24)) / 8388608 in
    let big : T (leb (2 ^ 149) n) = subst T (whole_le 1 (fin false 1 (pos 0)) m e (refl, refl) ∙ units 0 (m * up e) (down e) (down_pos e)) t in
    let s : x + 23 ≡ size n = field n (le_trans (pow_mono {i = 23} {j = 149} (lit≤ tt)) (leb→le (2 ^ 149) n big)) in
    record {
      least = by_size n x s big;
      test = λ j h.
          whole_le (4 ^ j) (float (4 ^ j)) m e (power j h)
          ∙ ap (λ (z : ℕ). leb (z * down e) (m * up e)) (four-two j)
          ∙ units (2 * j) (m * up e) (down e) (down_pos e)
          ∙ by_digits (2 * j) n x s;
    }

pub below_inf : (a : ℕ) (x : Float) → HasValue x false a 1 → le x (inf false) ≡ true
unfolding le lt eq
below_inf a nan v = absurd v
below_inf a (inf s) v = absurd v
below_inf a (fin s k d) v = refl

exponent : (f : Float) → T (le one32 f) → Exponent f (to_bits binary32 f / 8388608)
exponent nan t = absurd (unfold le lt eq of_bits in t)
exponent (inf true) t = absurd (unfold le lt eq of_bits in t)
exponent (inf false) t = unfold to_bits in record { least = lit≤ tt; test = λ j h. below_inf (4 ^ j) (float (4 ^ j)) (power j h) ∙ sym (all j h) }
  where
    all : (j : ℕ) → j ≤ 12 → leb (2 * j + 127) 255 ≡ true
    all j h = le-leb (2 * j + 127) 255 (omega arith)
exponent (fin true m e) t = absurd (some (only_zero m e (fin false 1 (pos 0)) 1 1 (zero-lt-suc 0) (refl, refl) (unfold of_bits in t)).0)
  where
    some : ◌≡◌ {A = ℕ} 1 0 → ⊥
    some e = omega arith
exponent (fin false m e) t = exponent-fin m e t

no_nan : (f : Float) → T (le one32 f) → T (not (is_nan f))
unfolding is_nan
no_nan nan t = absurd (unfold le lt eq of_bits in t)
no_nan (inf s) t = tt
no_nan (fin s m e) t = tt

-- the level is h, lowered to n, where 4^j is at most the footprint exactly for the j from 1 up to h
pub four-by : (n h : ℕ) (f : Float) → n ≤ 12 → ((j : ℕ) → 1 ≤ j → j ≤ 12 → le (float (4 ^ j)) f ≡ leb j h) → min h n ≡ four_of n f
unfolding four_of
four-by zero h f l k = omega arith
four-by (suc n) h f l k =
    go (leb (suc n) h) refl (four-by n h f (le_trans (le-suc n) l) k)
    ∙ sym (ap (λ (b : Bool). cond b (suc n) (four_of n f)) (k (suc n) (omega arith) l))
  where
    go : (b : Bool) → leb (suc n) h ≡ b → min h n ≡ four_of n f → min h (suc n) ≡ cond b (suc n) (four_of n f)
    go true e r = let m = leb-true (suc n) h e in omega arith
    go false e r = let m = leb-false (suc n) h e in rw (← r) (omega arith)

-- half of the exponent
four-half : (n : ℕ) (f : Float) (x : ℕ) → n ≤ 12 → Exponent f x → min ((x - 127) / 2) n ≡ four_of n f
four-half n f x h k = four-by n ((x - 127) / 2) f h (λ j a b. k.test j b ∙ half j k.least)
  where
    half : (j : ℕ) → 127 ≤ x → leb (2 * j + 127) x ≡ leb j ((x - 127) / 2)
    half j h =
        same_test (leb (2 * j + 127) x) (leb j ((x - 127) / 2))
        (λ t. le→leb j ((x - 127) / 2) (let l = leb→le (2 * j + 127) x t in omega arith))
        (λ t. le→leb (2 * j + 127) x (let l = leb→le j ((x - 127) / 2) t in omega arith))

-- where the footprint is not above 1 the level is 0
four-none : (n : ℕ) (f : Float) → n ≤ 12 → lt one32 f ≡ false → four_of n f ≡ 0
four-none n f h e = sym (four-by n 0 f h (λ j a b. no j a b ∙ sym (lt-leb j 0 a))) ∙ none n
  where
    no : (j : ℕ) → 1 ≤ j → j ≤ 12 → le (float (4 ^ j)) f ≡ false
    no j a b =
        same_test (le (float (4 ^ j)) f) false
        (λ t. subst T e (above-one (4 ^ j) (float (4 ^ j)) f (le_trans (lit≤ tt) (four-le 1 j a)) (power j b) t))
        (λ t. absurd t)

    none : (n : ℕ) → min 0 n ≡ 0
    none n = omega arith

-- ---- max(f, 1) is at least 1, so no NaN, and has the level of f
abbrev pub held : Float → Float
held f = cond (lt one32 f) f one32

held-least : (f : Float) → T (le one32 (held f))
held-least f = go (lt one32 f) refl
  where
    go : (b : Bool) → lt one32 f ≡ b → T (le one32 (cond b f one32))
    go true e = unfold le in or_l (lt one32 f) (eq one32 f) (subst T (sym e) tt)
    go false e = unfold le lt eq of_bits in tt

pub held-no-nan : (f : Float) → T (not (is_nan (held f)))
held-no-nan f = no_nan (held f) (held-least f)

pub held-exponent : (f : Float) → Exponent (held f) (to_bits binary32 (held f) / 8388608)
held-exponent f = exponent (held f) (held-least f)

pub four-held : (n : ℕ) (f : Float) → n ≤ 12 → min ((to_bits binary32 (held f) / 8388608 - 127) / 2) n ≡ four_of n f
four-held n f h = four-half n (held f) _ h (held-exponent f) ∙ same (lt one32 f) refl
  where
    same : (b : Bool) → lt one32 f ≡ b → four_of n (cond b f one32) ≡ four_of n f
    same true e = refl
    same false e = four-none n one32 h (unfold lt of_bits in refl) ∙ sym (four-none n f h e)

-- ---- the rule in the paper's words: the level's power is at most the footprint, and no level with that is greater
pub four-fits : (n : ℕ) (f : Float) → (four_of n f ≡ 0) ⊎ T (le (float (4 ^ four_of n f)) f)
unfolding four_of
four-fits zero f = inl refl
four-fits (suc n) f = go (four-fits n f) (le (float (4 ^ suc n)) f) refl
  where
    go : (four_of n f ≡ 0) ⊎ T (le (float (4 ^ four_of n f)) f) → (b : Bool) → le (float (4 ^ suc n)) f ≡ b
        → (cond b (suc n) (four_of n f) ≡ 0) ⊎ T (le (float (4 ^ cond b (suc n) (four_of n f))) f)
    go r true e = inr (subst T (sym e) tt)
    go r false e = r

pub four-most : (n j : ℕ) (f : Float) → j ≤ n → T (le (float (4 ^ j)) f) → j ≤ four_of n f
unfolding four_of
four-most zero j f h t = h
four-most (suc n) j f h t = go (λ l. four-most n j f (le_of_suc-le-suc l) t) (le (float (4 ^ suc n)) f) refl
  where
    go : (j < suc n → j ≤ four_of n f) → (b : Bool) → le (float (4 ^ suc n)) f ≡ b → j ≤ cond b (suc n) (four_of n f)
    go r true e = h
    go r false e = elim (eq-or-lt_of_le h) [ inl i ↦ absurd (subst T (ap (λ (z : ℕ). le (float (4 ^ z)) f) i ∙ e) t) | inr l ↦ r l ]

-- an infinite footprint gives the top level
pub four-infinite : (n : ℕ) → n ≤ 12 → four_of n (inf false) ≡ n
unfolding four_of
four-infinite zero h = refl
four-infinite (suc n) h = ap (λ (b : Bool). cond b (suc n) (four_of n (inf false))) (below_inf (4 ^ suc n) (float (4 ^ suc n)) (power (suc n) h))
