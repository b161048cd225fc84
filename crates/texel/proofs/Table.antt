-- The sRGB table. The pattern that the nearest-value rule gives at a byte is fixed by the rule; so one computed test of the rule over the
-- whole table, by fifth and twelfth powers of whole numbers, shows that each of its entries is T at its byte. In the same way one test over
-- the index shows where the values beside each entry lie. Assumes nothing.
use mathlib.Core.Path.{◌≡◌, refl, sym, ap, ◌∙◌, subst}
use mathlib.Core.Bool.{Bool, true, false, not, ◌&&◌, ◌||◌, cond}
use mathlib.Core.List.{List}
use Prim.Native.Nat.{ℕ, zero, suc, ◌+◌, ◌-◌, ◌*◌, ◌^◌, ◌≤◌, ◌<◌}
use native.Mathlib.Nat.{le_of_suc-le-suc, lt_of_le_of_lt, not-suc-le-zero, zero-add, suc-add, add-suc, pow-le-pow_left}
use native.Mathlib.Omega.{arith}
use lib.Dec.{T, leb, ltb, eqb, leb→le, ltb→lt, eqb→eq, lit<}
use lib.ListN.{length, get_or}
use lib.Seq.{ext_get_or}
use lib.Ieee.{Float, nan, binary32, of_bits, to_bits, fits}
use lib.Ieee.Fits.{and_l, and_r}
use lib.Ieee.Bits.{of_bits-to_bits}
use Rattle.rules.specs.NearestValue.{nearest_root, reaches, root_pattern}
use Rattle.rules.specs.Curve.{nearest_curve, curve_pattern, curve}
use Rattle.texel.specs.Tables.{curve_from, curve_table, bucket, Entry, Index}
use Rattle.texel.proofs.Unique.{unique, nearest-found, nearest-ge, nearest-lt}
use Rattle.texel.proofs.Every.{every, at}

-- ---- the curve at a byte is a root: the first of n / d up to 10, and the fifth above
-- the pattern b is reached at byte k
abbrev pub reached : ℕ → ℕ → Bool
reached k b = cond (leb k 10) (reaches 1 (100 * k) 329460 b) (reaches 5 ((1000 * k + 14025) ^ 12) (269025 ^ 12) b)

-- the rule as one of a root, where s says whether k is at most 10
record Curved (s : Bool) (k : ℕ) : Type 0 where
  pub p : ℕ
  pub n : ℕ
  pub d : ℕ
  pub some : 0 < d
  pub few : n < (2 ^ 128) ^ suc p * d
  pub rule : (b : ℕ) → cond s (nearest_root 1 (100 * k) 329460 b) (nearest_root 5 ((1000 * k + 14025) ^ 12) (269025 ^ 12) b) ≡ nearest_root (suc p) n d b
  pub reach : (b : ℕ) → cond s (reaches 1 (100 * k) 329460 b) (reaches 5 ((1000 * k + 14025) ^ 12) (269025 ^ 12) b) ≡ reaches (suc p) n d b
  pub pattern : cond s (root_pattern 1 (100 * k) 329460) (root_pattern 5 ((1000 * k + 14025) ^ 12) (269025 ^ 12)) ≡ root_pattern (suc p) n d

curved : (k : ℕ) → k < 256 → Curved (leb k 10) k
curved k h = go (leb k 10) (leb→le k 10)
  where
    low : (k : ℕ) → k ≤ 10 → 100 * k ≤ 1000
    low k h = omega arith

    high : (k : ℕ) → k < 256 → 1000 * k + 14025 ≤ 269025
    high k h = omega arith

    go : (s : Bool) → (T s → k ≤ 10) → Curved s k
    go true g = record { p = 0; n = 100 * k; d = 329460; some = lit< tt; few = lt_of_le_of_lt (low k (g tt)) (lit< tt); rule = λ b. refl; reach = λ b. refl; pattern = refl }
    go false g = record {
      p = 4;
      n = (1000 * k + 14025) ^ 12;
      d = 269025 ^ 12;
      some = lit< tt;
      few = lt_of_le_of_lt (pow-le-pow_left (high k h) 12) (lit< tt);
      rule = λ b. refl;
      reach = λ b. refl;
      pattern = refl;
    }

-- T(k) is the f32 nearest the curve at k
pub curve-nearest : (k : ℕ) → k < 256 → T (nearest_curve k (curve_pattern k))
unfolding nearest_curve curve_pattern
curve-nearest k h =
    let c = curved k h in
    subst T (sym (c.rule (curve_pattern k)))
    (subst (λ (b : ℕ). T (nearest_root (suc c.p) c.n c.d b)) (sym c.pattern) (nearest-found c.p c.n c.d c.some c.few))

-- the rule at byte k, for its own root
nearest : (k : ℕ) (h : k < 256) → T (nearest_root (suc (curved k h).p) (curved k h).n (curved k h).d (curve_pattern k))
unfolding nearest_curve
nearest k h = subst T ((curved k h).rule (curve_pattern k)) (curve-nearest k h)

-- and no other pattern keeps the rule
pub curve-unique : (k b : ℕ) → k < 256 → T (nearest_curve k b) → b ≡ curve_pattern k
unfolding nearest_curve
curve-unique k b h t =
    let c = curved k h in
    unique c.p c.n c.d b (curve_pattern k) c.some (subst T (c.rule b) t) (nearest k h)

-- a pattern beside T(k)
pub reached-le : (k b : ℕ) → k < 256 → T (reached k b) → b ≤ curve_pattern k
reached-le k b h t = let c = curved k h in nearest-ge c.p c.n c.d (curve_pattern k) b c.some (nearest k h) (subst T (c.reach b) t)

pub passed-lt : (k b : ℕ) → k < 256 → T (not (reached k b)) → curve_pattern k < b
passed-lt k b h t = let c = curved k h in nearest-lt c.p c.n c.d (curve_pattern k) b c.some (nearest k h) (subst (λ (s : Bool). T (not s)) (c.reach b) t)

-- ---- the table
abbrev pub right : ℕ → Float → Bool
right k x = fits binary32 x && nearest_curve k (to_bits binary32 x)

right_is : (k : ℕ) (x : Float) → k < 256 → T (right k x) → x ≡ curve k
unfolding curve
right_is k x h t =
    sym (of_bits-to_bits binary32 x (and_l (fits binary32 x) (nearest_curve k (to_bits binary32 x)) t))
    ∙ ap (of_bits binary32) (curve-unique k (to_bits binary32 x) h (and_r (fits binary32 x) (nearest_curve k (to_bits binary32 x)) t))

length_from : (n k : ℕ) → length (curve_from n k) ≡ n
unfolding curve_from
length_from zero k = refl
length_from (suc n) k = ap suc (length_from n (suc k))

at_from : (n k i : ℕ) → i < n → get_or (curve_from n k) i nan ≡ curve (k + i)
unfolding curve_from
at_from zero k i h = absurd (not-suc-le-zero h)
at_from (suc n) k zero h = ap curve (none k)
  where
    none : (k : ℕ) → k ≡ k + 0
    none k = omega arith
at_from (suc n) k (suc i) h = at_from n (suc k) i (le_of_suc-le-suc h) ∙ ap curve (suc-add k i ∙ sym (add-suc k i))

pub table_at : (k : ℕ) → k < 256 → get_or curve_table k nan ≡ curve k
unfolding curve_table
table_at k h = at_from 256 0 k h ∙ ap curve (zero-add k)

-- the computed test over a list of 256 values: each keeps the rule at its byte
abbrev pub tested : List Float → Bool
tested xs = eqb (length xs) 256 && every right 0 xs

pub table_is : (xs : List Float) → T (tested xs) → xs ≡ curve_table
unfolding curve_table
table_is xs t =
    let many : length xs ≡ 256 = eqb→eq (length xs) 256 (and_l (eqb (length xs) 256) (every right 0 xs) t) in
    ext_get_or nan xs curve_table (many ∙ sym (length_from 256 0))
    (λ i h. right_is i (get_or xs i nan) (subst (λ (n : ℕ). i < n) many h) (at right nan xs (and_r (eqb (length xs) 256) (every right 0 xs) t) i h) ∙ sym (table_at i (subst (λ (n : ℕ). i < n) many h)))

-- ---- the index
-- the computed test of an entry: T(k - 1) is at most the bucket's first pattern, and T(k + 1) at least the next bucket's
abbrev pub beside : ℕ → ℕ → Bool
beside i k = ltb 0 k && (ltb k 256 && (not (reached (k - 1) (bucket i + 1)) && (eqb k 255 || reached (k + 1) (bucket (suc i)))))

or_right : (a b : Bool) → (T a → ⊥) → T (a || b) → T b
or_right true b n t = absurd (n tt)
or_right false b n t = t

entry : (i k : ℕ) → T (beside i k) → Entry i k
entry i k t =
    let a = ltb 0 k in
    let b = ltb k 256 in
    let c = not (reached (k - 1) (bucket i + 1)) in
    let d = eqb k 255 || reached (k + 1) (bucket (suc i)) in
    let t' = and_r a (b && (c && d)) t in
    let t'' = and_r b (c && d) t' in
    let byte : k < 256 = ltb→lt k 256 (and_l b (c && d) t') in
    record {
      some = ltb→lt 0 k (and_l a (b && (c && d)) t);
      byte = byte;
      under = let l = passed-lt (k - 1) (bucket i + 1) (omega arith) (and_l c d t'') in omega arith;
      over = λ h. reached-le (k + 1) (bucket (suc i)) (omega arith) (or_right (eqb k 255) (reached (k + 1) (bucket (suc i))) (λ e. not_last k h (eqb→eq k 255 e)) (and_r c d t''));
    }
  where
    not_last : (k : ℕ) → k < 255 → k ≡ 255 → ⊥
    not_last k h e = omega arith

abbrev pub indexed : List ℕ → Bool
indexed l = eqb (length l) 1506 && every beside 0 l

pub index_is : (l : List ℕ) → T (indexed l) → Index l
index_is l t =
    let many : length l ≡ 1506 = eqb→eq (length l) 1506 (and_l (eqb (length l) 1506) (every beside 0 l) t) in
    record { at = λ i h. entry i (get_or l i 0) (at beside 0 l (and_r (eqb (length l) 1506) (every beside 0 l) t) i (subst (λ (n : ℕ). i < n) (sym many) h)) }
