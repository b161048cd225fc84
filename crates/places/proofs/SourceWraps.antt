-- The source's wrapping in floats is the rule over whole numbers, for every mode, every side d and every t up to 2048 d + 1. The
-- quotient t / n is rounded, and its floor is the true one: with q = floor(t / n), t / n lies in q to q + 1 - 1/8192, for n up to
-- 8,192, and both ends are f32 numbers, so rounding does not leave them. All else is exact. Assumes nothing.
use mathlib.Core.Path.{◌≡◌, refl, sym, ap, ◌∙◌, subst}
use mathlib.Core.Bool.{Bool, true, false}
use Prim.Native.Nat.{ℕ, suc, ◌+◌, ◌-◌, ◌*◌, ◌/◌, ◌%◌, ◌^◌, ◌≤◌, ◌<◌, min}
use native.Mathlib.Nat.{le_trans, le_refl, le_antisymm, le_of_suc-le-suc, lt_of_lt_of_le, zero-lt-suc, mul_assoc, mul_right_comm, mul_comm, mul-pos, add-mul, mul-suc, mul-le-mul, mul-le-mul_right, lt_of_mul-lt-mul_right, mod-lt, div-add-mod', le-div_iff_mul-le, div-lt_iff_lt-mul}
use native.Mathlib.Omega.{arith}
use lib.IntN.{ℤ, pos, negsuc, neg_ℤ, nat_abs}
use lib.Signed.{mag}
use lib.Dec.{T, lit≤}
use lib.Pow.{pow_mono, shl_lt}
use lib.Ieee.{Float, nan, inf, fin, binary32, up, down, round, neg, sub, mul, div, lt, of_int, of_bits, to_unsigned}
use lib.Ieee.Fits.{down_pos}
use lib.Ieee.Exact.{HasValue, round_exact}
use lib.Ieee.Back.{round_whole}
use lib.Ieee.Scale.{finite}
use lib.Ieee.Positive.{first_pos}
use borrow.Author.Tests.{lt-ltb}
use Rattle.rules.specs.Floats.{Between, one32, two32, float}
use Rattle.rules.specs.Whole.{floor_of}
use Rattle.rules.specs.declared.Mode.{Mode}
use Rattle.rules.specs.declared.Mode.TheVariants.{Repeat, Clamp, Mirror}
use Rattle.rules.specs.Wrapping.{remainder_of, held_of, mirrored_of, wrap_of}
use Rattle.texel.proofs.Wholes.{value-finite}
use Rattle.texel.proofs.Range.{round-le, neg-order, Between-finite}
use Rattle.places.specs.Sources.{least, rest_source, wrap_source}
use Rattle.places.proofs.Rests.{suc-mul, rest}
use Rattle.places.proofs.Spans.{up_le, down_le}
use Rattle.places.proofs.Wholes.{below-value, above-value, neg_value, never-below, only_zero, mul-whole, sub-whole, sub-below, div-whole, least-whole, cut-whole}

-- c = 2^12 serves sides up to 4,096, and c = 2^13 two sides; k is c - 1
module _ (k i : ℕ) (power : 2 ^ 149 ≡ 2 ^ i * suc k) (few : 24 + i ≤ 149 + 128) where
  -- p / c, for a p of up to 24 digits, is an f32 number
  exact : (s : Bool) (p : ℕ) → p < 16777216 → HasValue (round binary32 s p (suc k)) s p (suc k)
  exact s p h =
      round_exact binary32 s p (suc k) p i (zero-lt-suc k) h (lt_of_lt_of_le (shl_lt 24 i h) (pow_mono few))
      (ap (λ (z : ℕ). p * z) power ∙ sym (mul_assoc p (2 ^ i) (suc k)))

  -- ---- the floor of a value in q to q + 1 - 1/c, and of one in -q - 1 to -q - 1/c
  up-floor : (x lo hi : Float) (q : ℕ) → T (finite x) → HasValue lo false q 1 → HasValue hi false (q * suc k + k) (suc k) → Between lo x hi → floor_of x ≡ pos q
  unfolding floor_of
  up-floor nan lo hi q f v w b = absurd f
  up-floor (inf s) lo hi q f v w b = absurd f
  up-floor (fin true m e) lo hi q f v w b =
      let z = only_zero m e lo q 1 (zero-lt-suc 0) v b.low in
      ap (λ (n : ℕ). neg_ℤ (pos n)) (none _ (up_le (m * up e) (down e) 0 (down_pos e) (let y = z.1 in omega arith))) ∙ ap pos (sym z.0)
    where
      none : (n : ℕ) → n ≤ 0 → n ≡ 0
      none n h = omega arith
  up-floor (fin false m e) lo hi q f v w b =
      ap pos (quotient (m * up e) (down e) (down_pos e) (above-value m e lo q 1 v b.low) (below-value m e hi (q * suc k + k) (suc k) w b.high))
    where
      less : (A D : ℕ) → 0 < D → A * suc k ≤ (q * suc k + k) * D → A * suc k < suc q * D * suc k
      less A D h u =
          let a = add-mul (q * suc k) k D in
          let b = mul_right_comm q (suc k) D in
          let c = suc-mul q D in
          let d = add-mul (q * D) D (suc k) in
          let e = suc-mul k D in
          let f = mul_comm D (suc k) in
          rw c (omega arith)

      quotient : (A D : ℕ) → 0 < D → q * D ≤ A * 1 → A * suc k ≤ (q * suc k + k) * D → A / D ≡ q
      quotient A D h l u =
          le_antisymm
          (le_of_suc-le-suc ((div-lt_iff_lt-mul h).1 (lt_of_mul-lt-mul_right (suc k) (less A D h u))))
          ((le-div_iff_mul-le h).1 (omega arith))

  down-floor : (x lo hi : Float) (q : ℕ) → T (finite x) → HasValue lo true (suc q) 1 → HasValue hi true (q * suc k + 1) (suc k) → Between lo x hi → floor_of x ≡ negsuc q
  unfolding floor_of neg
  down-floor nan lo hi q f v w b = absurd f
  down-floor (inf s) lo hi q f v w b = absurd f
  down-floor (fin false m e) lo hi q f v w b = absurd (never-below m e hi (q * suc k + 1) (suc k) (omega arith) w b.high)
  down-floor (fin true m e) lo hi q f v w b =
      ap (λ (n : ℕ). neg_ℤ (pos n))
      (quotient (m * up e) (down e) (down_pos e)
      (below-value m e (neg lo) (suc q) 1 (neg_value lo (suc q) 1 v) (neg-order (fin true m e) lo b.low))
      (above-value m e (neg hi) (q * suc k + 1) (suc k) (neg_value hi (q * suc k + 1) (suc k) w) (neg-order hi (fin true m e) b.high)))
    where
      less : (A D : ℕ) → 0 < D → (q * suc k + 1) * D ≤ A * suc k → q * D * suc k < A * suc k
      less A D h u =
          let a = add-mul (q * suc k) 1 D in
          let b = mul_right_comm q (suc k) D in
          omega arith

      quotient : (A D : ℕ) → 0 < D → A * 1 ≤ suc q * D → (q * suc k + 1) * D ≤ A * suc k → (A + (D - 1)) / D ≡ suc q
      quotient A D h u l =
          le_antisymm
          (up_le A D (suc q) h (omega arith))
          ((le-div_iff_mul-le h).1 (let r = lt_of_mul-lt-mul_right (suc k) (less A D h l) in let c = suc-mul q D in omega arith))

  -- ---- the floor of the rounded quotient is that of the true one: a = q * n + r
  module _ (q r n : ℕ) (small : r < n) (most : n ≤ suc k) (room : suc q * suc k < 16777216) where
    inside : (q * suc k + k < 16777216) × (q * suc k + 1 < 16777216) × (suc q < 16777216)
    inside =
        let a = suc-mul q (suc k) in
        let b : q * 1 ≤ q * suc k = mul-le-mul {n₁ = q} {m₁ = 1} {n₂ = q} {m₂ = suc k} (le_refl q) (omega arith) in
        (omega arith, omega arith, omega arith)

    pos-floor : floor_of (round binary32 false (q * n + r) n) ≡ pos q
    pos-floor =
        let v = round_whole binary32 false q (let z = inside.2 in omega arith) in
        let w = exact false (q * suc k + k) inside.0 in
        let b : Between (round binary32 false q 1) (round binary32 false (q * n + r) n) (round binary32 false (q * suc k + k) (suc k)) = record {
          low = round-le binary32 false q 1 false (q * n + r) n (zero-lt-suc 0) (omega arith) (omega arith);
          high = round-le binary32 false (q * n + r) n false (q * suc k + k) (suc k) (omega arith) (zero-lt-suc k) (high q r n k small most);
        } in
        up-floor _ _ _ q (Between-finite _ _ _ (value-finite (round binary32 false q 1) false q 1 v) (value-finite (round binary32 false (q * suc k + k) (suc k)) false (q * suc k + k) (suc k) w) b) v w b
      where
        high : (q r n k : ℕ) → r < n → n ≤ suc k → (q * n + r) * suc k + 0 * n ≤ (q * suc k + k) * n + 0 * suc k
        high q r n k h l =
            let a = add-mul (q * n) r (suc k) in
            let b = add-mul (q * suc k) k n in
            let c = mul_right_comm q n (suc k) in
            let d : (r + 1) * k ≤ n * k = mul-le-mul_right k (omega arith) in
            let e = add-mul r 1 k in
            let f = mul_comm n k in
            let g = mul-suc r k in
            omega arith

    neg-floor : floor_of (round binary32 true (suc (q * n + r)) n) ≡ negsuc q
    neg-floor =
        let v = round_whole binary32 true (suc q) (let z = inside.2 in omega arith) in
        let w = exact true (q * suc k + 1) inside.1 in
        let b : Between (round binary32 true (suc q) 1) (round binary32 true (suc (q * n + r)) n) (round binary32 true (q * suc k + 1) (suc k)) = record {
          low = round-le binary32 true (suc q) 1 true (suc (q * n + r)) n (zero-lt-suc 0) (omega arith) (let c = suc-mul q n in omega arith);
          high = round-le binary32 true (suc (q * n + r)) n true (q * suc k + 1) (suc k) (omega arith) (zero-lt-suc k) (high q r n k small most);
        } in
        down-floor _ _ _ q (Between-finite _ _ _ (value-finite (round binary32 true (suc q) 1) true (suc q) 1 v) (value-finite (round binary32 true (q * suc k + 1) (suc k)) true (q * suc k + 1) (suc k) w) b) v w b
      where
        high : (q r n k : ℕ) → r < n → n ≤ suc k → 0 * suc k + (q * suc k + 1) * n ≤ 0 * n + suc (q * n + r) * suc k
        high q r n k h l =
            let a = suc-mul (q * n + r) (suc k) in
            let b = add-mul (q * n) r (suc k) in
            let c = add-mul (q * suc k) 1 n in
            let d = mul_right_comm q n (suc k) in
            omega arith

-- ---- the source's remainder, for a divisor n up to c
module _ (k i : ℕ) (power : 2 ^ 149 ≡ 2 ^ i * suc k) (few : 24 + i ≤ 149 + 128) (n : ℕ) (h : 0 < n) (most : n ≤ suc k) (N : Float) (w : HasValue N false n 1) where
  rest-value : (t : ℤ) → mag t + n < 16777216 → suc (mag t / n) * suc k < 16777216 → HasValue (rest_source (of_int binary32 t) N) false (remainder_of t n) 1
  unfolding remainder_of of_int
  rest-value (pos a) l room =
      let q = a / n in
      let m = mod-lt a h in
      let e = div-add-mod' a n in
      let T = round binary32 false a 1 in
      let v = round_whole binary32 false a (omega arith) in
      let f : floor_of (div binary32 T N) ≡ pos q = ap floor_of (div-whole T N false a n v w h ∙ ap (λ (z : ℕ). round binary32 false z n) (sym e)) ∙ pos-floor k i power few q (a % n) n m most room in
      let K = round_whole binary32 false q (let z = mul-le-mul {n₁ = q} {m₁ = 1} {n₂ = q} {m₂ = n} (le_refl q) h in omega arith) in
      let P = mul-whole (round binary32 false q 1) N false q n K w (omega arith) in
      rw f (subst (λ (z : ℕ). HasValue (sub binary32 T (mul binary32 (round binary32 false q 1) N)) false z 1) (less a (q * n) (a % n) e) (sub-whole T _ a (q * n) v P (omega arith) (omega arith)))
    where
      less : (a x r : ℕ) → x + r ≡ a → a - x ≡ r
      less a x r e = omega arith
  rest-value (negsuc a) l room =
      let q = a / n in
      let m = mod-lt a h in
      let e = div-add-mod' a n in
      let s = suc-mul q n in
      let T = round binary32 true (suc a) 1 in
      let v = round_whole binary32 true (suc a) (omega arith) in
      let f : floor_of (div binary32 T N) ≡ negsuc q = ap floor_of (div-whole T N true (suc a) n v w h ∙ ap (λ (z : ℕ). round binary32 true (suc z) n) (sym e)) ∙ neg-floor k i power few q (a % n) n m most room in
      let K = round_whole binary32 true (suc q) (let z = mul-le-mul {n₁ = q} {m₁ = 1} {n₂ = q} {m₂ = n} (le_refl q) h in omega arith) in
      let P = mul-whole (round binary32 true (suc q) 1) N true (suc q) n K w (omega arith) in
      rw f (subst (λ (z : ℕ). HasValue (sub binary32 T (mul binary32 (round binary32 true (suc q) 1) N)) false z 1) (less a (q * n) (a % n) n (suc q * n) e m s) (sub-below T _ (suc a) (suc q * n) v P (omega arith) (omega arith)))
    where
      less : (a x r n y : ℕ) → x + r ≡ a → r < n → y ≡ x + n → y - suc a ≡ n - 1 - r
      less a x r n y e h s = omega arith

-- ---- the whole: min(.., d - 1), as u32
neg-least : (x y : Float) (a b : ℕ) → 0 < a → HasValue x true a 1 → HasValue y false b 1 → to_unsigned 32 (least x y) ≡ 0
unfolding lt to_unsigned
neg-least nan y a b h v w = absurd v
neg-least (inf s) y a b h v w = absurd v
neg-least (fin false m e) y a b h v w = absurd (subst T (sym v.0) tt)
neg-least (fin true m e) nan a b h v w = absurd w
neg-least (fin true m e) (inf s) a b h v w = absurd w
neg-least (fin true m e) (fin true k d) a b h v w = absurd (subst T w.0 tt)
neg-least (fin true m e) (fin false k d) a b h v w =
    let A : 0 < m * up e = first_pos (m * up e) 1 (subst (λ (z : ℕ). 0 < z) (sym v.1) (mul-pos h (down_pos e))) in
    let B = mul-pos A (down_pos d) in
    rw (lt-ltb 0 (m * up e * down d + k * up d * down e) (omega arith))

mag-le : (t : ℤ) → mag t ≤ nat_abs t
mag-le (pos a) = le_refl a
mag-le (negsuc a) = omega arith

module _ (t : ℤ) (d : ℕ) (a : 1 ≤ d) (b : d ≤ 4096) (h : nat_abs t ≤ 2048 * d + 1) where
  few-times : (n : ℕ) → 0 < n → (c : ℕ) → 2048 * d + 1 ≤ c * n → mag t / n ≤ c
  few-times n z c l = down_le (mag t) n c z (le_trans (mag-le t) (le_trans h l))

  mag-small : mag t ≤ 8388609
  mag-small = le_trans (mag-le t) (omega arith)

  pub side : HasValue (float d) false d 1
  unfolding of_int
  side = round_whole binary32 false d (omega arith)

  pub last : HasValue (sub binary32 (float d) one32) false (d - 1) 1
  unfolding of_bits
  last = sub-whole (float d) one32 d 1 side (refl, refl) a (omega arith)

  pub two-sides : HasValue (mul binary32 (float d) two32) false (2 * d) 1
  unfolding of_bits
  two-sides = subst (λ (n : ℕ). HasValue (mul binary32 (float d) two32) false n 1) (mul_comm d 2) (mul-whole (float d) two32 false d 2 side (refl, refl) (omega arith))

  pub repeated : HasValue (rest_source (of_int binary32 t) (float d)) false (remainder_of t d) 1
  repeated =
      let q = few-times d a 2049 (omega arith) in
      let m = mag-small in
      rest-value 4095 137 refl (lit≤ tt) d a b (float d) side t (omega arith) (omega arith)

  pub turned : HasValue (rest_source (of_int binary32 t) (mul binary32 (float d) two32)) false (remainder_of t (2 * d)) 1
  turned =
      let q = few-times (2 * d) (omega arith) 1025 (omega arith) in
      let m = mag-small in
      rest-value 8191 136 refl (lit≤ tt) (2 * d) (omega arith) (omega arith) (mul binary32 (float d) two32) two-sides t (omega arith) (omega arith)

  repeat-source : wrap_source Repeat (of_int binary32 t) (float d) ≡ wrap_of Repeat t d
  unfolding wrap_source wrap_of
  repeat-source =
      let r = (rest t d a).small in
      cut-whole _ (min (remainder_of t d) (d - 1)) (least-whole _ _ (remainder_of t d) (d - 1) repeated last) (omega arith) ∙ least-is (remainder_of t d) d r
    where
      least-is : (r d : ℕ) → r < d → min r (d - 1) ≡ r
      least-is r d h = omega arith

  mirror-source : wrap_source Mirror (of_int binary32 t) (float d) ≡ wrap_of Mirror t d
  unfolding wrap_source wrap_of mirrored_of
  mirror-source =
      let r = remainder_of t (2 * d) in
      let s = (rest t (2 * d) (omega arith)).small in
      let v = sub-whole _ _ (2 * d) r two-sides turned (omega arith) (omega arith) in
      cut-whole _ (min (min r (2 * d - r)) (d - 1)) (least-whole _ _ (min r (2 * d - r)) (d - 1) (least-whole _ _ r (2 * d - r) turned v) last) (omega arith)

clamp-source : (t : ℤ) (d : ℕ) (a : 1 ≤ d) (b : d ≤ 4096) (h : nat_abs t ≤ 2048 * d + 1) → wrap_source Clamp (of_int binary32 t) (float d) ≡ wrap_of Clamp t d
unfolding wrap_source wrap_of held_of of_int
clamp-source (pos n) d a b h = cut-whole _ (min n (d - 1)) (least-whole _ _ n (d - 1) (round_whole binary32 false n (omega arith)) (last (pos n) d a b h)) (omega arith)
clamp-source (negsuc n) d a b h = neg-least _ _ (suc n) (d - 1) (zero-lt-suc n) (round_whole binary32 true (suc n) (omega arith)) (last (negsuc n) d a b h)

-- the source's form and the whole-number rule agree
pub wrap-source : (mode : Mode) (t : ℤ) (d : ℕ) → 1 ≤ d → d ≤ 4096 → nat_abs t ≤ 2048 * d + 1 → wrap_source mode (of_int binary32 t) (float d) ≡ wrap_of mode t d
wrap-source Repeat t d a b h = repeat-source t d a b h
wrap-source Clamp t d a b h = clamp-source t d a b h
wrap-source Mirror t d a b h = mirror-source t d a b h
