-- In nearest mode the plain mean of four bytes is exactly (s + 2) / 4, s their sum, a half upward. In units of 2^-32 an unpacked byte c lies a
-- little above K c, K = 256 * 65793, and so does each f32 sum of bytes above K times theirs: below 1 by the last place, between 1 and 2 by 256 or
-- 512, since K n is a multiple of 256; between 2 and 4 it may fall on K n, but not where n is 2 modulo 4. That is what a half needs, which lies on
-- the edge between two bytes; every other sum is far from an edge. From above, each f32 sum of multiples of 8225 * 2^-21 is exact. What the steps
-- need of each n is a computed test. Assumes nothing.
use mathlib.Core.Path.{◌≡◌, subst}
use mathlib.Core.Bool.{false, cond}
use Prim.Native.Nat.{ℕ, zero, suc, ◌+◌, ◌-◌, ◌*◌, ◌/◌, ◌%◌, ◌≤◌, ◌<◌, min, zero-le}
use native.Mathlib.Nat.{add-zero, lt_of_not-le, le_trans, le_antisymm, mul-le-mul_right, mul-add}
use native.Mathlib.Omega.{arith}
use native.Mathlib.Decide.{dec_le}
use lib.IntN.{negsuc}
use lib.Dec.{T, leb, ltb, eqb, leb→le, lit<}
use lib.Ieee.{Float, fin, binary32, round, sum, add, mul, div, le, of_int, of_bits}
use lib.Ieee.Order.{round_mono}
use lib.Ieee.Scale.{finite, round_same}
use Rattle.rules.specs.declared.Packing.TheVariants.{Nearest}
use Rattle.rules.specs.Floats.{Between, zero32, one32, four32, unpack_of, mean_of}
use Rattle.rules.specs.Whole.{upward_of}
use Rattle.rules.specs.Packing.{pack_of}
use Rattle.rules.specs.Reducing.{mean_byte}
use Rattle.texel.proofs.Range.{Between-finite, between-finite, in-add, in-div, le→, le-trans-finite}
use Rattle.texel.proofs.Unit.{ends}
use Rattle.texel.proofs.Claims.{mean-packed}
use Rattle.texel.proofs.Kept.{pack-lt, pack-mono}
use Rattle.texel.proofs.Every.{below, at-below}

-- x units of 2^-32, and the f32 nearest to it
abbrev units : ℕ → Float
units x = fin false x (negsuc 31)

abbrev rounded : ℕ → Float
rounded x = round binary32 false x 4294967296

-- ---- how far above K n a sum lies whose bytes add up to n, at least: of one byte, of two, and of three
K : ℕ
K = 16843008

above : ℕ → ℕ
above n = cond (ltb n 256) (n + min n 1) (cond (ltb n 511) (256 + 256 * ((n + 1) % 2)) (cond (eqb (n % 4) 2) 512 0))

-- what the exact sum is above K n by, where the rounded one is so: of two or three, and at the last of four
asked : ℕ → ℕ
unfolding above
asked n = cond (ltb n 511) (min (above n) 257) 257

last : ℕ → ℕ
unfolding asked
last n = cond (eqb (n % 4) 2) (cond (ltb n 511) (asked n) 1) 0

-- the least multiple of 2^11 above K
H : ℕ
H = 16844800

-- ---- what is computed
shown : (f g : ℕ → ℕ) (k : ℕ) → T (below (λ n. leb (f n) (g n)) k) → (n : ℕ) → n < k → f n ≤ g n
shown f g k t n h = leb→le (f n) (g n) (at-below (λ n. leb (f n) (g n)) k t n h)

ordered : (f g : ℕ → Float) (k : ℕ) → T (below (λ n. le (f n) (g n)) k) → (n : ℕ) → n < k → T (le (f n) (g n))
ordered f g k t n h = at-below (λ n. le (f n) (g n)) k t n h

byte_above : (c : ℕ) → c < 256 → c + min c 1 ≤ above c
unfolding above
byte_above = shown (λ c. c + min c 1) above 256 tt

two-above : (n : ℕ) → n < 511 → min (n + min n 1) 256 ≤ above n
unfolding above
two-above = shown (λ n. min (n + min n 1) 256) above 511 tt

asked-few : (n : ℕ) → n < 256 → asked n ≤ n + min n 1
unfolding asked
asked-few = shown asked (λ n. n + min n 1) 256 tt

asked-most : (n : ℕ) → n < 766 → asked n ≤ 257
unfolding asked
asked-most = shown asked (λ n. 257) 766 tt

asked-above : (n : ℕ) → n < 511 → asked n ≤ above n
unfolding asked
asked-above = shown asked above 511 tt

last-asked : (n : ℕ) → n < 511 → last n ≤ asked n
unfolding last
last-asked = shown last asked 511 tt

last_one : (n : ℕ) → n < 510 → last (511 + n) ≤ 1
unfolding last
last_one = shown (λ n. last (511 + n)) (λ n. 1) 510 tt

last-above : (n : ℕ) → n < 766 → last n ≤ above n
unfolding last
last-above = shown last above 766 tt

asked-under : (n : ℕ) → n < 766 → K * n + asked n ≤ H * n
unfolding K H asked
asked-under = shown (λ n. K * n + asked n) (λ n. H * n) 766 tt

last_under : (n : ℕ) → n < 1021 → K * n + last n ≤ H * n
unfolding K H last
last_under = shown (λ n. K * n + last n) (λ n. H * n) 1021 tt

byte_low : (c : ℕ) → c < 256 → T (le (units (K * c + above c)) (unpack_of c))
unfolding K above le div of_int of_bits
byte_low = ordered (λ c. units (K * c + above c)) unpack_of 256 tt

byte_high : (c : ℕ) → c < 256 → T (le (unpack_of c) (units (H * c)))
unfolding H le div of_int of_bits
byte_high = ordered unpack_of (λ c. units (H * c)) 256 tt

sum_low : (n : ℕ) → n < 766 → T (le (units (K * n + above n)) (rounded (K * n + asked n)))
unfolding K asked le round
sum_low = ordered (λ n. units (K * n + above n)) (λ n. rounded (K * n + asked n)) 766 tt

sum-high : (n : ℕ) → n < 1021 → T (le (rounded (H * n)) (units (H * n)))
unfolding H le round
sum-high = ordered (λ n. rounded (H * n)) (λ n. units (H * n)) 1021 tt

sum-finite : (n : ℕ) → n < 1021 → T (finite (rounded (H * n)))
unfolding H round
sum-finite = at-below (λ n. finite (rounded (H * n))) 1021 tt

pack-low : (n : ℕ) → n < 1021 → (n + 2) / 4 ≤ pack_of Nearest (div binary32 (rounded (K * n + last n)) four32)
unfolding K last pack_of upward_of mul div round of_bits
pack-low = shown (λ n. (n + 2) / 4) (λ n. pack_of Nearest (div binary32 (rounded (K * n + last n)) four32)) 1021 tt

pack-high : (n : ℕ) → n < 1021 → pack_of Nearest (div binary32 (units (H * n)) four32) ≤ (n + 2) / 4
unfolding H pack_of upward_of mul div of_bits
pack-high = shown (λ n. pack_of Nearest (div binary32 (units (H * n)) four32)) (λ n. (n + 2) / 4) 1021 tt

-- ---- what is asked of a sum is what its two terms are above K by
pairs : (n c : ℕ) → n < 511 → c < 256 → asked (n + c) ≤ above n + above c
pairs n zero h l = rw (add-zero n) (let a = asked-above n h in omega arith)
pairs n (suc c) h l = elim (dec_le 256 (n + suc c)) [
  | yes g ↦ let a = asked-most (n + suc c) (omega arith) in let b = two-above n h in let d = byte_above (suc c) l in omega arith
  | no g ↦ let f : n + suc c < 256 = lt_of_not-le g in let a = asked-few (n + suc c) f in let b = two-above n h in let d = byte_above (suc c) l in omega arith
]

lasts : (n c : ℕ) → n < 766 → c < 256 → last (n + c) ≤ above n + above c
lasts n zero h l = rw (add-zero n) (let a = last-above n h in omega arith)
lasts n (suc c) h l = elim (dec_le 511 (n + suc c)) [
  | yes g ↦ let e : 511 + (n + suc c - 511) ≡ n + suc c = omega arith in let a = subst (λ (m : ℕ). last m ≤ 1) e (last_one (n + suc c - 511) (omega arith)) in let d = byte_above (suc c) l in omega arith
  | no g ↦ let f : n + suc c < 511 = lt_of_not-le g in let a = last-asked (n + suc c) f in let b = pairs n (suc c) (omega arith) l in omega arith
]

low-in : (n : ℕ) → n < 1021 → Between zero32 (div binary32 (rounded (K * n + last n)) four32) one32
low-in n h = record { low = from n h; high = to n h }
  where
    from : (n : ℕ) → n < 1021 → T (le zero32 (div binary32 (rounded (K * n + last n)) four32))
    from = unfold K last div round le of_bits in ordered (λ n. zero32) (λ n. div binary32 (rounded (K * n + last n)) four32) 1021 tt

    to : (n : ℕ) → n < 1021 → T (le (div binary32 (rounded (K * n + last n)) four32) one32)
    to = unfold K last div round le of_bits in ordered (λ n. div binary32 (rounded (K * n + last n)) four32) (λ n. one32) 1021 tt

high-in : (n : ℕ) → n < 1020 → Between zero32 (div binary32 (units (H * n)) four32) one32
high-in n h = record { low = from n h; high = to n h }
  where
    from : (n : ℕ) → n < 1020 → T (le zero32 (div binary32 (units (H * n)) four32))
    from = unfold H div le of_bits in ordered (λ n. zero32) (λ n. div binary32 (units (H * n)) four32) 1020 tt

    to : (n : ℕ) → n < 1020 → T (le (div binary32 (units (H * n)) four32) one32)
    to = unfold H div le of_bits in ordered (λ n. div binary32 (units (H * n)) four32) (λ n. one32) 1020 tt

-- ---- sums
sum_is : (a c : ℕ) → add binary32 (units a) (units c) ≡ rounded (a + c)
unfolding add sum
sum_is a c = round_same binary32 false (a * 1 * 4294967296 + c * 1 * 4294967296) (4294967296 * 4294967296) (a + c) 4294967296 (lit< tt) (lit< tt) (omega arith)

rounded-le : {x y : ℕ} → x ≤ y → T (le (rounded x) (rounded y))
rounded-le {x} {y} h = round_mono binary32 x 4294967296 y 4294967296 (lit< tt) (lit< tt) (mul-le-mul_right 4294967296 h)

held : (x n : ℕ) → n < 1021 → x ≤ H * n → T (finite (rounded x))
held x n h l = between-finite (rounded 0) (rounded x) (rounded (H * n)) (unfold round in tt) (sum-finite n h) (rounded-le zero-le) (rounded-le l)

-- x is a sum of bytes that add up to n, t above K n at least
abbrev Lies : ℕ → ℕ → Float → Type 0
Lies n t x = Between (units (K * n + t)) x (units (H * n))

lies-le : (n t : ℕ) (x : Float) → Lies n t x → K * n + t ≤ H * n
lies-le n t x b =
    let f = Between-finite (units (K * n + t)) x (units (H * n)) tt tt b in
    let k = le→ (units (K * n + t)) (units (H * n)) tt tt (le-trans-finite (units (K * n + t)) x (units (H * n)) tt f tt b.low b.high) in
    omega arith

step : (n c t k asks : ℕ) (x y : Float) → n + c < 1021 → Lies n t x → Lies c k y → asks ≤ t + k
    → Between (rounded (K * (n + c) + asks)) (add binary32 x y) (units (H * (n + c)))
step n c t k asks x y h p q l =
    let exact = ends (sum_is (K * n + t) (K * c + k)) (sum_is (H * n) (H * c)) (in-add binary32 (units (K * n + t)) x (units (H * n)) (units (K * c + k)) y (units (H * c)) tt tt tt tt p q) in
    let kk = mul-add K n c in
    let hh = mul-add H n c in
    let u = lies-le n t x p in
    let v = lies-le c k y q in
    let at_low = held (K * n + t + (K * c + k)) (n + c) h (omega arith) in
    let at_high : T (le (rounded (H * n + H * c)) (units (H * (n + c)))) = rw (← hh) (sum-high (n + c) h) in
    let some = held (H * n + H * c) (n + c) h (omega arith) in
    let sum = Between-finite (rounded (K * n + t + (K * c + k))) (add binary32 x y) (rounded (H * n + H * c)) at_low some exact in
    record {
      low = le-trans-finite _ _ _ (held (K * (n + c) + asks) (n + c) h (omega arith)) at_low sum (rounded-le (omega arith)) exact.low;
      high = le-trans-finite _ _ _ sum some tt exact.high at_high;
    }

-- of two bytes, or of three
more : (n c : ℕ) (x y : Float) → n < 511 → c < 256 → Lies n (above n) x → Lies c (above c) y → Lies (n + c) (above (n + c)) (add binary32 x y)
more n c x y h l p q =
    let b = step n c (above n) (above c) (asked (n + c)) x y (omega arith) p q (pairs n c h l) in
    let f = held (K * (n + c) + asked (n + c)) (n + c) (omega arith) (asked-under (n + c) (omega arith)) in
    let s = Between-finite (rounded (K * (n + c) + asked (n + c))) (add binary32 x y) (units (H * (n + c))) f tt b in
    record { low = le-trans-finite _ _ _ tt f s (sum_low (n + c) (omega arith)) b.low; high = b.high }

byte : (c : ℕ) → c < 256 → Lies c (above c) (unpack_of c)
byte c h = record { low = byte_low c h; high = byte_high c h }

-- ---- the mean
module _ (a b c d : ℕ) (A : a < 256) (B : b < 256) (C : c < 256) (D : d < 256) where
  three : Lies (a + b + c) (above (a + b + c)) (add binary32 (add binary32 (unpack_of a) (unpack_of b)) (unpack_of c))
  three = more (a + b) c _ _ (omega arith) C (more a b _ _ (omega arith) B (byte a A) (byte b B)) (byte c C)

  four : Between (rounded (K * (a + b + c + d) + last (a + b + c + d))) (add binary32 (add binary32 (add binary32 (unpack_of a) (unpack_of b)) (unpack_of c)) (unpack_of d)) (units (H * (a + b + c + d)))
  four = step (a + b + c) d (above (a + b + c)) (above d) (last (a + b + c + d)) _ _ (omega arith) three (byte d D) (lasts (a + b + c) d (omega arith) D)

  abbrev mean : Float
  mean = mean_of (unpack_of a) (unpack_of b) (unpack_of c) (unpack_of d)

  divided : Between (div binary32 (rounded (K * (a + b + c + d) + last (a + b + c + d))) four32) mean (div binary32 (units (H * (a + b + c + d))) four32)
  unfolding of_bits
  divided =
      let s = a + b + c + d in
      in-div binary32 (rounded (K * s + last s)) _ (units (H * s)) four32 (held (K * s + last s) s (omega arith) (last_under s (omega arith))) tt tt four

  pub rounded-mean : mean_byte Nearest a b c d ≡ (a + b + c + d + 2) / 4
  unfolding mean_byte
  rounded-mean =
      let s = a + b + c + d in
      let in-mean = mean-packed a b c d A B C D in
      let low = le_trans (pack-low s (omega arith)) (pack-mono Nearest _ mean (low-in s (omega arith)) in-mean divided.low) in
      let high : pack_of Nearest mean ≤ (s + 2) / 4 = elim (dec_le s 1019) [
        | yes l ↦ le_trans (pack-mono Nearest mean _ in-mean (high-in s (omega arith)) divided.high) (pack-high s (omega arith))
        | no l ↦ let g : 1019 < s = lt_of_not-le l in let p = pack-lt Nearest mean in-mean in omega arith
      ] in
      le_antisymm high low
