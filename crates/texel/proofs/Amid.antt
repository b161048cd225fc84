-- In nearest mode no channel lies outside the least and the greatest of its four bytes: not the plain mean, which is (s + 2) / 4; not Normal's, nor
-- the root of the mean of squares, nor SRGB's colours, which follow no mode. Of these each operation keeps the order, so what four bytes make lies
-- between what the least makes four times and what the greatest makes; and a byte four times makes itself, which is computed. Assumes nothing.
use mathlib.Core.Path.{◌≡◌, refl, sym}
use mathlib.Core.Bool.{Bool, true, false, not}
use Prim.Native.Nat.{ℕ, suc, ◌≤◌, ◌<◌, min, max}
use native.Mathlib.Nat.{le_trans, le_of_eq, le_of_suc-le-suc, lt_of_not-le}
use native.Mathlib.Omega.{arith}
use lib.Dec.{T, eqb, eqb→eq}
use lib.Ieee.{Float, binary32, le, neg, add, sub, mul, div, of_int, of_bits}
use Rattle.rules.specs.declared.Packing.TheVariants.{Nearest}
use Rattle.rules.specs.Floats.{Between, zero32, one32, minus1, two32, unpack_of, mean_of, square_of}
use Rattle.rules.specs.Whole.{upward_of}
use Rattle.rules.specs.Packing.{pack_of}
use Rattle.rules.specs.NearestValue.{units, reaches, found, root_pattern}
use Rattle.rules.specs.Root.{sqrt_of}
use Rattle.rules.specs.Curve.{curve_pattern, curve, encode_of}
use Rattle.rules.specs.Reducing.{spread_of, mean_byte, normal_byte, rough_byte, srgb_byte}
use Rattle.texel.proofs.Range.{Between-finite, le-trans-finite, le-self, mul_mono, in-sub}
use Rattle.texel.proofs.Unit.{unpack-in, unpack-between, mean-between, double-finite, spread-in, spread-mean-in, back-between, product-in}
use Rattle.texel.proofs.RootRule.{widen, in-root}
use Rattle.texel.proofs.Every.{below, at-below}
use Rattle.texel.proofs.Kept.{pack-mono}
use Rattle.texel.proofs.Inverse.{curve-mono, curve-in, curve-finite, greatest}
use Rattle.texel.proofs.Claims.{normal-packed, squares-in, root-packed, curve-mean}
use Rattle.texel.proofs.RoundedMeans.{rounded-mean}

-- v lies between the least and the greatest of four
pub record Amid (a b c d v : ℕ) : Type 0 where
  pub least : min (min a b) (min c d) ≤ v
  pub greatest : v ≤ max (max a b) (max c d)

-- ---- a byte four times makes itself
shown : (f : ℕ → ℕ) → T (below (λ k. eqb (f k) k) 256) → (k : ℕ) → k < 256 → f k ≡ k
shown f t k h = eqb→eq (f k) k (at-below (λ k. eqb (f k) k) 256 t k h)

normal-flat : (k : ℕ) → k < 256 → normal_byte Nearest k k k k ≡ k
unfolding normal_byte pack_of upward_of add sub neg mul div of_int of_bits
normal-flat = shown (λ k. normal_byte Nearest k k k k) tt

rough-flat : (k : ℕ) → k < 256 → rough_byte Nearest k k k k ≡ k
unfolding rough_byte pack_of upward_of sqrt_of root_pattern found reaches units add mul div of_int of_bits
rough-flat = shown (λ k. rough_byte Nearest k k k k) tt

-- T(k) four times has the mean T(k), and no two bytes have one value
curve-low : (k : ℕ) → k < 256 → T (le (curve k) (mean_of (curve k) (curve k) (curve k) (curve k)))
unfolding curve curve_pattern root_pattern found reaches units le add div of_bits
curve-low = at-below (λ k. le (curve k) (mean_of (curve k) (curve k) (curve k) (curve k))) 256 tt

curve-high : (k : ℕ) → k < 256 → T (le (mean_of (curve k) (curve k) (curve k) (curve k)) (curve k))
unfolding curve curve_pattern root_pattern found reaches units le add div of_bits
curve-high = at-below (λ k. le (mean_of (curve k) (curve k) (curve k) (curve k)) (curve k)) 256 tt

curve-apart : (k : ℕ) → k < 255 → T (not (le (curve (suc k)) (curve k)))
unfolding curve curve_pattern root_pattern found reaches units le of_bits
curve-apart = at-below (λ k. not (le (curve (suc k)) (curve k))) 255 tt

-- so T tells the order of bytes
curve-tells : (e h : ℕ) → e < 256 → h < 256 → T (le (curve e) (curve h)) → e ≤ h
curve-tells e h E H t = le_of_suc-le-suc (lt_of_not-le (λ (g : h < e). no_both (le (curve (suc h)) (curve h)) (past g) (curve-apart h (omega arith))))
  where
    past : h < e → T (le (curve (suc h)) (curve h))
    past g = le-trans-finite (curve (suc h)) (curve e) (curve h) (curve-finite (suc h) (omega arith)) (curve-finite e E) (curve-finite h H) (curve-mono (suc h) e g E) t

    no_both : (b : Bool) → T b → T (not b) → ⊥
    no_both true t n = n
    no_both false t n = t

-- ---- products keep the order of values from 0 to 1, and the spread does
wider : {x : Float} → Between zero32 x one32 → Between minus1 x one32
unfolding of_bits neg
wider {x} b = record { low = le-trans-finite minus1 zero32 x tt tt (Between-finite zero32 x one32 tt tt b) (unfold le in tt) b.low; high = b.high }

module _ (lo p hi : Float) (L : Between zero32 lo one32) (P : Between zero32 p one32) (H : Between zero32 hi one32) (b : Between lo p hi) where
  square-between : Between (square_of lo) (square_of p) (square_of hi)
  unfolding of_bits
  square-between =
      let l = Between-finite zero32 lo one32 tt tt L in
      let m = Between-finite zero32 p one32 tt tt P in
      let h = Between-finite zero32 hi one32 tt tt H in
      record {
        low = mul_mono binary32 zero32 lo p lo p tt refl l m l m L.low L.low b.low b.low;
        high = mul_mono binary32 zero32 p hi p hi tt refl m h m h P.low P.low b.high b.high;
      }

  double-between : Between (mul binary32 lo two32) (mul binary32 p two32) (mul binary32 hi two32)
  unfolding of_bits
  double-between =
      let l = Between-finite zero32 lo one32 tt tt L in
      let m = Between-finite zero32 p one32 tt tt P in
      let h = Between-finite zero32 hi one32 tt tt H in
      let two : T (le zero32 two32) = unfold le in tt in
      let same = le-self two32 tt in
      record {
        low = mul_mono binary32 zero32 lo p two32 two32 tt refl l m tt tt L.low two b.low same;
        high = mul_mono binary32 zero32 p hi two32 two32 tt refl m h tt tt P.low two b.high same;
      }

  spread-between : Between (spread_of lo) (spread_of p) (spread_of hi)
  unfolding of_bits
  spread-between = in-sub binary32 (mul binary32 lo two32) (mul binary32 p two32) (mul binary32 hi two32) one32 one32 one32 (double-finite lo L) (double-finite hi H) tt tt double-between (record { low = le-self one32 tt; high = le-self one32 tt })

-- ---- four bytes between a least and a greatest
module _ (l h a b c d : ℕ) (few : h < 256) (A : (l ≤ a) × (a ≤ h)) (B : (l ≤ b) × (b ≤ h)) (C : (l ≤ c) × (c ≤ h)) (D : (l ≤ d) × (d ≤ h)) where
  byte : {k : ℕ} → (l ≤ k) × (k ≤ h) → Between (unpack_of l) (unpack_of k) (unpack_of h)
  byte {k} K = unpack-between l k h K.0 K.1 few

  lt : {k : ℕ} → (l ≤ k) × (k ≤ h) → k < 256
  lt K = let x = K.1 in omega arith

  low-lt : l < 256
  low-lt = let x = A.0 in let y = A.1 in omega arith

  one : {k : ℕ} → k < 256 → Between zero32 (unpack_of k) one32
  one {k} K = unpack-in k K

  spread : {k : ℕ} → (l ≤ k) × (k ≤ h) → Between (spread_of (unpack_of l)) (spread_of (unpack_of k)) (spread_of (unpack_of h))
  spread {k} K = spread-between (unpack_of l) (unpack_of k) (unpack_of h) (one low-lt) (one (lt K)) (one few) (byte K)

  square : {k : ℕ} → (l ≤ k) × (k ≤ h) → Between (square_of (unpack_of l)) (square_of (unpack_of k)) (square_of (unpack_of h))
  square {k} K = square-between (unpack_of l) (unpack_of k) (unpack_of h) (one low-lt) (one (lt K)) (one few) (byte K)

  -- what a mode packs of three values that are in order, where the outer two make l and h
  packed : (lo v hi : Float) → Between zero32 lo one32 → Between zero32 v one32 → Between zero32 hi one32 → Between lo v hi
      → pack_of Nearest lo ≡ l → pack_of Nearest hi ≡ h → (l ≤ pack_of Nearest v) × (pack_of Nearest v ≤ h)
  packed lo v hi L M H k el eh = (le_trans (le_of_eq (sym el)) (pack-mono Nearest lo v L M k.low), le_trans (pack-mono Nearest v hi M H k.high) (le_of_eq eh))

  normal-between : (l ≤ normal_byte Nearest a b c d) × (normal_byte Nearest a b c d ≤ h)
  unfolding normal_byte
  normal-between =
      let L = one low-lt in
      let H = one few in
      packed _ _ _ (normal-packed l l l l low-lt low-lt low-lt low-lt) (normal-packed a b c d (lt A) (lt B) (lt C) (lt D)) (normal-packed h h h h few few few few)
      (back-between _ _ _ (spread-mean-in _ _ _ _ L L L L) (spread-mean-in _ _ _ _ H H H H) (mean-between _ _ _ _ _ _ (spread-in _ L) (spread-in _ H) (spread A) (spread B) (spread C) (spread D)))
      (normal-flat l low-lt) (normal-flat h few)

  rough-between : (l ≤ rough_byte Nearest a b c d) × (rough_byte Nearest a b c d ≤ h)
  unfolding rough_byte
  rough-between =
      let L = one low-lt in
      let H = one few in
      packed _ _ _ (root-packed l l l l low-lt low-lt low-lt low-lt) (root-packed a b c d (lt A) (lt B) (lt C) (lt D)) (root-packed h h h h few few few few)
      (in-root _ _ _ (widen (squares-in l l l l low-lt low-lt low-lt low-lt)) (widen (squares-in h h h h few few few few))
      (mean-between _ _ _ _ _ _ (wider (product-in _ _ L L)) (wider (product-in _ _ H H)) (square A) (square B) (square C) (square D)))
      (rough-flat l low-lt) (rough-flat h few)

  tee : {k : ℕ} → (l ≤ k) × (k ≤ h) → Between (curve l) (curve k) (curve h)
  tee {k} K = record { low = curve-mono l k K.0 (lt K); high = curve-mono k h K.1 few }

  srgb-between : (l ≤ srgb_byte a b c d) × (srgb_byte a b c d ≤ h)
  unfolding srgb_byte of_bits
  srgb-between =
      let inside = curve-mean a b c d (lt A) (lt B) (lt C) (lt D) in
      let m = mean_of (curve a) (curve b) (curve c) (curve d) in
      let g = greatest m inside in
      let k = mean-between _ _ _ _ _ _ (wider (curve-in l low-lt)) (wider (curve-in h few)) (tee A) (tee B) (tee C) (tee D) in
      let fm = Between-finite zero32 m one32 tt tt inside in
      let fl = Between-finite zero32 (mean_of (curve l) (curve l) (curve l) (curve l)) one32 tt tt (curve-mean l l l l low-lt low-lt low-lt low-lt) in
      let fh = Between-finite zero32 (mean_of (curve h) (curve h) (curve h) (curve h)) one32 tt tt (curve-mean h h h h few few few few) in
      let e = encode_of m in (
        g.most l low-lt (le-trans-finite _ _ _ (curve-finite l low-lt) fl fm (curve-low l low-lt) k.low),
        curve-tells e h g.small few
            (le-trans-finite _ _ _ (curve-finite e g.small) fm (curve-finite h few) g.fits
            (le-trans-finite _ _ _ fm fh (curve-finite h few) k.high (curve-high h few))),
      )

-- ---- the least and the greatest of four
module _ (a b c d : ℕ) (A : a < 256) (B : b < 256) (C : c < 256) (D : d < 256) where
  -- Linear, Cubemap, MetallicRoughness' blue, SRGB's alpha
  pub mean-amid : Amid a b c d (mean_byte Nearest a b c d)
  mean-amid = rw (rounded-mean a b c d A B C D) (record { least = omega arith; greatest = omega arith })

  amid : (v : ℕ) → let l = min (min a b) (min c d) in let h = max (max a b) (max c d) in (l ≤ v) × (v ≤ h) → Amid a b c d v
  amid v k = record { least = k.0; greatest = k.1 }

  -- Normal
  pub normal-amid : Amid a b c d (normal_byte Nearest a b c d)
  normal-amid =
      amid _ (normal-between (min (min a b) (min c d)) (max (max a b) (max c d)) a b c d (omega arith) (omega arith, omega arith) (omega arith, omega arith) (omega arith, omega arith) (omega arith, omega arith))

  -- MetallicRoughness' green
  pub rough-amid : Amid a b c d (rough_byte Nearest a b c d)
  rough-amid =
      amid _ (rough-between (min (min a b) (min c d)) (max (max a b) (max c d)) a b c d (omega arith) (omega arith, omega arith) (omega arith, omega arith) (omega arith, omega arith) (omega arith, omega arith))

  -- SRGB's colours
  pub srgb-amid : Amid a b c d (srgb_byte a b c d)
  srgb-amid =
      amid _ (srgb-between (min (min a b) (min c d)) (max (max a b) (max c d)) a b c d (omega arith) (omega arith, omega arith) (omega arith, omega arith) (omega arith, omega arith) (omega arith, omega arith))
