-- Values that stay within 0 to 1: a byte unpacked, the mean of four, Normal's spread and back, a weight, one less a weight, a product of two,
-- and a place on a face. Each operation keeps the order (Range), and what it makes of the ends of a range is computed. Assumes nothing.
use mathlib.Core.Path.{◌≡◌, refl, subst₂}
use Prim.Native.Nat.{ℕ, ◌≤◌, ◌<◌, zero-le}
use native.Mathlib.Nat.{mul-le-mul_right, zero-lt-suc}
use native.Mathlib.Omega.{arith}
use lib.Dec.{T}
use lib.IntN.{pos}
use lib.Ieee.{Float, Format, binary32, round, neg, add, sub, mul, div, le, of_int, of_bits}
use lib.Ieee.Order.{round_mono}
use lib.Ieee.Scale.{finite}
use lib.Ieee.Positive.{positive, positive-finite}
use Rattle.rules.specs.Floats.{Between, zero32, half32, one32, minus1, two32, four32, top32, unpack_of, mean_of, rest_of}
use Rattle.rules.specs.Reducing.{spread_of, back_of, normal_mean}
use Rattle.rules.specs.Faces.{on_face}
use Rattle.texel.proofs.Range.{Between-finite, in-add, in-sub, in-mul, in-div, neg-finite, div_self, div-neg-self}

-- a range whose ends are written otherwise
pub ends : {lo lo' x hi hi' : Float} → lo ≡ lo' → hi ≡ hi' → Between lo x hi → Between lo' x hi'
ends {x = x} p q b = subst₂ (λ (l h : Float). Between l x h) p q b

-- ---- a byte
byte-in : (f : Format) (l b k : ℕ) → l ≤ b → b ≤ k → Between (of_int f (pos l)) (of_int f (pos b)) (of_int f (pos k))
unfolding of_int
byte-in f l b k h g = record { low = round_mono f l 1 b 1 (zero-lt-suc 0) (zero-lt-suc 0) (mul-le-mul_right 1 h); high = round_mono f b 1 k 1 (zero-lt-suc 0) (zero-lt-suc 0) (mul-le-mul_right 1 g) }

c0 : div binary32 (of_int binary32 (pos 0)) top32 ≡ zero32
unfolding div of_int of_bits
c0 = refl

c1 : div binary32 (of_int binary32 (pos 255)) top32 ≡ one32
unfolding div of_int of_bits
c1 = refl

pub unpack-in : (b : ℕ) → b < 256 → Between zero32 (unpack_of b) one32
unfolding of_int of_bits
unpack-in b h = ends c0 c1 (in-div binary32 (of_int binary32 (pos 0)) (of_int binary32 (pos b)) (of_int binary32 (pos 255)) top32 tt tt tt (byte-in binary32 0 b 255 zero-le (omega arith)))

-- bytes unpacked have the order of the bytes
pub unpack-between : (l b k : ℕ) → l ≤ b → b ≤ k → k < 256 → Between (unpack_of l) (unpack_of b) (unpack_of k)
unfolding of_bits
unpack-between l b k h g few = in-div binary32 (of_int binary32 (pos l)) (of_int binary32 (pos b)) (of_int binary32 (pos k)) top32 (held l (omega arith)) (held k few) tt (byte-in binary32 l b k h g)
  where
    held : (b : ℕ) → b < 256 → T (finite (of_int binary32 (pos b)))
    held b h = unfold of_int in Between-finite (of_int binary32 (pos 0)) (of_int binary32 (pos b)) (of_int binary32 (pos 255)) tt tt (byte-in binary32 0 b 255 zero-le (omega arith))

pub unpacked-in : {r : Float} {b : ℕ} → r ≡ unpack_of b → b < 256 → Between zero32 r one32
unpacked-in {r} {b} e h = rw e (unpack-in b h)

-- ---- the mean of four values of one range
abbrev sum4 : Float → Float → Float → Float → Float
sum4 a b c d = add binary32 (add binary32 (add binary32 a b) c) d

mean-from : (lo hi a b c d : Float) → T (finite lo) → T (finite hi)
    → T (finite (add binary32 lo lo)) → T (finite (add binary32 hi hi))
    → T (finite (add binary32 (add binary32 lo lo) lo)) → T (finite (add binary32 (add binary32 hi hi) hi))
    → T (finite (sum4 lo lo lo lo)) → T (finite (sum4 hi hi hi hi))
    → Between lo a hi → Between lo b hi → Between lo c hi → Between lo d hi → Between (mean_of lo lo lo lo) (mean_of a b c d) (mean_of hi hi hi hi)
mean-from lo hi a b c d L H L2 H2 L3 H3 L4 H4 p q r s =
    in-div binary32 (sum4 lo lo lo lo) (sum4 a b c d) (sum4 hi hi hi hi) four32 L4 H4 above
    (in-add binary32 (add binary32 (add binary32 lo lo) lo) (add binary32 (add binary32 a b) c) (add binary32 (add binary32 hi hi) hi) lo d hi L3 H3 L H
    (in-add binary32 (add binary32 lo lo) (add binary32 a b) (add binary32 hi hi) lo c hi L2 H2 L H
    (in-add binary32 lo a hi lo b hi L H L H p q) r) s)
  where
    above : T (positive four32)
    above = unfold of_bits in tt

-- of values from -1 to 1 no such sum is infinite
finite-sums : (x : Float) → Between minus1 x one32
    → T (finite x) × T (finite (add binary32 x x)) × T (finite (add binary32 (add binary32 x x) x)) × T (finite (sum4 x x x x))
unfolding of_bits neg add
finite-sums x b =
    let two = in-add binary32 minus1 x one32 minus1 x one32 tt tt tt tt b b in
    let three = in-add binary32 (add binary32 minus1 minus1) (add binary32 x x) (add binary32 one32 one32) minus1 x one32 tt tt tt tt two b in
    let four = in-add binary32 (add binary32 (add binary32 minus1 minus1) minus1) (add binary32 (add binary32 x x) x) (add binary32 (add binary32 one32 one32) one32) minus1 x one32 tt tt tt tt three b in
    (Between-finite minus1 x one32 tt tt b, Between-finite _ _ _ tt tt two, Between-finite _ _ _ tt tt three, Between-finite _ _ _ tt tt four)

pub mean-between : (lo hi a b c d : Float) → Between minus1 lo one32 → Between minus1 hi one32
    → Between lo a hi → Between lo b hi → Between lo c hi → Between lo d hi → Between (mean_of lo lo lo lo) (mean_of a b c d) (mean_of hi hi hi hi)
mean-between lo hi a b c d L H =
    let l = finite-sums lo L in
    let h = finite-sums hi H in
    mean-from lo hi a b c d l.0 h.0 l.1 h.1 l.2 h.2 l.3 h.3

n-low : mean_of minus1 minus1 minus1 minus1 ≡ minus1
unfolding of_bits add div neg
n-low = refl

m-low : mean_of zero32 zero32 zero32 zero32 ≡ zero32
unfolding of_bits add div
m-low = refl

m-high : mean_of one32 one32 one32 one32 ≡ one32
unfolding of_bits add div
m-high = refl

-- in 0 to 1
pub mean-in : (a b c d : Float) → Between zero32 a one32 → Between zero32 b one32 → Between zero32 c one32 → Between zero32 d one32 → Between zero32 (mean_of a b c d) one32
unfolding of_bits add
mean-in a b c d p q r s = ends m-low m-high (mean-from zero32 one32 a b c d tt tt tt tt tt tt tt tt p q r s)

-- ---- the pack: value * 255.0 lies in 0 to 255
p1 : mul binary32 one32 top32 ≡ top32
unfolding mul of_bits
p1 = refl

lift : Between zero32 top32 top32
unfolding of_bits le
lift = record { low = tt; high = tt }

pub scaled-in : (x : Float) → Between zero32 x one32 → Between zero32 (mul binary32 x top32) top32
unfolding of_bits
scaled-in x b = ends z0 p1 (in-mul binary32 zero32 x one32 zero32 top32 top32 tt tt tt tt refl refl b lift)
  where
    z0 : mul binary32 zero32 zero32 ≡ zero32
    z0 = unfold mul in refl

-- ---- Normal: p*2 - 1 lies in -1 to 1, and (mean + 1) / 2 in 0 to 1
zero-two : Between zero32 two32 two32
unfolding of_bits le
zero-two = record { low = tt; high = tt }

one_in : Between one32 one32 one32
unfolding of_bits le
one_in = record { low = tt; high = tt }

s-low : sub binary32 (mul binary32 zero32 zero32) one32 ≡ minus1
unfolding of_bits mul sub neg
s-low = refl

s-high : sub binary32 (mul binary32 one32 two32) one32 ≡ one32
unfolding of_bits mul sub neg
s-high = refl

doubled-in : (p : Float) → Between zero32 p one32 → Between (mul binary32 zero32 zero32) (mul binary32 p two32) (mul binary32 one32 two32)
unfolding of_bits
doubled-in p b = in-mul binary32 zero32 p one32 zero32 two32 two32 tt tt tt tt refl refl b zero-two

pub double-finite : (p : Float) → Between zero32 p one32 → T (finite (mul binary32 p two32))
unfolding of_bits mul
double-finite p b = Between-finite (mul binary32 zero32 zero32) (mul binary32 p two32) (mul binary32 one32 two32) tt tt (doubled-in p b)

pub spread-in : (p : Float) → Between zero32 p one32 → Between minus1 (spread_of p) one32
unfolding of_bits mul
spread-in p b = ends s-low s-high (in-sub binary32 (mul binary32 zero32 zero32) (mul binary32 p two32) (mul binary32 one32 two32) one32 one32 one32 tt tt tt tt (doubled-in p b) one_in)

b-low : back_of minus1 ≡ zero32
unfolding of_bits add div neg
b-low = refl

b-high : back_of one32 ≡ one32
unfolding of_bits add div
b-high = refl

pub back-between : (lo m hi : Float) → Between minus1 lo one32 → Between minus1 hi one32 → Between lo m hi → Between (back_of lo) (back_of m) (back_of hi)
unfolding of_bits
back-between lo m hi L H b =
    let l = held lo L in
    let h = held hi H in
    in-div binary32 (add binary32 lo one32) (add binary32 m one32) (add binary32 hi one32) two32 l.1 h.1 tt (in-add binary32 lo m hi one32 one32 one32 l.0 h.0 tt tt b one_in)
  where
    held : (x : Float) → Between minus1 x one32 → T (finite x) × T (finite (add binary32 x one32))
    held x b = unfold add neg in (Between-finite minus1 x one32 tt tt b, Between-finite _ _ _ tt tt (in-add binary32 minus1 x one32 one32 one32 one32 tt tt tt tt b one_in))

pub back_in : (m : Float) → Between minus1 m one32 → Between zero32 (back_of m) one32
unfolding of_bits add neg
back_in m b = ends b-low b-high (in-div binary32 (add binary32 minus1 one32) (add binary32 m one32) (add binary32 one32 one32) two32 tt tt tt (in-add binary32 minus1 m one32 one32 one32 one32 tt tt tt tt b one_in))

module _ (a b c d : Float) (p : Between zero32 a one32) (q : Between zero32 b one32) (r : Between zero32 c one32) (s : Between zero32 d one32) where
  pub spread-mean-in : Between minus1 (mean_of (spread_of a) (spread_of b) (spread_of c) (spread_of d)) one32
  unfolding of_bits add neg
  spread-mean-in = ends n-low m-high (mean-from minus1 one32 (spread_of a) (spread_of b) (spread_of c) (spread_of d) tt tt tt tt tt tt tt tt (spread-in a p) (spread-in b q) (spread-in c r) (spread-in d s))

  pub normal-in : Between zero32 (normal_mean a b c d) one32
  normal-in = back_in (mean_of (spread_of a) (spread_of b) (spread_of c) (spread_of d)) spread-mean-in

-- ---- a weight: 1 - weight, and the product of two
w-low : sub binary32 one32 one32 ≡ zero32
unfolding of_bits sub
w-low = refl

w-high : sub binary32 one32 zero32 ≡ one32
unfolding of_bits sub
w-high = refl

pub rest_in : (x : Float) → Between zero32 x one32 → Between zero32 (rest_of x) one32
unfolding of_bits
rest_in x b = ends w-low w-high (in-sub binary32 one32 one32 one32 zero32 x one32 tt tt tt tt one_in b)

pw-low : mul binary32 zero32 zero32 ≡ zero32
unfolding of_bits mul
pw-low = refl

pw-high : mul binary32 one32 one32 ≡ one32
unfolding of_bits mul
pw-high = refl

pub product-in : (x y : Float) → Between zero32 x one32 → Between zero32 y one32 → Between zero32 (mul binary32 x y) one32
unfolding of_bits
product-in x y b k = ends pw-low pw-high (in-mul binary32 zero32 x one32 zero32 y one32 tt tt tt tt refl refl b k)

-- ---- q / major in -1 to 1, and its place in 0 to 1
q-high : (major : Float) → T (positive major) → div binary32 major major ≡ one32
unfolding of_bits round
q-high major h = div_self binary32 major h

q-low : (major : Float) → T (positive major) → div binary32 (neg major) major ≡ minus1
unfolding of_bits round neg
q-low major h = div-neg-self binary32 major h

h-low : mul binary32 zero32 (add binary32 minus1 one32) ≡ zero32
unfolding of_bits mul add neg
h-low = refl

h-high : mul binary32 half32 (add binary32 one32 one32) ≡ one32
unfolding of_bits mul add
h-high = refl

half-range : Between zero32 half32 half32
unfolding of_bits le
half-range = record { low = tt; high = tt }

half_in : (q : Float) → Between minus1 q one32 → Between zero32 (mul binary32 half32 (add binary32 q one32)) one32
unfolding of_bits add neg
half_in q b =
    ends h-low h-high
    (in-mul binary32 zero32 half32 half32 (add binary32 minus1 one32) (add binary32 q one32) (add binary32 one32 one32) tt tt tt tt refl refl half-range
    (in-add binary32 minus1 q one32 one32 one32 one32 tt tt tt tt b one_in))

pub quotient-in : (q major : Float) → T (positive major) → Between (neg major) q major → Between minus1 (div binary32 q major) one32
quotient-in q major h b = ends (q-low major h) (q-high major h) (in-div binary32 (neg major) q major major (neg-finite major (positive-finite major h)) (positive-finite major h) h b)

pub on-face-in : (q major : Float) → T (positive major) → Between (neg major) q major → Between zero32 (on_face q major) one32
on-face-in q major h b = half_in (div binary32 q major) (quotient-in q major h b)
