-- The two levels of a trilinear lookup. A finite fractional level held to 0..top lies there as a float, since top is one as it is;
-- its floor l is a whole number up to top, and what is left over lies in 0 to 1. Assumes nothing.
use mathlib.Core.Path.{◌≡◌, refl, sym, ap, ◌∙◌, subst, subst₂}
use mathlib.Core.Logic.{inl, inr}
use mathlib.Core.Bool.{Bool, true, false, cond}
use Prim.Native.Nat.{ℕ, ◌+◌, ◌*◌, ◌/◌, ◌≤◌, min, zero-le}
use native.Mathlib.Nat.{le_refl, zero-lt-suc, mul-le-mul_right}
use native.Mathlib.Omega.{arith}
use lib.IntN.{pos, neg_ℤ, nat_abs}
use lib.Dec.{T}
use lib.Ieee.{Float, nan, inf, fin, binary32, up, down, le, lt, sub, round, of_int, of_bits, to_unsigned, in_unsigned}
use lib.Ieee.Fits.{down_pos}
use lib.Ieee.Exact.{HasValue}
use lib.Ieee.Back.{round_whole, unsigned_back}
use lib.Ieee.Order.{round_mono}
use lib.Ieee.Scale.{finite}
use Rattle.rules.specs.Floats.{Between, zero32, one32, float}
use Rattle.rules.specs.Whole.{floor_of}
use Rattle.rules.specs.Cubemap.{hold_of, pairing_of}
use Rattle.texel.specs.Ends.{low12, high12}
use Rattle.texel.proofs.Wholes.{value-finite}
use Rattle.texel.proofs.Range.{le→, Between-finite, le-trans-finite}
use Rattle.texel.proofs.Unit.{ends}
use Rattle.texel.proofs.Total.{le-or-lt}
use Rattle.texel.proofs.Coord.{side-float}
use Rattle.texel.proofs.Floors.{near-in}
use Rattle.texel.proofs.Fraction.{fraction-in}
use Rattle.places.proofs.Spans.{upper, up_le, down_le}

-- ---- held to 0..top
pub top_in : (n : ℕ) → Between zero32 (float n) (float n)
unfolding of_int
top_in n =
    ends zero refl
    (record {
      low = round_mono binary32 0 1 n 1 (zero-lt-suc 0) (zero-lt-suc 0) (mul-le-mul_right 1 zero-le);
      high = round_mono binary32 n 1 n 1 (zero-lt-suc 0) (zero-lt-suc 0) (le_refl (n * 1));
    })
  where
    zero : round binary32 false 0 1 ≡ zero32
    zero = unfold round of_bits in refl

not-lt : (x y : Float) → T (finite x) → T (finite y) → lt y x ≡ false → T (le x y)
not-lt x y p q h = elim (le-or-lt x y p q) [ inl k ↦ k | inr k ↦ absurd (subst T h k) ]

hold-in : (x top : Float) → T (finite x) → T (finite top) → Between zero32 top top → Between zero32 (hold_of x top) top
unfolding hold_of of_bits
hold-in x top p q b = go (lt x zero32) refl (lt top x) refl
  where
    zero : T (le zero32 zero32)
    zero = unfold le in tt

    go : (i : Bool) → lt x zero32 ≡ i → (j : Bool) → lt top x ≡ j → Between zero32 (cond i zero32 (cond j top x)) top
    go true e j g = record { low = zero; high = b.low }
    go false e true g = b
    go false e false g = record { low = not-lt zero32 x tt p e; high = not-lt x top p q g }

-- ---- its floor
pub record Step (x : Float) (top : ℕ) : Type 0 where
  pub n : ℕ
  pub is : floor_of x ≡ pos n
  pub most : n ≤ top

step_of : (x w : Float) (top : ℕ) → T (finite x) → HasValue w false top 1 → Between zero32 x w → Step x top
unfolding floor_of of_bits
step_of nan w top f v b = absurd f
step_of (inf s) w top f v b = absurd f
step_of (fin false m e) w top f v b =
    record { n = m * up e / down e; is = refl; most = down_le (m * up e) (down e) top (down_pos e) (upper m e w top v b.high) }
step_of (fin true m e) w top f v b =
    let l = le→ (fin false 0 (pos 0)) (fin true m e) tt tt b.low in
    let z = up_le (m * up e) (down e) 0 (down_pos e) (omega arith) in
    record { n = 0; is = ap (λ (k : ℕ). neg_ℤ (pos k)) (none _ z); most = zero-le }
  where
    none : (k : ℕ) → k ≤ 0 → k ≡ 0
    none k h = omega arith

top_below : (n : ℕ) → n ≤ 12 → T (le (float n) high12)
unfolding of_int
top_below n h =
    subst (λ (z : Float). T (le (round binary32 false n 1) z)) (unfold round in refl)
    (round_mono binary32 n 1 4096 1 (zero-lt-suc 0) (zero-lt-suc 0) (mul-le-mul_right 1 (more n h)))
  where
    more : (n : ℕ) → n ≤ 12 → n ≤ 4096
    more n h = omega arith

module _ (x : Float) (top : ℕ) (p : T (finite x)) (h : top ≤ 12) where
  value : HasValue (float top) false top 1
  unfolding of_int
  value = round_whole binary32 false top (omega arith)

  held_in : Between zero32 (hold_of x (float top)) (float top)
  held_in = hold-in x (float top) p (value-finite (float top) false top 1 value) (top_in top)

  held-finite : T (finite (hold_of x (float top)))
  unfolding of_bits
  held-finite = Between-finite zero32 (hold_of x (float top)) (float top) tt (value-finite (float top) false top 1 value) held_in

  step : Step (hold_of x (float top)) top
  step = step_of (hold_of x (float top)) (float top) top held-finite value held_in

  pub held-range : Between low12 (hold_of x (float top)) high12
  unfolding of_bits
  held-range =
      let F = value-finite (float top) false top 1 value in
      record {
        low = le-trans-finite low12 zero32 (hold_of x (float top)) tt tt held-finite (unfold le in tt) held_in.low;
        high = le-trans-finite (hold_of x (float top)) (float top) high12 held-finite F tt held_in.high (top_below top h);
      }

-- ---- what the code makes of the floor l
pub record Known (x : Float) (top : ℕ) (l : Float) : Type 0 where
  pub whole : T (in_unsigned binary32 32 l)
  pub cut : to_unsigned 32 l ≡ nat_abs (floor_of x)
  pub most : nat_abs (floor_of x) ≤ top
  pub weight : Between zero32 (sub binary32 x l) one32

pub known : (x h : Float) (top : ℕ) (l : Float) → T (finite x) → top ≤ 12 → h ≡ hold_of x (float top) → l ≡ of_int binary32 (floor_of h) → Known h top l
known x h top l p k e i = subst₂ (λ (h l : Float). Known h top l) (sym e) (sym (i ∙ ap (λ (z : Float). of_int binary32 (floor_of z)) e)) at_held
  where
    at_held : Known (hold_of x (float top)) top (of_int binary32 (floor_of (hold_of x (float top))))
    at_held =
        let s = step x top p k in
        let back = unsigned_back binary32 32 s.n (side-float s.n (let m = s.most in omega arith)) (let m = s.most in omega arith) in
        record {
          whole = rw s.is back.0;
          cut = rw s.is back.1;
          most = rw s.is s.most;
          weight = fraction-in (hold_of x (float top)) (near-in (hold_of x (float top)) (held-range x top p k));
        }

pub at-pairing : (x h : Float) (top : ℕ) (l : Float) (low high : ℕ) → h ≡ hold_of x (float top) → l ≡ of_int binary32 (floor_of h) → low ≡ nat_abs (floor_of h) → high ≡ min (low + 1) top
    → record { low = low; high = high; part = sub binary32 h l } ≡ pairing_of x top
unfolding pairing_of
at-pairing x h top l low high e i k j = rw (j, k, i, e)
