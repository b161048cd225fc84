-- The place on the cube of a direction that is taken: each component lies within ± the major one, which is above zero, so each
-- quotient lies in -1 to 1 and each coordinate in 0 to 1. A factor of 1 or -1 changes no size. Assumes nothing.
use mathlib.Core.Path.{◌≡◌, refl, sym, subst}
use mathlib.Core.Logic.{inl, inr}
use mathlib.Core.Bool.{Bool, true, false, not, cond, ◌&&◌, ◌||◌}
use Prim.Native.Nat.{ℕ, ◌+◌, ◌≤◌, ◌<◌}
use native.Mathlib.Omega.{arith}
use lib.IntN.{pos}
use lib.Dec.{T}
use lib.Ieee.{Float, fin, binary32, fits, neg, mul, le, lt, of_bits}
use lib.Ieee.Fits.{and_l, and_r}
use lib.Ieee.Scale.{finite}
use lib.Ieee.Positive.{positive, between}
use Rattle.rules.specs.Floats.{Between, zero32, magnitude}
use Rattle.rules.specs.Faces.{low60, high60, direction_taken, sign_of, odd_of, on_face, spot_at, spot_of}
use Rattle.rules.specs.Lanes.{Spot}
use Rattle.texel.proofs.Range.{le-trans-finite, neg-finite}
use Rattle.texel.proofs.Unit.{on-face-in}
use Rattle.texel.proofs.Total.{le-or-lt, lt-le}
use Rattle.texel.proofs.Same.{mul-by-one, mul-by-minus, neg-holds}
use Rattle.places.specs.Spots.{OnCube}
use Rattle.places.proofs.Magnitudes.{Sized, sized, within, opposite}
use Rattle.places.proofs.Taken.{or_split, Compared, parts, finite-of-le, direction-words}

-- ---- the choice made value by value is the choice of the whole place
chosen : (bx by : Bool) (f g h : ℕ) (q1 q2 q3 p1 p2 p3 m1 m2 m3 : Float)
    → record {
      face = cond bx f (cond by g h);
      u = on_face (cond bx q1 (cond by q2 q3)) (cond bx m1 (cond by m2 m3));
      v = on_face (cond bx p1 (cond by p2 p3)) (cond bx m1 (cond by m2 m3));
    }
    ≡ cond bx (spot_at f q1 p1 m1) (cond by (spot_at g q2 p2 m2) (spot_at h q3 p3 m3))
unfolding spot_at
chosen true by f g h q1 q2 q3 p1 p2 p3 m1 m2 m3 = refl
chosen false true f g h q1 q2 q3 p1 p2 p3 m1 m2 m3 = refl
chosen false false f g h q1 q2 q3 p1 p2 p3 m1 m2 m3 = refl

pub spot-chosen : (x y z : Float)
    → (let ax = magnitude x in
    let ay = magnitude y in
    let az = magnitude z in
    let on-x = le ay ax && le az ax in
    let on-y = lt ax ay && le az ay in
    let major = cond on-x ax (cond on-y ay az) in
    record {
      face = cond on-x (odd_of x) (cond on-y (2 + odd_of y) (4 + odd_of z));
      u = on_face (cond on-x (mul binary32 (neg z) (sign_of x)) (cond on-y x (mul binary32 x (sign_of z)))) major;
      v = on_face (cond on-x (neg y) (cond on-y (mul binary32 z (sign_of y)) (neg y))) major;
    } ≡ spot_of x y z)
unfolding spot_of
spot-chosen x y z = chosen (le (magnitude y) (magnitude x) && le (magnitude z) (magnitude x)) (lt (magnitude x) (magnitude y) && le (magnitude z) (magnitude y)) (odd_of x) (2 + odd_of y) (4 + odd_of z) _ _ _ _ _ _ _ _ _

-- ---- a factor of 1 or -1
signed : (x y major : Float) → T (finite x) → T (fits binary32 x) → Between (neg major) x major → Between (neg major) (mul binary32 x (sign_of y)) major
unfolding sign_of of_bits neg
signed x y major F H b = go (le (fin false 0 (pos 0)) y)
  where
    go : (k : Bool) → Between (neg major) (mul binary32 x (cond k (fin false 1 (pos 0)) (fin true 1 (pos 0)))) major
    go true = rw (mul-by-one binary32 x F H) b
    go false = rw (mul-by-minus binary32 x F H) (opposite x major b)

odd-small : (x : Float) → odd_of x ≤ 1
unfolding odd_of
odd-small x = go (le zero32 x)
  where
    go : (k : Bool) → cond k 0 1 ≤ 1
    go true = omega arith
    go false = omega arith

on-spot : (n : ℕ) (q p major : Float) → n < 6 → T (positive major) → Between (neg major) q major → Between (neg major) p major → OnCube (spot_at n q p major)
unfolding spot_at
on-spot n q p major f h b k = record { side = f; across = on-face-in q major h b; along = on-face-in p major h k }

-- ---- the major component: the greatest of three magnitudes
record Major (ax ay az major : Float) : Type 0 where
  pub up : T (positive major)
  pub whole : T (finite major)
  pub x : T (le ax major)
  pub y : T (le ay major)
  pub z : T (le az major)

by-test : (R : Spot → Type 0) (b : Bool) (p q : Spot) → (T b → R p) → (T (not b) → R q) → R (cond b p q)
by-test R true p q h k = h tt
by-test R false p q h k = k tt

both-not : (a b : Bool) → T (not (a && b)) → T a → T b → ⊥
both-not true true h p q = h
both-not true false h p q = q
both-not false b h p q = p

le-self : (a : Float) → T (finite a) → T (le a a)
le-self a A = elim (le-or-lt a a A A) [ inl p ↦ p | inr q ↦ lt-le a a A A q ]

module _ (ax ay az : Float) (X : T (finite ax)) (Y : T (finite ay)) (Z : T (finite az)) (k : Compared ax ay az) where
  major : (m : Float) → T (finite m) → T (le ax m) → T (le ay m) → T (le az m) → T (le m high60) → Major ax ay az m
  major m M hx hy hz top = record {
    up = between low60 m high60 tt tt
        (elim (or_split (le low60 ax) (le low60 ay || le low60 az) k.one) [
          | inl p ↦ le-trans-finite low60 ax m tt X M p hx
          | inr r ↦ elim (or_split (le low60 ay) (le low60 az) r) [ inl p ↦ le-trans-finite low60 ay m tt Y M p hy | inr p ↦ le-trans-finite low60 az m tt Z M p hz ]
        ]) top;
    whole = M;
    x = hx;
    y = hy;
    z = hz;
  }

  -- neither X nor Y: then Z
  last : T (not (le ay ax && le az ax)) → T (not (lt ax ay && le az ay)) → T (le ax az) × T (le ay az)
  last n j =
      elim (le-or-lt ay ax Y X) [
        | inl p ↦ elim (le-or-lt az ax Z X) [
          | inl q ↦ absurd (both-not (le ay ax) (le az ax) n p q)
          | inr q ↦ (lt-le ax az X Z q, le-trans-finite ay ax az Y X Z p (lt-le ax az X Z q))
        ]
        | inr p ↦ elim (le-or-lt az ay Z Y) [
          | inl q ↦ absurd (both-not (lt ax ay) (le az ay) j p q)
          | inr q ↦ (le-trans-finite ax ay az X Y Z (lt-le ax ay X Y p) (lt-le ay az Y Z q), lt-le ay az Y Z q)
        ]
      ]

  by_turn : (R : Spot → Type 0) (p q r : Spot) → (Major ax ay az ax → R p) → (Major ax ay az ay → R q) → (Major ax ay az az → R r)
      → R (cond (le ay ax && le az ax) p (cond (lt ax ay && le az ay) q r))
  by_turn R p q r hx hy hz =
      by-test R (le ay ax && le az ax) p _ (λ t. hx (major ax X (le-self ax X) (and_l (le ay ax) (le az ax) t) (and_r (le ay ax) (le az ax) t) k.x))
      (λ n. by-test R (lt ax ay && le az ay) q r (λ t. hy (major ay Y (lt-le ax ay X Y (and_l (lt ax ay) (le az ay) t)) (le-self ay Y) (and_r (lt ax ay) (le az ay) t) k.y))
      (λ j. let d = last n j in hz (major az Z d.0 d.1 (le-self az Z) k.z)))

-- ---- both coordinates lie in 0 to 1
module _ (x y z ax ay az : Float) (fx : T (fits binary32 x)) (fz : T (fits binary32 z)) (sx : Sized x ax) (sy : Sized y ay) (sz : Sized z az) where
  inside : Compared ax ay az
      → OnCube (cond (le ay ax && le az ax) (spot_at (odd_of x) (mul binary32 (neg z) (sign_of x)) (neg y) ax)
      (cond (lt ax ay && le az ay) (spot_at (2 + odd_of y) x (mul binary32 z (sign_of y)) ay)
      (spot_at (4 + odd_of z) (mul binary32 x (sign_of z)) (neg y) az)))
  inside k =
      by_turn ax ay az sx.size sy.size sz.size k OnCube _ _ _
      (λ t. on-spot (odd_of x) (mul binary32 (neg z) (sign_of x)) (neg y) ax (let o = odd-small x in omega arith) t.up
      (signed (neg z) x ax (neg-finite z sz.whole) (neg-holds binary32 z fz) (opposite z ax (within z az ax t.whole sz t.z)))
      (opposite y ax (within y ay ax t.whole sy t.y)))
      (λ t. on-spot (2 + odd_of y) x (mul binary32 z (sign_of y)) ay (let o = odd-small y in omega arith) t.up
      (within x ax ay t.whole sx t.x)
      (signed z y ay sz.whole fz (within z az ay t.whole sz t.z)))
      (λ t. on-spot (4 + odd_of z) (mul binary32 x (sign_of z)) (neg y) az (let o = odd-small z in omega arith) t.up
      (signed x z az sx.whole fx (within x ax az t.whole sx t.x))
      (opposite y az (within y ay az t.whole sy t.y)))

pub on-cube : (x y z : Float) → T (fits binary32 x) → T (fits binary32 z) → T (direction_taken x y z) → OnCube (spot_of x y z)
unfolding spot_of
on-cube x y z fx fz t =
    let k = parts (magnitude x) (magnitude y) (magnitude z) (subst T (sym (direction-words x y z)) t) in
    inside x y z (magnitude x) (magnitude y) (magnitude z) fx fz (sized x (finite-of-le x k.x)) (sized y (finite-of-le y k.y)) (sized z (finite-of-le z k.z)) k
