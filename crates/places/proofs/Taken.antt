-- Refusal 7 by comparisons: no component is a NaN or an infinity and the largest magnitude lies in 2^-60 to 2^60 exactly where
-- each magnitude is at most 2^60, which neither a NaN's nor an infinity's is, and one of them is 2^-60 at least.
-- Assumes nothing.
use mathlib.Core.Path.{◌≡◌, refl, sym, ap, ◌∙◌, subst}
use mathlib.Core.Logic.{◌⊎◌, inl, inr}
use mathlib.Core.Bool.{Bool, true, false, not, cond, ◌&&◌, ◌||◌}
use lib.Dec.{T}
use lib.Ieee.{Float, nan, inf, fin, neg, le, lt, of_bits}
use lib.Ieee.Fits.{and_i, and_l, and_r}
use lib.Ieee.Scale.{finite}
use Rattle.rules.specs.Floats.{magnitude}
use Rattle.rules.specs.Faces.{low60, high60, larger, direction_taken}
use Rattle.texel.proofs.Range.{le-trans-finite}
use Rattle.texel.proofs.Total.{le-or-lt, lt-le}
use Rattle.places.specs.Spots.{sizes_taken}
use Rattle.places.proofs.Magnitudes.{same_test, le_not, sized}

pub or_l : (a b : Bool) → T a → T (a || b)
or_l true b t = tt
or_l false b t = absurd t

pub or_r : (a b : Bool) → T b → T (a || b)
or_r true b t = tt
or_r false b t = t

pub or_split : (a b : Bool) → T (a || b) → T a ⊎ T b
or_split true b t = inl tt
or_split false b t = inr t

pub finite-of-le : (x : Float) → T (le (magnitude x) high60) → T (finite x)
unfolding magnitude lt le neg of_bits
finite-of-le nan h = h
finite-of-le (inf true) h = h
finite-of-le (inf false) h = h
finite-of-le (fin s m e) h = tt

-- ---- the larger of two finite values
module _ (a b : Float) (A : T (finite a)) (B : T (finite b)) where
  larger-finite : T (finite (larger a b))
  larger-finite = go (le a b)
    where
      go : (k : Bool) → T (finite (cond k b a))
      go true = B
      go false = A

  le-other : le a b ≡ false → T (le b a)
  le-other h = elim (le-or-lt a b A B) [ inl p ↦ absurd (subst T h p) | inr q ↦ lt-le b a B A q ]

  larger-le : (c : Float) → T (finite c) → le (larger a b) c ≡ (le a c && le b c)
  larger-le c C = go (le a b) refl
    where
      go : (k : Bool) → le a b ≡ k → le (cond k b a) c ≡ (le a c && le b c)
      go true e = same_test (le b c) (le a c && le b c) (λ t. and_i (le a c) (le b c) (le-trans-finite a b c A B C (subst T (sym e) tt) t) t) (λ t. and_r (le a c) (le b c) t)
      go false e = same_test (le a c) (le a c && le b c) (λ t. and_i (le a c) (le b c) t (le-trans-finite b a c B A C (le-other e) t)) (λ t. and_l (le a c) (le b c) t)

  le-larger : (c : Float) → T (finite c) → le c (larger a b) ≡ (le c a || le c b)
  le-larger c C = go (le a b) refl
    where
      up : (k : Bool) → T (le c a) ⊎ T (le c b) → le a b ≡ k → T (le c (cond k b a))
      up true (inl p) e = le-trans-finite c a b C A B p (subst T (sym e) tt)
      up true (inr p) e = p
      up false (inl p) e = p
      up false (inr p) e = le-trans-finite c b a C B A p (le-other e)

      go : (k : Bool) → le a b ≡ k → le c (cond k b a) ≡ (le c a || le c b)
      go true e = same_test (le c b) (le c a || le c b) (λ t. or_r (le c a) (le c b) t) (λ t. up true (or_split (le c a) (le c b) t) e)
      go false e = same_test (le c a) (le c a || le c b) (λ t. or_l (le c a) (le c b) t) (λ t. up false (or_split (le c a) (le c b) t) e)

-- ---- the tests, put together
lt_not : (x y : Float) → T (finite x) → T (finite y) → lt y x ≡ not (le x y)
lt_not x y p q = sym (ap not (le_not x y p q) ∙ twice (lt y x))
  where
    twice : (b : Bool) → not (not b) ≡ b
    twice true = refl
    twice false = refl

rearrange : (A B C D : Bool) → (A && (B && (C && D))) ≡ not (not D || not ((A && B) && C))
rearrange true true true true = refl
rearrange true true true false = refl
rearrange true true false true = refl
rearrange true true false false = refl
rearrange true false C true = refl
rearrange true false C false = refl
rearrange false B C true = refl
rearrange false B C false = refl

or_assoc : (P Q R : Bool) → ((P || Q) || R) ≡ (P || (Q || R))
or_assoc true Q R = refl
or_assoc false Q R = refl

all-finite : (ax ay az : Float) → T (finite ax) → T (finite ay) → T (finite az)
    → sizes_taken ax ay az ≡ not (lt (larger (larger ax ay) az) low60 || lt high60 (larger (larger ax ay) az))
all-finite ax ay az X Y Z =
    let m = larger ax ay in
    let M = larger-finite ax ay X Y in
    let L = larger m az in
    let F = larger-finite m az M Z in
    rw (
      lt_not low60 L tt F,
      lt_not L high60 F tt,
      le-larger m az M Z low60 tt,
      le-larger ax ay X Y low60 tt,
      larger-le m az M Z high60 tt,
      larger-le ax ay X Y high60 tt,
      or_assoc (le low60 ax) (le low60 ay) (le low60 az),
    )
    (rearrange (le ax high60) (le ay high60) (le az high60) (le low60 ax || (le low60 ay || le low60 az)))

-- what the comparisons say of each component
pub record Compared (ax ay az : Float) : Type 0 where
  pub x : T (le ax high60)
  pub y : T (le ay high60)
  pub z : T (le az high60)
  pub one : T (le low60 ax || (le low60 ay || le low60 az))

pub parts : (ax ay az : Float) → T (sizes_taken ax ay az) → Compared ax ay az
parts ax ay az t =
    let D = le low60 ax || (le low60 ay || le low60 az) in
    let r = and_r (le ax high60) (le ay high60 && (le az high60 && D)) t in
    let s = and_r (le ay high60) (le az high60 && D) r in
    record {
      x = and_l (le ax high60) (le ay high60 && (le az high60 && D)) t;
      y = and_l (le ay high60) (le az high60 && D) r;
      z = and_l (le az high60) D s;
      one = and_r (le az high60) D s;
    }

pub direction-words : (x y z : Float) → sizes_taken (magnitude x) (magnitude y) (magnitude z) ≡ direction_taken x y z
unfolding direction_taken
direction-words x y z = go (finite x) refl (finite y) refl (finite z) refl
  where
    test : Bool
    test = sizes_taken (magnitude x) (magnitude y) (magnitude z)

    none : (T test → ⊥) → test ≡ false
    none h = same_test test false h (λ t. absurd t)

    most : Float
    most = larger (larger (magnitude x) (magnitude y)) (magnitude z)

    go : (i : Bool) → finite x ≡ i → (j : Bool) → finite y ≡ j → (k : Bool) → finite z ≡ k → test ≡ (i && (j && (k && not (lt most low60 || lt high60 most))))
    go true e true f true g = all-finite (magnitude x) (magnitude y) (magnitude z) (sized x (subst T (sym e) tt)).size (sized y (subst T (sym f) tt)).size (sized z (subst T (sym g) tt)).size
    go true e true f false g = none (λ t. subst T g (finite-of-le z (parts _ _ _ t).z))
    go true e false f k g = none (λ t. subst T f (finite-of-le y (parts _ _ _ t).y))
    go false e j f k g = none (λ t. subst T e (finite-of-le x (parts _ _ _ t).x))
