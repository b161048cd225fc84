-- A turn takes the texel of its column: what is left of a part's texels, of its columns' places and of their guesses goes down together, and
-- what is left of a row is the part of it from the column on that its next part starts at. Assumes nothing.
use mathlib.Core.Path.{◌≡◌, refl, sym, ap, ◌∙◌}
use mathlib.Core.List.{List, ◌∷◌, ◌++◌}
use Prim.Native.Nat.{ℕ, suc, ◌+◌, ◌-◌, ◌*◌, ◌≤◌, ◌<◌}
use native.Mathlib.Omega.{arith}
use native.Mathlib.Nat.{add-zero, add-mul, mul-le-mul_right}
use lib.Arith.{digits_lt}
use lib.ListN.{length, get_or, drop, get_or-append, length-append, length-drop}
use lib.Seq.{length-take-le, get_or-take, get_or-drop, drop-drop, drop_at}
use lib.Ieee.{Float}
use Rattle.rules.specs.declared.Rgb.{Rgb}
use Rattle.rules.specs.declared.Basis.{Basis}
use Rattle.rules.specs.Irradiance.{Sh4}
use Rattle.rules.specs.Levels.{texel}
use Rattle.rules.specs.Irradiance.{omega_of, centre_of, place_basis, decoded_of, all_get, with_texel}
use Rattle.irradiance.specs.declared.cubemap.Cubemap.{Cubemap}
use Rattle.irradiance.specs.declared.place.Coordinate.{Coordinate}
use Rattle.irradiance.specs.Holding.{Placed}
use Rattle.irradiance.specs.Turns.{in_turn_from, row_of, with_given, with_column, with_part}
use Rattle.irradiance.proofs.Turns.{turns-alike}

-- ---- a part, texel by texel

-- of l the front is gone, k long
pub record Left {A : Type 0} (l : List A) (k : ℕ) (rest : List A) : Type 0 where
  pub is : rest ≡ drop k l
  pub long : k + length rest ≡ length l

module _ {A : Type 0} {l : List A} where
  pub left_first : {k : ℕ} → k ≡ 0 → Left l k l
  left_first e = rw e (record { is = refl; long = omega arith })

  pub left-next : {k : ℕ} {rest rest' : List A} {x : A} → Left l k rest → rest ≡ x ∷ rest' → Left l (k + 1) rest'
  left-next {k} {rest} {rest'} {x} p e =
      record {
        is = sym (ap (drop 1) e) ∙ ap (drop 1) p.is ∙ drop-drop 1 k l;
        long = let n = ap length e in omega (arith, p.long);
      }

  pub left-head : {k : ℕ} {rest rest' : List A} {x : A} (d : A) → Left l k rest → rest ≡ x ∷ rest' → x ≡ get_or l k d
  left-head {k} {rest} {rest'} {x} d p e =
      sym (ap (λ (m : List A). get_or m 0 d) e)
      ∙ ap (λ (m : List A). get_or m 0 d) p.is
      ∙ get_or-drop k l 0 d
      ∙ ap (λ (n : ℕ). get_or l n d) (add-zero k)

-- the columns' places that are left, the first of them f k
module _ (f : ℕ → Float) (k : ℕ) where
  pub placed_first : (l : List Coordinate) → k ≡ 0 → Placed f l → Placed (λ j. f (k + j)) l
  placed_first l z p = λ j past h. p j past h ∙ ap f (let e : j ≡ k + j = omega arith in e)

  module _ {rest rest' : List Coordinate} {x : Coordinate} (p : Placed (λ j. f (k + j)) rest) (e : rest ≡ x ∷ rest') where
    some : 0 < length rest
    some = let n = ap length e in omega arith

    pub placed-head : x.at ≡ f k
    placed-head = sym (ap (λ (m : List Coordinate). (get_or m 0 x).at) e) ∙ p 0 x some ∙ ap f (add-zero k)

    pub placed-next : Placed (λ j. f (k + 1 + j)) rest'
    placed-next = λ j past h.
        let n = ap length e in
        sym (ap (λ (m : List Coordinate). (get_or m (suc j) past).at) e)
        ∙ p (suc j) past (omega arith)
        ∙ ap f (let a : k + suc j ≡ k + 1 + j = omega arith in a)

pub turn : (c : Cubemap) (f y from k t : ℕ) (l : List ℕ) (size u v : Float) (d : Rgb) (b : Basis Float) (s r : Sh4) → size ≡ omega_of c.width c.height
    → u ≡ centre_of c.width (from + k) → v ≡ centre_of c.height y → t ≡ get_or l k 0 → d ≡ decoded_of t → b ≡ place_basis size f u v → r ≡ all_get d b s
    → r ≡ with_given c f y (from + k) (get_or l (from + k - from) 0) s
unfolding with_given
turn c f y from k t l size u v d b s r o p q g e h a =
    let back : from + k - from ≡ k = omega arith in
    rw (back, a, h, e, g, o, p, q)

-- ---- a row, part by part

pub row-long : (c : Cubemap) (f y : ℕ) → f < 6 → y < c.height → length (row_of c f y) ≡ c.width
row-long c f y lf ly =
    let at = f * c.height + y in
    let rows : at + 1 ≤ 6 * c.height = omega (arith, digits_lt lf ly) in
    let inside : (at + 1) * c.width ≤ 6 * c.height * c.width = mul-le-mul_right c.width rows in
    length-take-le c.width (drop (at * c.width) c.texels.now) (rw length-drop (omega (arith, c.cubed.room, add-mul at 1 c.width)))

module _ (c : Cubemap) (f y k : ℕ) (chunk rest rest' : List ℕ) (p : Left (row_of c f y) k rest) (e : rest ≡ chunk ++ rest') (inside : k + length chunk ≤ c.width) where
  part-texel : (i : ℕ) → i < length chunk → get_or chunk i 0 ≡ texel c.width c.height c.texels.now f (k + i) y
  unfolding texel
  part-texel i h =
      let start = (f * c.height + y) * c.width in
      sym (get_or-append chunk rest' 0 i h)
      ∙ sym (ap (λ (m : List ℕ). get_or m i 0) e)
      ∙ ap (λ (m : List ℕ). get_or m i 0) p.is
      ∙ get_or-drop k (row_of c f y) i 0
      ∙ get_or-take c.width (drop start c.texels.now) (k + i) 0 (omega arith)
      ∙ get_or-drop start c.texels.now (k + i) 0

  -- the part's own texels are the row's
  pub part-is : (s : Sh4) → with_part c f y k chunk s ≡ in_turn_from k (length chunk) (with_column c f y) s
  unfolding with_given with_texel
  part-is s =
      turns-alike k (length chunk) _ _ s λ i h a.
      let back : k + i - k ≡ i = omega arith in
      rw (back, part-texel i h) refl

  pub left-part : Left (row_of c f y) (k + length chunk) rest'
  left-part =
      record {
        is = sym (drop_at chunk rest' (length chunk) refl) ∙ ap (drop (length chunk)) (sym e ∙ p.is) ∙ drop-drop (length chunk) k (row_of c f y);
        long = let n = ap length e ∙ length-append chunk rest' in omega (arith, p.long);
      }
