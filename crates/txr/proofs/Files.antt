-- What is known of a file that is not refused: ten bytes of header at least, a picture whose chain has at most 16,384 texels, and
-- four bytes behind the header for each texel of level 0. Assumes nothing.
use mathlib.Core.Path.{◌≡◌, refl}
use mathlib.Core.List.{List, [], ◌∷◌}
use mathlib.Core.Bool.{Bool, true, false, ◌&&◌}
use Prim.Native.Nat.{ℕ, ◌+◌, ◌*◌, ◌≤◌, ◌<◌}
use native.Mathlib.Omega.{arith}
use lib.Dec.{leb, eqb}
use Rattle.std.specs.List.{starts_with}
use Rattle.std.proofs.lemmas.Cmp.{nat_eq_equiv}
use lib.ListN.{length, take}
use lib.Seq.{get_or-take}
use borrow.Author.Tests.{leb-true, eqb-true, eqb-false, eq-eqb, ne_eqb, le-leb, lt-leb}
use Rattle.rules.specs.Refusals.{unless}
use Rattle.rules.specs.Kinds.{faces_of}
use Rattle.rules.specs.Sizes.{top, count}
use Rattle.rules.proofs.Sides.{start-half}
use Rattle.rules.proofs.Refusing.{or_else-none, unless-none, and_both, chain-facts, Chained}
use Rattle.txr.specs.File.{word_at, marked, kind_in, width_in, height_in, size_in, header_in, header_refusal, longest, levels_refusal, length_refusal, file_refusal}

-- level 0 is a part of the chain
pub size_le_count : (faces w h : ℕ) → 0 < w → 0 < h → faces * h * w ≤ count faces w h
unfolding count
size_le_count faces w h pw ph = omega (arith, start-half faces w h (top w h) pw ph)

-- a chain of at most 16,384 texels has a level 0 of no more
pub size-most : (b : List ℕ) → levels_refusal b ≡ 0 → size_in b ≤ longest
size-most b e =
    let c = chain-facts (kind_in b) (width_in b) (height_in b) longest e in
    omega (arith, size_le_count (faces_of (kind_in b)) (width_in b) (height_in b) c.taken.some-w c.taken.some-h, c.room)

pub header-ten : (b : List ℕ) → header_refusal b ≡ 0 → 10 ≤ length b
unfolding header_refusal
header-ten b e = leb-true 10 (length b) (and_both (leb 10 (length b)) (marked b) (unless-none _ 11 e)).0

pub length-exact : (b : List ℕ) → length_refusal b ≡ 0 → length b ≡ 10 + 4 * size_in b
unfolding length_refusal
length-exact b e = eqb-true (length b) (10 + 4 * size_in b) (unless-none _ 11 e)

-- a file that is not refused
pub record Filed (b : List ℕ) : Type 0 where
  pub ten : 10 ≤ length b
  pub chained : Chained (kind_in b) (width_in b) (height_in b) longest
  pub exact : length b ≡ 10 + 4 * size_in b
  pub most : size_in b ≤ longest

pub file-facts : (b : List ℕ) → file_refusal b ≡ 0 → Filed b
unfolding file_refusal
file-facts b e =
    let p = or_else-none (header_refusal b) _ e in
    let q = or_else-none (levels_refusal b) (length_refusal b) p.1 in
    record {
      ten = header-ten b p.0;
      chained = chain-facts (kind_in b) (width_in b) (height_in b) longest q.0;
      exact = length-exact b q.1;
      most = size-most b q.0;
    }

-- version 1 is the bytes 1 and 0
version-one : (x y : ℕ) → eqb (x + y * 256) 1 ≡ (eqb 1 x && (eqb 0 y && true))
version-one x y =
    go (eqb 1 x) (eqb 0 y) refl refl
  where
    go : (a b : Bool) → eqb 1 x ≡ a → eqb 0 y ≡ b → eqb (x + y * 256) 1 ≡ (a && (b && true))
    go true true p q = eq-eqb _ _ (omega (arith, eqb-true 1 x p, eqb-true 0 y q))
    go true false p q = ne_eqb _ _ (λ e. eqb-false 0 y q (omega arith))
    go false b p q = ne_eqb _ _ (λ e. eqb-false 1 x p (omega arith))

-- mark and version as they stand in front
pub marked_starts : (b : List ℕ) → length b ≡ 10 → marked b ≡ starts_with eqb b (0x54 ∷ 0x58 ∷ 0x52 ∷ 1 ∷ 0 ∷ [])
unfolding marked word_at
marked_starts [] e = absurd (omega arith)
marked_starts (x ∷ []) e = absurd (omega arith)
marked_starts (x ∷ (y ∷ [])) e = absurd (omega arith)
marked_starts (x ∷ (y ∷ (z ∷ []))) e = absurd (omega arith)
marked_starts (x ∷ (y ∷ (z ∷ (v ∷ [])))) e = absurd (omega arith)
marked_starts (x ∷ (y ∷ (z ∷ (v ∷ (w ∷ rest))))) e =
    rw (nat_eq_equiv.symm x 0x54, nat_eq_equiv.symm y 0x58, nat_eq_equiv.symm z 0x52, version-one v w)

-- the header of an input's first bytes
module _ (n : ℕ) (b : List ℕ) (ten : 10 ≤ n) where
  word-take : (i : ℕ) → i + 1 < 10 → word_at (take n b) i ≡ word_at b i
  unfolding word_at
  word-take i lt = rw (get_or-take n b i 0 (omega arith), get_or-take n b (i + 1) 0 (omega arith))

  pub marked-take : marked (take n b) ≡ marked b
  unfolding marked
  marked-take = rw (get_or-take n b 0 0 (omega arith), get_or-take n b 1 0 (omega arith), get_or-take n b 2 0 (omega arith), word-take 3 (omega arith))

  pub levels-take : levels_refusal (take n b) ≡ levels_refusal b
  levels-take = rw (get_or-take n b 5 0 (omega arith), word-take 6 (omega arith), word-take 8 (omega arith))

-- the same of the ten bytes that are split off
pub header_of : (b front : List ℕ) → front ≡ take 10 b → header_in front ≡ header_in b
header_of b front e =
    rw (e, get_or-take 10 b 5 0 (omega arith), word-take 10 b (omega arith) 6 (omega arith), word-take 10 b (omega arith) 8 (omega arith))

-- the header's refusal, of an input whose first ten bytes are split off
pub header_front : (b front rest : List ℕ) → front ≡ take 10 b → length rest + 10 ≡ length b → header_refusal b ≡ unless (marked front) 12
unfolding header_refusal
header_front b front rest e long = rw (le-leb 10 (length b) (omega arith), e, marked-take 10 b (omega arith))

pub header_short : (b : List ℕ) → length b < 10 → header_refusal b ≡ 12
unfolding header_refusal
header_short b lt = rw (lt-leb 10 (length b) lt)
