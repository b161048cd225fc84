-- No file whose chain has at most 16,384 texels is longer than 65,546 bytes: every longer input is refused by its header, its
-- picture or its length, whatever stands behind. So 65,547 bytes of an input give the listing of the whole. Assumes nothing.
use mathlib.Core.Path.{◌≡◌, refl, sym, ap, ap₂, ◌∙◌}
use mathlib.Core.List.{List}
use Prim.Native.Nat.{ℕ, zero, suc, ◌+◌, ◌*◌, ◌≤◌, ◌<◌}
use native.Mathlib.Decide.{dec_le}
use native.Mathlib.Omega.{arith}
use lib.ListN.{length, take}
use lib.Seq.{take_all, length-take-le}
use borrow.Author.Tests.{le-leb, ne_eqb}
use Rattle.rules.specs.Refusals.{◌or_else◌}
use Rattle.rules.proofs.Refusing.{or_else-given, or_else-none, answer-refused}
use Rattle.txr.specs.File.{size_in, header_refusal, length_refusal, levels_refusal, file_refusal}
use Rattle.txr.specs.Listing.{refused_line, listing_of}
use Rattle.txr.proofs.Files.{size-most, marked-take, levels-take}

or_else-same : (n m k : ℕ) → (n ≡ 0 → m ≡ k) → (n or_else m) ≡ (n or_else k)
or_else-same zero m k e = ap (λ (x : ℕ). 0 or_else x) (e refl)
or_else-same (suc n) m k e = or_else-given (suc n) m (λ z. omega arith) ∙ sym (or_else-given (suc n) k (λ z. omega arith))

-- what is said of an input longer than any file
module _ (b : List ℕ) (long : 65546 < length b) where
  too_long : levels_refusal b ≡ 0 → length_refusal b ≡ 12
  unfolding length_refusal
  too_long e = rw (ne_eqb (length b) (10 + 4 * size_in b) (λ z. omega (arith, size-most b e)))

  long-refusal : file_refusal b ≡ (header_refusal b or_else levels_refusal b or_else 12)
  unfolding file_refusal
  long-refusal = ap (λ (n : ℕ). header_refusal b or_else n) (or_else-same (levels_refusal b) (length_refusal b) 12 too_long)

  long-refused : listing_of b ≡ refused_line (file_refusal b)
  unfolding listing_of
  long-refused =
      answer-refused (file_refusal b) refused_line _ λ e.
      let p = or_else-none (header_refusal b) (levels_refusal b or_else 12) (sym long-refusal ∙ e) in
      let q = or_else-none (levels_refusal b) 12 p.1 in
      omega arith

-- the header of an input's first bytes
module _ (n : ℕ) (b : List ℕ) (ten : 10 ≤ n) where
  header-take : n ≤ length b → header_refusal (take n b) ≡ header_refusal b
  unfolding header_refusal
  header-take le =
      rw (length-take-le n b le, le-leb 10 n ten, le-leb 10 (length b) (omega arith), marked-take n b ten)

-- 65,547 bytes of an input give the listing of the whole
pub reading : (b : List ℕ) → listing_of (take 65547 b) ≡ listing_of b
reading b =
    elim (dec_le (length b) 65547) [
      | yes le ↦ ap listing_of (take_all 65547 b le)
      | no more ↦
          let le : 65547 ≤ length b = omega arith in
          let l = length-take-le 65547 b le in
          let p : 65546 < length (take 65547 b) = omega arith in
          let q : 65546 < length b = omega arith in
          long-refused (take 65547 b) p
          ∙ ap refused_line
          (long-refusal (take 65547 b) p
          ∙ ap₂ (λ (x y : ℕ). x or_else y or_else 12) (header-take 65547 b (omega arith) le) (levels-take 65547 b (omega arith))
          ∙ sym (long-refusal b q))
          ∙ sym (long-refused b q)
    ]
