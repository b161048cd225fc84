-- The lines of a picture's levels, one behind the other: no line has more than 24 bytes, and no picture more than 13 levels.
-- Assumes nothing.
use mathlib.Core.Path.{◌≡◌, refl, sym, ap, ◌∙◌}
use mathlib.Core.List.{List, ◌++◌}
use Prim.Native.Nat.{ℕ, zero, suc, ◌+◌, ◌*◌, ◌/◌, ◌^◌, ◌≤◌, ◌<◌}
use native.Mathlib.Nat.{le_refl, pow-suc}
use native.Mathlib.Decide.{dec_le}
use native.Mathlib.Omega.{arith}
use lib.ListN.{length, take, drop, get_or-append, length-append}
use lib.Seq.{take_at}
use Rattle.rules.specs.declared.Packing.TheVariants.{Truncating}
use Rattle.rules.specs.Kinds.{faces_of}
use Rattle.rules.specs.Sizes.{side_at, top, start, count}
use Rattle.rules.specs.Levels.{tab, chain, filled}
use Rattle.rules.specs.Reducing.{reduce_of}
use Rattle.rules.specs.Pictures.{chain_of, filled_of}
use Rattle.rules.specs.Refusals.{chain_refusal}
use Rattle.std.specs.Prelude.{Result, Ok, Err}
use mathlib.Core.Bool.{Bool, true, false, false≢true}
use Rattle.rules.specs.declared.Refusal.{Refusal}
use Rattle.rules.specs.Refusals.{number_of, number_in}
use Rattle.rules.specs.declared.Refusal.TheVariants.{NotTheFile}
use Rattle.rules.specs.Answers.{answer, refused, chain_answer, chain_leaves}
use Rattle.rules.proofs.Answering.{given_none, given_is, number-some}
use Rattle.rules.proofs.Numbers.{Known, known-or, known-unless, known-number, known-chain, known-answer}
use Rattle.rules.proofs.Grid.{length-tab, tab-ext}
use Rattle.rules.proofs.Chain.{length-chain}
use Rattle.rules.proofs.Sides.{side-le}
use Rattle.rules.proofs.Bounds.{faces-some, top-most, level-end, size-some}
use Rattle.rules.proofs.Truncating.{answer-0, leaves-0}
use Rattle.rules.proofs.Refusing.{chain-taken, answer-given, answer-refused}
use Rattle.txr.specs.File.{kind_in, width_in, height_in, size_in, texel_in, level_in, longest, header_refusal, length_refusal, file_refusal}
use Rattle.txr.specs.Digits.{places_of}
use Rattle.txr.specs.Listing.{line_of, level_line, level_lines, file_lines, refused_line, listing_of}
use Rattle.levels.specs.Crosses.{bytes_at}
use Rattle.levels.proofs.Crosses.{bytes-behind}
use borrow.Author.Rules.{part_to_end}
use Rattle.txr.proofs.Files.{file-facts}
use Rattle.txr.proofs.Spelling.{places_one, places_more, length-field, length-line}

-- ---- k + 1 decimal digits

pub places-most : (k n : ℕ) → n < 10 ^ suc k → places_of n ≤ suc k
places-most zero n lt = omega (arith, places_one n (omega arith))
places-most (suc k) n lt =
    elim (dec_le 10 n) [
      | yes le ↦ omega (arith, places_more n le, places-most k (n / 10) (omega (arith, pow-suc 10 (suc k))))
      | no less ↦ omega (arith, places_one n (omega arith))
    ]

-- a 32-bit number has no more than ten
pub places_ten : (n : ℕ) → n < 4294967296 → places_of n ≤ 10
places_ten n lt = places-most 9 n (omega arith)

line-most : (m w h t : ℕ) → m < 10000 → w < 10000 → h < 10000 → length (line_of m w h t) ≤ 24
line-most m w h t pm pw ph =
    omega (arith, length-line m w h t, length-field m, length-field w, length-field h, places-most 3 m pm, places-most 3 w pw, places-most 3 h ph)

-- ---- the levels of a picture

pub level-inside : (kind w h m n : ℕ) → m ≤ top w h → count (faces_of kind) w h ≤ n → start (faces_of kind) w h m < n
level-inside kind w h m n below room = omega (arith, level-end (faces_of kind) w h m below, size-some (faces_of kind) w h m (faces-some kind))

module _ (kind w h : ℕ) (some-w : 1 ≤ w) (most-w : w ≤ 4096) (some-h : 1 ≤ h) (most-h : h ≤ 4096) where
  pub level-most : (m : ℕ) → m ≤ top w h → (chain : List ℕ) → length (level_line kind w h chain m) ≤ 24
  unfolding level_line
  level-most m below chain =
      line-most m (side_at m w) (side_at m h) _ (omega (arith, top-most w h some-w most-w most-h))
      (omega (arith, side-le m w some-w))
      (omega (arith, side-le m h some-h))

  pub lines-short : (chain : List ℕ) (n : ℕ) → n ≤ suc (top w h) → length (level_lines kind w h chain n) ≤ 24 * n
  unfolding level_lines
  lines-short chain zero le = omega arith
  lines-short chain (suc n) le =
      omega (arith, length-append (level_lines kind w h chain n) (level_line kind w h chain n), lines-short chain n (omega arith), level-most n (omega arith) chain)

-- of a level: where it starts, its line, and that no more than 12 are above level 0
pub ruleset levels_within = (top-most, level-inside, level-most)

-- ---- a file that is not refused

-- the texels of what stands behind the header
pub texels_behind : (b bytes : List ℕ) (n : ℕ) → bytes ≡ drop 10 b → tab n (bytes_at bytes) ≡ tab n (texel_in b)
unfolding texel_in
texels_behind b bytes n e =
    tab-ext n _ _ (λ i lt. rw (e, ← part_to_end b 10) (bytes-behind 10 (10 + 4 * i) i b (omega arith)))

-- what stands behind a chain takes no part in its lines
lines-chain : (kind w h n : ℕ) (l rest : List ℕ) → count (faces_of kind) w h ≤ length l → n ≤ suc (top w h)
    → level_lines kind w h (l ++ rest) n ≡ level_lines kind w h l n
unfolding level_lines level_line
lines-chain kind w h zero l rest room le = refl
lines-chain kind w h (suc n) l rest room le =
    let inside : start (faces_of kind) w h n < length l =
    omega (arith, level-end (faces_of kind) w h n (omega arith), size-some (faces_of kind) w h n (faces-some kind)) in
    rw (lines-chain kind w h n l rest room (omega arith), get_or-append l rest 0 (start (faces_of kind) w h n) inside)

length-made : (kind w h : ℕ) (l : List ℕ) → 0 < w → 0 < h → length l ≡ faces_of kind * h * w → count (faces_of kind) w h ≤ length (chain_of kind Truncating w h l)
unfolding chain_of count
length-made kind w h l pw ph e = omega (arith, length-chain (reduce_of kind Truncating) (faces_of kind) (suc (top w h)) w h l pw ph e)

abbrev is-given : {A : Type 0} → Result A Refusal → Bool
is-given (Ok given) = true
is-given (Err refusal) = false

module _ (b : List ℕ) (taken : file_refusal b ≡ 0) where
  pub load-asked : (size_in b ≤ longest) × (10 + 4 * size_in b ≤ length b)
  load-asked = let f = file-facts b taken in omega (arith, f.exact, f.most)

  level0-long : length (level_in b) ≡ size_in b
  unfolding level_in
  level0-long = length-tab (size_in b) (texel_in b)

  pub chain-room : (kind w h : ℕ) → kind ≡ kind_in b → w ≡ width_in b → h ≡ height_in b → (n : ℕ) → n ≡ longest → count (faces_of kind) w h ≤ n
  chain-room kind w h k across down n long = rw (k, across, down, long) (file-facts b taken).chained.room

  -- the chain that is made, in a buffer as long as the longest, of the level 0 that was loaded
  module _ (kind w h : ℕ) (k : kind ≡ kind_in b) (across : w ≡ width_in b) (down : h ≡ height_in b)
      (made loaded rest : List ℕ) (front : made ≡ loaded ++ rest) (n : ℕ) (of_file : loaded ≡ tab n (texel_in b)) (size : n ≡ size_in b) (long : length made ≡ longest) where
    chain-asked : chain_refusal kind w h (length made) ≡ 0
    chain-asked = rw (k, across, down, long) (chain-taken _ _ _ _ (file-facts b taken).chained)

    pub chain-made : (refusal : Refusal) → Err refusal ≡ chain_answer kind w h 0 made → ⊥
    chain-made refusal e = false≢true (ap is-given (e ∙ answer-0 kind w h made ∙ answer-given _ _ _ chain-asked))

    level0-found : take (size_in b) made ≡ level_in b
    unfolding level_in
    level0-found = rw (front, of_file, ← size) (take_at (tab n (texel_in b)) rest n (length-tab n (texel_in b)))

    chain-found : chain_leaves kind w h 0 made
        ≡ chain_of (kind_in b) Truncating (width_in b) (height_in b) (level_in b) ++ drop (count (faces_of (kind_in b)) (width_in b) (height_in b)) made
    unfolding filled_of filled chain_of count
    chain-found = leaves-0 kind w h made ∙ answer-given _ _ _ chain-asked ∙ rw (k, across, down, level0-found)

    pub lines-found : (chain : List ℕ) → chain ≡ chain_leaves kind w h 0 made → level_lines kind w h chain (suc (top w h)) ≡ file_lines b
    lines-found chain g =
        let t = (file-facts b taken).chained.taken in
        let room = length-made (kind_in b) (width_in b) (height_in b) (level_in b) t.some-w t.some-h level0-long in
        rw (g, chain-found, k, across, down, lines-chain (kind_in b) (width_in b) (height_in b) (suc (top (width_in b) (height_in b))) (chain_of (kind_in b) Truncating (width_in b) (height_in b) (level_in b)) _ room (le_refl _))

-- ---- what is written of a file, or of its refusal

known-file : (b : List ℕ) → Known (file_refusal b)
unfolding file_refusal header_refusal length_refusal
known-file b =
    known-or _ _ (known-unless _ 12 (known-number NotTheFile))
    (known-or _ _ (known-chain (kind_in b) (width_in b) (height_in b) longest) (known-unless _ 12 (known-number NotTheFile)))

pub given-listed : (b page : List ℕ) → Ok page ≡ answer (file_refusal b) refused (Ok (file_lines b)) → page ≡ listing_of b
unfolding listing_of
given-listed b page e =
    given_is _ _ _ (sym e) ∙ sym (answer-given (file_refusal b) refused_line (file_lines b) (given_none _ _ _ (sym e)))

pub refused-listed : (b : List ℕ) (refusal : Refusal) → Err refusal ≡ answer (file_refusal b) refused (Ok (file_lines b)) → refused_line (number_of refusal) ≡ listing_of b
unfolding listing_of
refused-listed b refusal e =
    let number : number_of refusal ≡ file_refusal b = ap number_in e ∙ known-answer (file_refusal b) (file_lines b) (known-file b) in
    rw number (sym (answer-refused (file_refusal b) refused_line (file_lines b) (λ none. number-some refusal (number ∙ none))))

-- of what is written
pub ruleset listed = (given-listed, refused-listed)
