-- Lemmas on the listings of many inputs, one after the other.
use Rattle.std.proofs.Common.{◌≡◌, ℕ, zero, suc, ◌+◌, ◌*◌, ◌≤◌, min, List, [], ◌∷◌, ◌++◌, length, take, drop, refl, arith}
use Rattle.std.proofs.lemmas.List.{take_min}
use Rattle.std.proofs.Math.ListN.{drop_of_length-le}
use Rattle.std.specs.Int.{from_le_bytes, w16}
use Rattle.txr.specs.Listing.{listing_of}
use Rattle.listing_runs.specs.Runs.{first_listings}

-- what is dropped behind the end is dropped at the end
drop_min : (n : ℕ) (xs : List ℕ) → drop (min n (length xs)) xs ≡ drop n xs
drop_min n xs = grind (arith, drop_of_length-le)

-- one input's listing, and then the listings of what stands behind it
pub one_more : (n k : ℕ) (rest prefix behind input next : List ℕ) → prefix ≡ take 2 rest → behind ≡ drop 2 rest → 2 ≤ length rest
    → k ≡ min (from_le_bytes w16 prefix) (length behind) → input ≡ take k behind → next ≡ drop k behind
    → first_listings (suc n) rest ≡ listing_of input ++ first_listings n next
unfolding first_listings
one_more n k [] prefix behind input next front back long cut is then = absurd (omega arith)
one_more n k (a ∷ []) prefix behind input next front back long cut is then = absurd (omega arith)
one_more n k (a ∷ (b ∷ rest)) prefix behind input next front back long cut is then =
    rw (is, then, cut, front, back, take_min (a + b * 256) rest, drop_min (a + b * 256) rest)

-- what is too short for a length has no listing
pub none_more : (n : ℕ) (runs : List ℕ) → length runs ≤ 1 → first_listings n runs ≡ []
unfolding first_listings
none_more zero runs short = refl
none_more (suc n) [] short = refl
none_more (suc n) (a ∷ []) short = refl
none_more (suc n) (a ∷ (b ∷ rest)) short = absurd (omega (arith, short))
