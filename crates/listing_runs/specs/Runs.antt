-- Many inputs, one after the other, each behind its length. Definitions only.
use Rattle.std.specs.Prelude.{List, [], ◌∷◌, ◌++◌, ℕ, zero, suc, ◌+◌, ◌*◌, length, take, drop}
use Rattle.txr.specs.Listing.{listing_of}

-- the listings of at most n of them; what is too short for a length ends them, and the last may be cut off
unfoldable pub first_listings : ℕ → List ℕ → List ℕ
first_listings zero runs = []
first_listings (suc n) [] = []
first_listings (suc n) (a ∷ []) = []
first_listings (suc n) (a ∷ (b ∷ rest)) = listing_of (take (a + b * 256) rest) ++ first_listings n (drop (a + b * 256) rest)

-- the listings of all: there are no more than bytes
abbrev pub listings_of : List ℕ → List ℕ
listings_of runs = first_listings (length runs) runs
