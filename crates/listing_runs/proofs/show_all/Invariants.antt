-- `listing_runs::show_all`: each turn passes two bytes at least, and what is written goes on to the listings of all.
use Rattle.std.proofs.Common.{◌≡◌, ℕ, ◌≤◌, List, ◌++◌, length}
use Rattle.std.specs.Io.KnownBytes.{Appends}
use Rattle.listing_runs.specs.Runs.{first_listings, listings_of}
use Rattle.listing_runs.proofs.show_all.Given as goal

abbrev pub invariant-loop-length : goal.invariant-loop-length
invariant-loop-length g l = record {
  shown : List ℕ;
  n : ℕ;
  enough : length l.rest ≤ n;
  goes_on : shown ++ first_listings n l.rest ≡ listings_of l.runs;
  appended : Appends (g.W.Write.contents l.initial.writer) (g.W.Write.contents l.writer) shown;
}

abbrev pub decreases-loop-length : goal.decreases-loop-length
decreases-loop-length g l = length l.rest
