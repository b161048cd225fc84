-- `txr::digits::places`: what was counted and what is left to count is one more than the whole.
use mathlib.Core.Path.{◌≡◌}
use Prim.Native.Nat.{◌+◌, ◌≤◌}
use Rattle.txr.specs.Digits.{places_of}
use Rattle.txr.proofs.digits.places.Given as goal

abbrev pub invariant-loop-rest : goal.invariant-loop-rest
invariant-loop-rest l = (l.k + places_of l.rest ≡ places_of l.n + 1) × (l.k + l.rest ≤ l.n + 1)

abbrev pub decreases-loop-rest : goal.decreases-loop-rest
decreases-loop-rest l = l.rest
