-- The starts of a chain's levels, as a list. Definitions only.
use Rattle.std.specs.Prelude.{◌≡◌, List, ℕ, ◌≤◌, ◌<◌, length, get_or}
use Rattle.rules.specs.Sizes.{top, start}

-- entry m is where level m starts, a number of 32 bits, up to the top level; a chain has at most 13 levels
pub record Started (faces w h : ℕ) (l : List ℕ) : Type 0 where
  pub long : 13 ≤ length l
  pub at : (m : ℕ) → m ≤ top w h → get_or l m 0 ≡ start faces w h m
  pub small : (m : ℕ) → m ≤ top w h → start faces w h m < 4294967296
