-- What a scan of some texels has found, as the code holds it. Definitions only.
use Rattle.std.specs.Prelude.{◌≡◌, List, [], ◌∷◌, map, ℕ, min, max}
use Rattle.rules.specs.Kinds.{red_of, green_of, blue_of, alpha_of}
use Rattle.rules.specs.Ranges.{smallest, largest}
use Rattle.ranges.specs.declared.scan.Ends.{Ends}
use Rattle.ranges.specs.declared.scan.Range.{Range}

-- r is e with one byte more
pub record Widened (e : Ends) (byte : ℕ) (r : Ends) : Type 0 where
  pub low : r.low ≡ min e.low byte
  pub high : r.high ≡ max e.high byte

-- r is e with one texel more
pub record WithTexel (e : Range) (t : ℕ) (r : Range) : Type 0 where
  pub red : Widened e.red (red_of t) r.red
  pub green : Widened e.green (green_of t) r.green
  pub blue : Widened e.blue (blue_of t) r.blue
  pub alpha : Widened e.alpha (alpha_of t) r.alpha

-- e has the ends of one channel of the texels l
pub record EndsOf (channel : ℕ → ℕ) (l : List ℕ) (e : Ends) : Type 0 where
  pub low : e.low ≡ smallest (map channel l)
  pub high : e.high ≡ largest (map channel l)

-- r has the ends of each channel of the texels l
pub record RangeIs (l : List ℕ) (r : Range) : Type 0 where
  pub red : EndsOf red_of l r.red
  pub green : EndsOf green_of l r.green
  pub blue : EndsOf blue_of l r.blue
  pub alpha : EndsOf alpha_of l r.alpha

-- the eight bytes in their order
abbrev pub bytes_of : Range → List ℕ
bytes_of r =
    r.red.low ∷ r.red.high ∷ r.green.low ∷ r.green.high ∷ r.blue.low ∷ r.blue.high ∷ r.alpha.low ∷ r.alpha.high ∷ []
