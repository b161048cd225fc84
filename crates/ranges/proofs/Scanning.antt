-- A scan goes texel by texel: what it has found of the first i is what they have, and with one byte more the smallest is the smaller
-- of the two, the largest the larger. One law over the channel. Assumes nothing.
use mathlib.Core.Path.{◌≡◌, sym, ◌∙◌}
use mathlib.Core.List.{List, [], ◌∷◌, ◌++◌, map, map-append, append_assoc}
use Prim.Native.Nat.{ℕ, ◌+◌, ◌≤◌, ◌<◌}
use native.Mathlib.Numerals.{add-one}
use lib.ListN.{length, get_or, take}
use lib.Seq.{sets, sets-eq, take-suc, drop-drop}
use borrow.Rule.Slice.PartMut.{put_mid}
use Rattle.rules.specs.Kinds.{red_of, green_of, blue_of, alpha_of}
use Rattle.rules.specs.Ranges.{range_of}
use Rattle.rules.proofs.Tiles.{smallest-none, largest-none, smallest-last, largest-last, length-range, range-is}
use Rattle.ranges.specs.declared.scan.Ends.{Ends}
use Rattle.ranges.specs.declared.scan.Range.{Range}
use Rattle.ranges.specs.Scans.{Widened, WithTexel, EndsOf, RangeIs, bytes_of}

-- before the first texel
ends-none : (channel : ℕ → ℕ) → EndsOf channel [] (record { low = 255; high = 0 })
ends-none channel = record { low = sym smallest-none; high = sym largest-none }

-- one texel more
ends_more : {channel : ℕ → ℕ} {l : List ℕ} {e r : Ends} (t : ℕ) → EndsOf channel l e → Widened e (channel t) r
    → EndsOf channel (l ++ (t ∷ [])) r
ends_more {channel} {l} t has wide =
    record {
      low = wide.low ∙ rw (has.low, map-append channel l (t ∷ []), smallest-last (map channel l) (channel t));
      high = wide.high ∙ rw (has.high, map-append channel l (t ∷ []), largest-last (map channel l) (channel t));
    }

-- the first i texels of a part, and one more
pub range-more : (part : List ℕ) (i : ℕ) {e r : Range} → RangeIs (take i part) e → i < length part → WithTexel e (get_or part i 0) r
    → RangeIs (take (i + 1) part) r
range-more part i has lt more =
    let t = get_or part i 0 in
    rw (add-one i, take-suc part i 0 lt)
    (record {
      red = ends_more t has.red more.red;
      green = ends_more t has.green more.green;
      blue = ends_more t has.blue more.blue;
      alpha = ends_more t has.alpha more.alpha;
    })

-- before the first
pub range_none : RangeIs [] (record { red = record { low = 255; high = 0 }; green = record { low = 255; high = 0 }; blue = record { low = 255; high = 0 }; alpha = record { low = 255; high = 0 } })
range_none = record { red = ends-none red_of; green = ends-none green_of; blue = ends-none blue_of; alpha = ends-none alpha_of }

-- the eight bytes are the range
range-bytes : {l : List ℕ} {r : Range} → RangeIs l r → bytes_of r ≡ range_of l
range-bytes {l} is =
    range-is l is.red.low is.red.high is.green.low is.green.high is.blue.low is.blue.high is.alpha.low is.alpha.high

-- and so are they once they are stored
pub range-stored : {t : List ℕ} {r : Range} (a b k : ℕ) (ranges part : List ℕ) → RangeIs t r → part ≡ bytes_of r → k ≡ 8 → a ≡ b → a + 8 ≤ length ranges
    → put_mid a k ranges part ≡ sets ranges b (range_of t)
range-stored {t} a b k ranges part is e eight at room =
    let bytes : part ≡ range_of t = e ∙ range-bytes is in
    let whole = sets-eq (range_of t) ranges b (rw (← at, length-range t) room) in
    rw (bytes, at, eight, whole, length-range t, drop-drop 8 b ranges, append_assoc)
