-- Rows in a run. Row y is made from rows y0 and y1 of its face, and the row behind it in the same face from those two rows further on.
-- Where the height is even no row of a face is left over: then row y of all faces is made from rows 2y and 2y + 1 of all faces, so that
-- the run goes on past the end of a face. Assumes nothing.
use mathlib.Core.Path.{◌≡◌, ap}
use Prim.Native.Nat.{ℕ, ◌+◌, ◌-◌, ◌*◌, ◌/◌, ◌%◌, ◌≤◌, ◌<◌, min}
use native.Mathlib.Nat.{add-mul, mul_left_comm, mod-lt, div-add-mod', div-lt_iff_lt-mul}
use native.Mathlib.Omega.{arith}
use lib.Arith.{digits_div, digits_mod}
use Rattle.rules.specs.Sizes.{half}
use Rattle.reduce.specs.Levels.{first_row, second_row, Run}
use Rattle.reduce.proofs.Levels.{row_in}

module _ (w h h2 faces y m : ℕ) (eh : h2 ≡ half h) (tall : 1 ≤ h) (some : 1 ≤ m) where
  -- rows of one face
  module _ (lt : y < faces * h2) (face : y % h2 + m ≤ h2) where
    module _ (j : ℕ) (lj : j < m) where
      number : y + j ≡ y / h2 * h2 + (y % h2 + j)
      number = omega (arith, div-add-mod' y h2)

      in-face : y % h2 + j < h2
      in-face = omega arith

      face-first : first_row w h h2 (y + j) ≡ first_row w h h2 y + 2 * j * w
      face-first =
          rw (number, digits_div (y / h2) in-face, digits_mod (y / h2) in-face, ← add-mul (y / h2 * h + 2 * (y % h2)) (2 * j) w)
          (ap (λ (k : ℕ). k * w) (omega arith))

      face-second : second_row w h h2 (y + j) ≡ second_row w h h2 y + 2 * j * w
      face-second =
          let further : min (2 * (y % h2 + j) + 1) (h - 1) ≡ min (2 * (y % h2) + 1) (h - 1) + 2 * j = omega (arith, in-face, eh) in
          rw (number, digits_div (y / h2) in-face, digits_mod (y / h2) in-face, ← add-mul (y / h2 * h + min (2 * (y % h2) + 1) (h - 1)) (2 * j) w)
          (ap (λ (k : ℕ). k * w) (omega (arith, further)))

    pub run-face : Run w h h2 (faces * h2) y m
    run-face =
        let pos : 0 < h2 = omega arith in
        let of-face : y / h2 < faces = (div-lt_iff_lt-mul pos).1 lt in
        record {
          some = some;
          inside = omega (arith, div-add-mod' y h2, row_in h2 of-face);
          firsts = face-first;
          seconds = face-second;
        }

  -- faces of even height
  module _ (even : h ≡ 2 * h2) (all : y + m ≤ faces * h2) where
    above : (z : ℕ) → z / h2 * h + 2 * (z % h2) ≡ 2 * z
    above z = rw (even, mul_left_comm (z / h2) 2 h2) (omega (arith, div-add-mod' z h2))

    even-first : (z : ℕ) → first_row w h h2 z ≡ 2 * z * w
    even-first z = ap (λ (k : ℕ). k * w) (above z)

    even-second : (z : ℕ) → second_row w h h2 z ≡ (2 * z + 1) * w
    even-second z =
        let pos : 0 < h2 = omega arith in
        let second : min (2 * (z % h2) + 1) (h - 1) ≡ 2 * (z % h2) + 1 = omega (arith, mod-lt z pos, even) in
        ap (λ (k : ℕ). k * w) (omega (arith, second, above z))

    pub run-even : Run w h h2 (faces * h2) y m
    run-even =
        record {
          some = some;
          inside = all;
          firsts = λ j lt. rw (even-first (y + j), even-first y, ← add-mul (2 * y) (2 * j) w) (ap (λ (k : ℕ). k * w) (omega arith));
          seconds = λ j lt. rw (even-second (y + j), even-second y, ← add-mul (2 * y + 1) (2 * j) w) (ap (λ (k : ℕ). k * w) (omega arith));
        }
