-- A step of the chain: the next level stands behind this one, and from there on lies a buffer whose first level it is. That buffer
-- is long enough for one level fewer, and filled with as many it is the rest of the whole chain. Assumes nothing.
use mathlib.Core.Path.{◌≡◌, sym, ap, ◌∙◌}
use mathlib.Core.List.{List, ◌++◌, append-nil}
use Prim.Native.Nat.{ℕ, zero, suc, ◌+◌, ◌-◌, ◌*◌, ◌≤◌, ◌<◌}
use native.Mathlib.Omega.{arith}
use lib.ListN.{length, take, drop, length-append, length-drop, take-append-drop}
use lib.Seq.{length-take-le, take_at, drop_at, drop-length}
use borrow.Author.Rules.{part_to_end}
use borrow.Rule.Slice.PartMut.{put_mid, Post-is}
use Rattle.rules.specs.Sizes.{half, start}
use Rattle.rules.specs.Levels.{next, filled}
use Rattle.rules.proofs.Sides.{start-half}
use Rattle.rules.proofs.Chain.{length-next, filled-one, filled-step}
use Rattle.reduce.specs.Levels.{Sides, written}

-- as many levels as are left, the first one apart
pub start-less : (faces w h left : ℕ) → 0 < w → 0 < h → 0 < left → start faces w h left ≡ faces * h * w + start faces (half w) (half h) (left - 1)
start-less faces w h zero pw ph p = absurd (omega arith)
start-less faces w h (suc n) pw ph p = start-half faces w h n pw ph ∙ ap (λ (k : ℕ). faces * h * w + start faces (half w) (half h) k) (omega arith)

module _ (reduce : ℕ → ℕ → ℕ → ℕ → ℕ) (faces w h left : ℕ) (old : List ℕ) (s : Sides faces w h) (more : 1 < left) (room : start faces w h left ≤ length old) where
  one : start faces w h left ≡ faces * h * w + start faces (half w) (half h) (left - 1)
  one = start-less faces w h left s.some-w s.some-h (omega arith)

  two : start faces (half w) (half h) (left - 1) ≡ faces * half h * half w + start faces (half (half w)) (half (half h)) (left - 1 - 1)
  two = start-less faces (half w) (half h) (left - 1) (omega arith) (omega arith) (omega arith)

  pub step_room : faces * h * w + faces * half h * half w ≤ length old
  step_room = omega (arith, one, two)

  pub length-written : length (written reduce faces w h old) ≡ length old
  unfolding written
  length-written =
      simp (length-append, length-next reduce faces w h (take (faces * h * w) old), length-drop, length-take-le (faces * h * w) old (omega (arith, step_room)))
      (omega (arith, step_room))

  -- the step's own call may be made
  pub step-rest : start faces (half w) (half h) (left - 1) ≤ length (drop (faces * h * w) (written reduce faces w h old))
  step-rest = rw (length-drop, length-written) (omega (arith, one))

  -- and what it leaves is what is asked for
  pub step-done : take (faces * h * w) (written reduce faces w h old) ++ filled reduce faces (left - 1) (half w) (half h) (drop (faces * h * w) (written reduce faces w h old))
      ≡ filled reduce faces left w h old
  unfolding written
  step-done =
      let n = left - 1 - 1 in
      let e : left - 1 ≡ suc n = omega arith in
      let e' : left ≡ suc (suc n) = omega arith in
      let l = take (faces * h * w) old in
      let rest = next reduce faces w h l ++ drop (faces * h * w + faces * half h * half w) old in
      let long = length-take-le (faces * h * w) old (omega (arith, step_room)) in
      rw (take_at l rest (faces * h * w) long, drop_at l rest (faces * h * w) long)
      (ap (λ (k : ℕ). l ++ filled reduce faces k (half w) (half h) rest) e
      ∙ sym (filled-step reduce faces n w h old s.some-w s.some-h) ∙ ap (λ (k : ℕ). filled reduce faces k w h old) (sym e'))

  -- where no level follows it, the level written is the last
  pub step-last : (xs : List ℕ) → xs ≡ written reduce faces w h old → left ≤ 2 → xs ≡ filled reduce faces left w h old
  step-last xs e last =
      let k : left - 1 ≡ 1 = omega arith in
      let n = faces * h * w in
      let ys = written reduce faces w h old in
      e
      ∙ sym (take-append-drop n ys)
      ∙ ap (λ (r : List ℕ). take n ys ++ r)
      (sym (filled-one reduce faces (half w) (half h) (drop n ys) (omega arith) (omega arith))
      ∙ ap (λ (l : ℕ). filled reduce faces l (half w) (half h) (drop n ys)) (sym k))
      ∙ step-done

pub step-none : (reduce : ℕ → ℕ → ℕ → ℕ → ℕ) {faces w h left : ℕ} {old : List ℕ} → Sides faces w h → 1 ≤ left → left ≤ 1 → old ≡ filled reduce faces left w h old
step-none reduce {faces} {w} {h} {left} {old} s p q =
    let e : left ≡ 1 = omega arith in
    rw e (sym (filled-one reduce faces w h old s.some-w s.some-h))

-- ---- the same of the code's own values: xs is what `write_next` left, k where the part starts

pub record Written (reduce : ℕ → ℕ → ℕ → ℕ → ℕ) (faces w h left k : ℕ) (old xs : List ℕ) : Type 0 where
  pub sides : Sides faces w h
  pub more : 1 < left
  pub room : start faces w h left ≤ length old
  pub at : k ≡ faces * h * w
  pub holds : xs ≡ written reduce faces w h old

module _ {reduce : ℕ → ℕ → ℕ → ℕ → ℕ} {faces w h left k : ℕ} {old xs : List ℕ} (r : Written reduce faces w h left k old xs) where
  pub length-xs : length xs ≡ length old
  length-xs = ap length r.holds ∙ length-written reduce faces w h left old r.sides r.more r.room

  pub at-fits : k ≤ length xs
  at-fits = omega (arith, length-xs, step_room reduce faces w h left old r.sides r.more r.room)

  pub rest-fits : {w2 h2 : ℕ} → w2 ≡ half w → h2 ≡ half h → start faces w2 h2 (left - 1) ≤ length (take (length xs - k) (drop k xs))
  rest-fits ew eh = rw (part_to_end xs k, ew, eh, r.at, r.holds) (step-rest reduce faces w h left old r.sides r.more r.room)

  -- ys is what the call on the part left
  pub put_back : {w2 h2 : ℕ} {ys : List ℕ} → w2 ≡ half w → h2 ≡ half h → ys ≡ filled reduce faces (left - 1) w2 h2 (take (length xs - k) (drop k xs))
      → put_mid k (length xs - k) xs ys ≡ filled reduce faces left w h old
  put_back {ys} ew eh ey =
      rw (Post-is k (length xs) xs at-fits, drop-length xs, append-nil ys, ey, part_to_end xs k, ew, eh, r.at, r.holds)
      (step-done reduce faces w h left old r.sides r.more r.room)
