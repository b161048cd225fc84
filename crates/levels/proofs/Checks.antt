-- The code of a level's verdict goes by what is right behind the level before, counted from there; the definition by places in the
-- chain. Both are the same texels, since a level starts where the one before ends. Assumes nothing.
use Rattle.std.specs.Prelude.{Option, None, Some}
use Rattle.std.specs.Option.{option_map}
use mathlib.Core.Path.{◌≡◌, sym, ap, ◌∙◌}
use mathlib.Core.Bool.{true, false}
use mathlib.Core.List.{List}
use Prim.Native.Nat.{ℕ, zero, suc, ◌+◌, ◌-◌, ◌*◌, ◌≤◌, ◌<◌}
use native.Mathlib.Nat.{le_trans}
use native.Mathlib.Numerals.{add-one}
use native.Mathlib.Omega.{arith}
use borrow.Author.Tests.{eq-eqb, ne_eqb}
use lib.ListN.{length, get_or, take, drop, length-drop}
use lib.Seq.{get_or-drop}
use Rattle.rules.specs.Kinds.{faces_of}
use Rattle.rules.specs.Sizes.{side_at, half, top, size_at, start, count}
use Rattle.rules.specs.Levels.{next}
use Rattle.rules.specs.Checks.{standing, right_at, level_verdict}
use Rattle.rules.proofs.Sides.{side-pos, side-le, half-side, start-suc}
use Rattle.rules.proofs.Refusing.{Chained}
use Rattle.rules.proofs.Bounds.{faces-some, faces-most, top-most, level-end}
use Rattle.rules.proofs.Checks.{first-none, first_some, due-at}
use Rattle.kinds.proofs.Runs.{over-within}
use Rattle.reduce.specs.Levels.{Sides}
use Rattle.reduce.specs.Right.{Right, FirstWrong}

-- what `check_next` asks of a picture that is taken
pub sides-of : {kind w h n : ℕ} → Chained kind w h n → Sides (faces_of kind) w h
sides-of {kind} c = omega (arith, c.taken, faces-some kind, faces-most kind)

-- where a level that is not level 0 stands, in a buffer of n entries, and the level before it
pub record Behind (faces w h level n : ℕ) : Type 0 where
  pub few : top w h ≤ 12
  pub sides : Sides faces (side_at (level - 1) w) (side_at (level - 1) h)
  pub starts : start faces w h level ≡ start faces w h (level - 1) + faces * side_at (level - 1) h * side_at (level - 1) w
  pub ends : start faces w h (level + 1) ≡ start faces w h level + faces * half (side_at (level - 1) h) * half (side_at (level - 1) w)
  pub inside : start faces w h (level + 1) ≤ n

pub behind : (faces w h level n : ℕ) → Sides faces w h → count faces w h ≤ n → level ≤ top w h → 1 ≤ level → Behind faces w h level n
unfolding size_at
behind faces w h zero n s room le some = absurd (omega arith)
behind faces w h (suc m) n s room le some =
    let e : suc m - 1 ≡ m = omega arith in
    let end = start-suc faces w h (suc m) in
    record {
      few = top-most w h s.some-w s.most-w s.most-h;
      sides = rw e (omega (arith, s, side-pos m w, side-pos m h, side-le m w s.some-w, side-le m h s.some-h));
      starts = rw e (start-suc faces w h m);
      ends = rw (e, add-one (suc m), half-side m w, half-side m h) end;
      inside = rw (add-one (suc m), end) (le_trans (level-end faces w h (suc m) le) room);
    }

module _ (reduce : ℕ → ℕ → ℕ → ℕ → ℕ) (faces w h m : ℕ) (l : List ℕ) (r : ℕ) (room : start faces w h (suc m) ≤ length l)
    (t : Right (size_at faces w h m) (drop (start faces w h m) l) (size_at faces w h (suc m)) (λ k. get_or (next reduce faces (side_at m w) (side_at m h) (standing faces w h l m)) k 0) r) where
  -- the texels that were looked at
  looked : (k : ℕ) → get_or (drop (start faces w h m) l) (size_at faces w h m + k) 0 ≡ get_or l (start faces w h (suc m) + k) 0
  looked k = get_or-drop (start faces w h m) l (size_at faces w h m + k) 0 ∙ ap (λ (i : ℕ). get_or l i 0) (omega (arith, start-suc faces w h m))

  within : size_at faces w h m ≤ length (drop (start faces w h m) l)
  within = rw (length-drop (start faces w h m) l) (omega (arith, start-suc faces w h m))

  right-before : (k : ℕ) → k < r → right_at reduce faces w h l m (start faces w h (suc m) + k) ≡ true
  right-before k lt =
      eq-eqb _ _
      (sym (looked k)
      ∙ ap (λ (s : List ℕ). get_or s (size_at faces w h m + k) 0) t.same
      ∙ over-within (size_at faces w h m) (drop (start faces w h m) l) r _ k within lt
      ∙ sym (due-at reduce faces w h l m k))

  wrong-at : r < size_at faces w h (suc m) → right_at reduce faces w h l m (start faces w h (suc m) + r) ≡ false
  wrong-at lt = ne_eqb _ _ (λ e. t.other lt (looked r ∙ e ∙ due-at reduce faces w h l m r))

  -- every place before the first wrong one, as a place in the chain
  all-before : (k : ℕ) → start faces w h (suc m) ≤ k → k < start faces w h (suc m) + r → right_at reduce faces w h l m k ≡ true
  all-before k le lt =
      let e : start faces w h (suc m) + (k - start faces w h (suc m)) ≡ k = omega arith in
      rw e at (right-before (k - start faces w h (suc m)) (omega arith))

  follows-at : size_at faces w h (suc m) ≤ r → None ≡ level_verdict reduce faces w h l (suc m)
  unfolding level_verdict
  follows-at le = sym (first-none _ _ _ (λ k from lt. all-before k from (omega arith)))

  wrong-place : r < size_at faces w h (suc m) → Some (start faces w h (suc m) + r) ≡ level_verdict reduce faces w h l (suc m)
  unfolding level_verdict
  wrong-place lt = sym (first_some _ _ _ _ (omega arith) (omega arith) (wrong-at lt) all-before)

-- the first that is wrong, as a place in the chain
verdict : (reduce : ℕ → ℕ → ℕ → ℕ → ℕ) (faces w h m : ℕ) (l : List ℕ) → start faces w h (suc m) ≤ length l → (wrong : Option ℕ)
    → FirstWrong (size_at faces w h m) (drop (start faces w h m) l) (size_at faces w h (suc m)) (λ k. get_or (next reduce faces (side_at m w) (side_at m h) (standing faces w h l m)) k 0) wrong
    → option_map (λ k. start faces w h (suc m) + k) wrong ≡ level_verdict reduce faces w h l (suc m)
verdict reduce faces w h m l room None t = follows-at reduce faces w h m l _ room t.right (omega arith)
verdict reduce faces w h m l room (Some r) t = wrong-place reduce faces w h m l r room t.right t.inside

-- the same of the code's own values: `wrong` is what `check_next` answered
pub judged : (reduce : ℕ → ℕ → ℕ → ℕ → ℕ) (faces w h level : ℕ) (l : List ℕ) (wrong : Option ℕ) → 1 ≤ level → Behind faces w h level (length l)
    → FirstWrong (faces * side_at (level - 1) h * side_at (level - 1) w) (drop (start faces w h (level - 1)) l) (faces * half (side_at (level - 1) h) * half (side_at (level - 1) w)) (λ k. get_or (next reduce faces (side_at (level - 1) w) (side_at (level - 1) h) (take (faces * side_at (level - 1) h * side_at (level - 1) w) (drop (start faces w h (level - 1)) l))) k 0) wrong
    → option_map (λ k. start faces w h level + k) wrong ≡ level_verdict reduce faces w h l level
unfolding size_at standing
judged reduce faces w h zero l wrong some b t = absurd (omega arith)
judged reduce faces w h (suc m) l wrong some b t =
    let e : suc m - 1 ≡ m = omega arith in
    verdict reduce faces w h m l (let i = b.inside in omega arith) wrong (rw (e, half-side m w, half-side m h) at t)
