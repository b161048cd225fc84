-- A chain follows exactly if it is 01's chain of its level 0. A level that follows is the level after the one before, so by induction
-- level m as it stands is level m; and levels behind each other are the chain. Hence what the chain call leaves follows, and of a chain
-- that follows the part from level a on does, as a chain of level a's sides. Assumes nothing.
use Rattle.std.specs.Prelude.{None}
use mathlib.Core.Path.{◌≡◌, refl, sym, ap, ap₂, ◌∙◌}
use mathlib.Core.List.{List, ◌++◌, append_assoc, append-nil}
use Prim.Native.Nat.{ℕ, zero, suc, ◌+◌, ◌-◌, ◌≤◌, ◌<◌}
use native.Mathlib.Numerals.{add-one}
use native.Mathlib.Omega.{arith}
use lib.ListN.{length, get_or, take, drop, length-drop, take-append-drop}
use lib.Seq.{length-take-le, take-add, get_or-take, get_or-drop, ext_get_or}
use Rattle.rules.specs.Sizes.{side_at, half, size_at, start}
use Rattle.rules.specs.Levels.{next, level, chain}
use Rattle.rules.specs.Checks.{standing, level_verdict, levels_verdict}
use Rattle.rules.proofs.Sides.{half-side, start-suc, size-zero}
use Rattle.rules.proofs.Bounds.{start-mono}
use Rattle.rules.proofs.Chain.{length-next, level-add, chain-level}
use Rattle.rules.proofs.Views.{part-front}
use Rattle.rules.proofs.Checks.{due-at, level-texels, texels-level, levels-none, levels-all}

module _ (reduce : ℕ → ℕ → ℕ → ℕ → ℕ) (faces : ℕ) where
  -- each level is made from the one before, counted from the top too
  level-next : (m w h : ℕ) (l : List ℕ) → 0 < w → 0 < h → level reduce faces (suc m) w h l ≡ next reduce faces (side_at m w) (side_at m h) (level reduce faces m w h l)
  unfolding level
  level-next m w h l pw ph = ap (λ (k : ℕ). level reduce faces k w h l) (sym (add-one m)) ∙ level-add reduce faces m 1 w h l pw ph

  -- a chain with one level more
  chain_more : (n w h : ℕ) (l : List ℕ) → chain reduce faces (suc n) w h l ≡ chain reduce faces n w h l ++ level reduce faces n w h l
  unfolding chain level
  chain_more zero w h l = append-nil l
  chain_more (suc n) w h l = ap (λ (r : List ℕ). l ++ r) (chain_more n (half w) (half h) (next reduce faces w h l)) ∙ sym (append_assoc l _ _)

  module _ (w h : ℕ) (l : List ℕ) where
    pub length-standing : (m : ℕ) → start faces w h (suc m) ≤ length l → length (standing faces w h l m) ≡ size_at faces w h m
    unfolding standing
    length-standing m room = length-take-le (size_at faces w h m) (drop (start faces w h m) l) (rw (length-drop (start faces w h m) l) (omega (arith, start-suc faces w h m)))

    pub get_or-standing : (m k : ℕ) → k < size_at faces w h m → get_or (standing faces w h l m) k 0 ≡ get_or l (start faces w h m + k) 0
    unfolding standing
    get_or-standing m k lt = get_or-take (size_at faces w h m) _ k 0 lt ∙ get_or-drop (start faces w h m) l k 0

    -- a level follows exactly if it is the level after the one before
    follows_next : (m : ℕ) → start faces w h (suc (suc m)) ≤ length l → level_verdict reduce faces w h l (suc m) ≡ None
        → standing faces w h l (suc m) ≡ next reduce faces (side_at m w) (side_at m h) (standing faces w h l m)
    unfolding size_at
    follows_next m room e =
        let long = length-standing (suc m) room in
        ext_get_or 0 _ _ (long ∙ sym (length-next reduce faces (side_at m w) (side_at m h) (standing faces w h l m) ∙ rw (half-side m w, half-side m h)))
        (λ k lt. get_or-standing (suc m) k (omega arith) ∙ level-texels reduce faces w h l m e k (omega arith) ∙ due-at reduce faces w h l m k)

    next-follows : (m : ℕ) → standing faces w h l (suc m) ≡ next reduce faces (side_at m w) (side_at m h) (standing faces w h l m)
        → level_verdict reduce faces w h l (suc m) ≡ None
    next-follows m e =
        texels-level reduce faces w h l m λ k lt.
        sym (get_or-standing (suc m) k lt) ∙ ap (λ (s : List ℕ). get_or s k 0) e ∙ sym (due-at reduce faces w h l m k)

    -- every level as it stands is that level of the level 0 that stands there
    module _ (pw : 0 < w) (ph : 0 < h) where
      pub follows-levels : (n : ℕ) → start faces w h n ≤ length l → levels_verdict reduce faces w h l n ≡ None
          → (m : ℕ) → m < n → standing faces w h l m ≡ level reduce faces m w h (standing faces w h l 0)
      unfolding level
      follows-levels n room e zero lt = refl
      follows-levels n room e (suc m) lt =
          let end = start-mono faces w h (suc (suc m)) n (omega arith) in
          follows_next m (omega arith) (levels-all reduce faces w h l n e (suc m) lt)
          ∙ ap (next reduce faces (side_at m w) (side_at m h)) (follows-levels n room e m (omega arith))
          ∙ sym (level-next m w h (standing faces w h l 0) pw ph)

      level-follows : (n m : ℕ) → ((j : ℕ) → j < n → standing faces w h l j ≡ level reduce faces j w h (standing faces w h l 0)) → m < n → level_verdict reduce faces w h l m ≡ None
      unfolding level_verdict
      level-follows n zero all lt = refl
      level-follows n (suc m) all lt =
          next-follows m
          (all (suc m) lt ∙ level-next m w h (standing faces w h l 0) pw ph ∙ ap (next reduce faces (side_at m w) (side_at m h)) (sym (all m (omega arith))))

      -- and so are all of them, one behind the other
      stacked : (n : ℕ) → ((m : ℕ) → m < n → standing faces w h l m ≡ level reduce faces m w h (standing faces w h l 0)) → take (start faces w h n) l ≡ chain reduce faces n w h (standing faces w h l 0)
      unfolding start chain standing
      stacked zero all = refl
      stacked (suc n) all =
          take-add (start faces w h n) (size_at faces w h n) l
          ∙ ap₂ (λ (a b : List ℕ). a ++ b) (stacked n (λ m lt. all m (omega arith))) (all n (omega arith))
          ∙ sym (chain_more n w h (standing faces w h l 0))

      unstacked : (n : ℕ) → start faces w h n ≤ length l → take (start faces w h n) l ≡ chain reduce faces n w h (standing faces w h l 0)
          → (m : ℕ) → m < n → standing faces w h l m ≡ level reduce faces m w h (standing faces w h l 0)
      unfolding standing
      unstacked n room e m lt =
          let b = n - suc m in
          let en : m + suc b ≡ n = omega arith in
          let size = size_at faces w h m in
          let at = start faces w h m in
          let end = start-mono faces w h (suc m) n (omega arith) in
          let long = length-take-le (start faces w h n) l room in
          let one = start-mono faces w h 1 n (omega arith) in
          ap (λ (x : List ℕ). take size (drop at x)) (sym (take-append-drop (start faces w h n) l))
          ∙ part-front at size (take (start faces w h n) l) (drop (start faces w h n) l) (omega (arith, start-suc faces w h m))
          ∙ ap (λ (x : List ℕ). take size (drop at x)) e
          ∙ ap (λ (k : ℕ). take size (drop at (chain reduce faces k w h (standing faces w h l 0)))) (sym en)
          ∙ chain-level reduce faces m b w h (standing faces w h l 0) pw ph (length-standing 0 (omega arith) ∙ size-zero faces w h pw ph)

      -- THE VERDICT. A chain follows exactly if it is the chain of its level 0
      pub follows-chain : (n : ℕ) → start faces w h n ≤ length l → levels_verdict reduce faces w h l n ≡ None
          → take (start faces w h n) l ≡ chain reduce faces n w h (standing faces w h l 0)
      follows-chain n room e = stacked n (follows-levels n room e)

      pub chain-follows : (n : ℕ) → start faces w h n ≤ length l → take (start faces w h n) l ≡ chain reduce faces n w h (standing faces w h l 0)
          → levels_verdict reduce faces w h l n ≡ None
      chain-follows n room e = levels-none reduce faces w h l n (λ m lt. level-follows n m (unstacked n room e) lt)
