-- Where the texels of a run stand already, writing them changes nothing: so how far a row or a level is right is told by the runs of
-- which it would be made, with one buffer as found and as left. A check goes on while the run that stands there grows, and stops at
-- the first place that holds something else. Assumes nothing.
use mathlib.Core.Path.{◌≡◌, refl, sym, ap, ◌∙◌}
use Rattle.std.specs.Prelude.{Option, Some, None, MatchOption}
use Rattle.std.specs.Option.{unwrap_or}
use Rattle.std.specs.List.{zip, AllWithin, HoldsAt}
use Rattle.std.proofs.lemmas.Slice.Zip.{length-zip, get_or-zip}
use mathlib.Core.List.{List, ◌++◌}
use Prim.Native.Nat.{ℕ, zero, suc, ◌+◌, ◌-◌, ◌≤◌, ◌<◌}
use native.Mathlib.Nat.{zero-add}
use native.Mathlib.Numerals.{add-one}
use native.Mathlib.Omega.{arith}
use lib.ListN.{length, get_or, take, drop, get_or-append}
use lib.Seq.{set-get_or, get_or-drop}
use borrow.Author.Rules.{part_to_end}
use borrow.Rule.Slice.PartMut.{put_mid}
use Rattle.rules.specs.Sizes.{half}
use Rattle.rules.specs.Levels.{tab}
use Rattle.rules.proofs.Grid.{length-tab, get_or-tab, tab-ext}
use Rattle.kinds.specs.Runs.{over, pair_of}
use Rattle.kinds.proofs.Runs.{over-ext, Over, over_first, over-set, over-more, over-all}
use Rattle.reduce.specs.Rows.{held_of}
use Rattle.reduce.specs.Right.{Right, FirstWrong}
use Rattle.reduce.proofs.Rows.{over_put, row_at, row-long, row-read, front-is, wide_at}

module _ {at : ℕ} {s : List ℕ} {f : ℕ → ℕ} where
  -- one place more
  pub stands-more : {n : ℕ} → Over at s n f s → at + n < length s → get_or s (at + n) 0 ≡ f n → Over at s (n + 1) f s
  stands-more {n} o lt e = rw (set-get_or s (at + n) 0) at (over-set o (at + n) (get_or s (at + n) 0) refl lt e)

  -- n places, each by itself
  pub stands-all : (n : ℕ) → at + n ≤ length s → ((k : ℕ) → k < n → get_or s (at + k) 0 ≡ f k) → Over at s n f s
  stands-all zero room same = over_first at s f (omega arith)
  stands-all (suc n) room same = rw (add-one n) at (stands-more (stands-all n (omega arith) (λ k lt. same k (omega arith))) (omega arith) (same n (omega arith)))

  -- all n
  pub right-all : {n : ℕ} → Over at s n f s → Right at s n f n
  right-all o = record { most = omega arith; same = o.holds; other = λ lt e. absurd (omega arith) }

  -- r of them, and then another texel
  pub right-stop : {n r : ℕ} → Over at s r f s → r ≤ n → (get_or s (at + r) 0 ≡ f r → ⊥) → Right at s n f r
  right-stop o le differs = record { most = le; same = o.holds; other = λ lt e. differs e }

  -- the same texels, worked out otherwise
  pub right-ext : {n r : ℕ} (g : ℕ → ℕ) → ((k : ℕ) → k < n → f k ≡ g k) → Right at s n f r → Right at s n g r
  right-ext {r = r} g e t =
      let m = t.most in
      record {
        most = m;
        same = t.same ∙ over-ext at s r f g (λ k lt. e k (omega arith));
        other = λ lt z. t.other lt (z ∙ sym (e r lt));
      }

-- what follows of how far places are right follows of the first that is not
pub wrong-by : {at to n : ℕ} {s t : List ℕ} {f g : ℕ → ℕ} {wrong : Option ℕ} → ((r : ℕ) → Right at s n f r → Right to t n g r)
    → FirstWrong at s n f wrong → FirstWrong to t n g wrong
wrong-by {n = n} {wrong = wrong} law w = record { inside = w.inside; right = law (unwrap_or wrong n) w.right }

-- two texels side by side
abbrev pub Alike : ℕ × ℕ → Type 0
Alike p = p.0 ≡ p.1

abbrev pub Unlike : ℕ × ℕ → Type 0
Unlike p = p.0 ≡ p.1 → ⊥

alike-at : (made c : List ℕ) (k : ℕ) → k < length made → k < length c → Alike (get_or (zip made c) k (0, 0)) → get_or c (0 + k) 0 ≡ get_or made k 0
alike-at made c k lm lc e = ap (λ i. get_or c i 0) (zero-add k) ∙ sym (rw (get_or-zip made c k (0, 0) lm lc) at e)

-- a list beside another, up to the first pair that differs
pub first-unlike : (made c : List ℕ) (r : Option ℕ) → length made ≡ length c
    → MatchOption r (AllWithin Alike (zip made c) 0 (length (zip made c))) (λ i. (i < length (zip made c)) × HoldsAt Unlike (zip made c) i × AllWithin Alike (zip made c) 0 i)
    → FirstWrong 0 c (length c) (λ k. get_or made k 0) r
first-unlike made c None long same =
    record { inside = tt; right = right-all (stands-all (length c) (omega arith) (λ k lt. alike-at made c k (omega arith) lt (same k (0, 0) (omega arith) (omega (arith, length-zip made c))))) }
first-unlike made c (Some i) long found =
    let few : i < length c = omega (arith, found.0, length-zip made c) in
    let unlike : Unlike (get_or (zip made c) i (0, 0)) = found.1 (0, 0) in
    record {
      inside = few;
      right =
          right-stop (stands-all i (omega arith) (λ k lt. alike-at made c k (omega arith) (omega arith) (found.2 k (0, 0) (omega arith) lt))) (omega arith)
          (λ e. unlike (rw (get_or-zip made c i (0, 0) (omega arith) few) (sym e ∙ ap (λ k. get_or c k 0) (zero-add i))));
    }

-- the run at the front of a list
pub front_at : (old : List ℕ) (n : ℕ) (f : ℕ → ℕ) (k : ℕ) → k < n → get_or (over 0 old n f) k 0 ≡ f k
unfolding over
front_at old n f k lt = get_or-append (tab n f) _ 0 k (omega (arith, length-tab n f)) ∙ get_or-tab n f k lt

-- a list by its texels
listed : (l : List ℕ) → l ≡ tab (length l) (λ k. get_or l k 0)
listed l = over-all (stands-all {at = 0} {s = l} {f = λ k. get_or l k 0} (length l) (omega arith) (λ k lt. ap (λ (i : ℕ). get_or l i 0) (zero-add k))) refl

-- texels that were copied from place `from` of a list on
pub over-copied : (at m from : ℕ) (s source copy : List ℕ) → from + m ≤ length source → copy ≡ row_at m from source
    → put_mid at (at + m - at) s copy ≡ over at s m (λ k. get_or (take (length source - from) (drop from source)) k 0)
over-copied at m from s source copy room e =
    let l = row_at m from source in
    let f = λ (k : ℕ). get_or (take (length source - from) (drop from source)) k 0 in
    let is : copy ≡ tab m f =
    e
    ∙ listed l
    ∙ ap (λ (n : ℕ). tab n (λ k. get_or l k 0)) (row-long m from source room)
    ∙ tab-ext m (λ k. get_or l k 0) f
    (λ k lt. row-read m from source k lt ∙ sym (ap (λ (l : List ℕ). get_or l k 0) (part_to_end source from) ∙ get_or-drop from source k 0)) in
    ap (λ (l : List ℕ). put_mid at (at + m - at) s l) is ∙ over_put at m s f

-- told of a part alone
pub right-part : {m r : ℕ} {f : ℕ → ℕ} (at : ℕ) (s : List ℕ) → at + m ≤ length s → Right 0 (row_at m at s) m f r → Right at s m f r
right-part {m} {r} {f} at s room t =
    let most = t.most in
    record {
      most = most;
      same =
          (stands-all r (omega arith) (λ k lt. sym (row-read m at s k (omega arith)) ∙ ap (λ (l : List ℕ). get_or l k 0) t.same ∙ front_at (row_at m at s) r f k lt)).holds;
      other = λ lt e. t.other lt (ap (λ (k : ℕ). get_or (row_at m at s) k 0) (zero-add r) ∙ row-read m at s r lt ∙ e);
    }

-- texels that were made at the front of a part, and compared
pub made-right : {r : ℕ} {c : List ℕ} (f : ℕ → ℕ) (m : ℕ) (part made : List ℕ) → m ≤ length part → made ≡ tab (length (take m part)) f
    → Right 0 c m (λ k. get_or (take m (made ++ drop m part)) k 0) r → Right 0 c m f r
made-right f m part made le e t =
    right-ext f (λ k lt. ap (λ (l : List ℕ). get_or l k 0) (front-is m part made f le e) ∙ get_or-tab m f k lt) t

-- a turn: m places more are looked at, behind x that stand
module _ {n x m : ℕ} {f g : ℕ → ℕ} {s : List ℕ} (o : Over 0 s x f s) (room : n ≤ length s) (le : x + m ≤ n) (e : (k : ℕ) → k < m → g k ≡ f (x + k)) where
  grown : {r : ℕ} → Right x s m g r → Over 0 s (x + r) f s
  grown {r} t = let most = t.most in over-more o x r g s (omega arith) t.same (omega arith) (λ k lt. e k (omega arith))

  -- it goes on where none of them is wrong
  pub turn-more : FirstWrong x s m g None → Over 0 s (x + m) f s
  turn-more t = grown t.right

  -- and stops at the first that is
  pub turn-stop : {r : ℕ} → FirstWrong x s m g (Some r) → FirstWrong 0 s n f (Some (x + r))
  turn-stop {r} t =
      let lt = t.inside in
      let u = t.right in
      record {
        inside = omega arith;
        right = right-stop (grown u) (omega arith) (λ z. u.other lt (ap (λ (k : ℕ). get_or s k 0) (sym (zero-add (x + r))) ∙ z ∙ sym (e r lt)));
      }

-- and after the last turn
pub turn-end : {at n : ℕ} {s : List ℕ} {f : ℕ → ℕ} → Over at s n f s → FirstWrong at s n f None
turn-end o = record { inside = tt; right = right-all o }

-- rows of two and more: no place is held
pub wide-right : {r : ℕ} {c : List ℕ} (reduce : ℕ → ℕ → ℕ → ℕ → ℕ) (w : ℕ) (a b : List ℕ) (n : ℕ) → 2 ≤ w → n ≡ half w
    → Right 0 c n (pair_of reduce a b) r → Right 0 c n (held_of reduce w a b) r
wide-right reduce w a b n le e t = right-ext (held_of reduce w a b) (λ k lt. wide_at reduce w a b k (omega arith)) t
