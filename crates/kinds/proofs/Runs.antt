-- A run is n texels f 0, f 1, … that stand over a buffer from one place on. A run of none is the buffer itself, a second run right
-- behind a first joins it to one longer run, and what lies before a run is as it was: so a loop that writes texel after texel, or
-- part after part, leaves one run. Assumes nothing.
use mathlib.Core.Path.{◌≡◌, refl, sym, ap, ◌∙◌}
use mathlib.Core.List.{List, ◌∷◌, ◌++◌, append_assoc}
use Prim.Native.Nat.{ℕ, zero, suc, ◌+◌, ◌≤◌, ◌<◌}
use native.Mathlib.Nat.{zero-add, add-zero, add-suc, suc-add, add_assoc}
use native.Mathlib.Omega.{arith}
use lib.ListN.{length, get_or, take, drop, set, length-append, length-drop, take-append-drop, get_or-append}
use lib.ListN.{drop_of_length-le}
use mathlib.Core.List.{append-nil}
use lib.Seq.{length-take-le, take_at, drop_at, drop-drop, get_or-take, get_or-append-add, set_split}
use Rattle.rules.specs.Levels.{tab}
use Rattle.rules.proofs.Grid.{length-tab, get_or-tab, tab-ext}
use Rattle.kinds.specs.Runs.{over}

-- ---- runs

-- n + m texels are n and then m
pub tab-add : (n m : ℕ) (f : ℕ → ℕ) → tab (n + m) f ≡ tab n f ++ tab m (λ k. f (n + k))
unfolding tab
tab-add zero m f = rw (zero-add m) (tab-ext m f (λ k. f (0 + k)) (λ i p. ap f (sym (zero-add i))))
tab-add (suc n) m f =
    rw (suc-add n m)
    (ap (λ (r : List ℕ). f zero ∷ r) (tab-add n m (λ k. f (suc k))
    ∙ ap (λ (r : List ℕ). tab n (λ k. f (suc k)) ++ r) (tab-ext m _ _ (λ i p. ap f (sym (suc-add n i))))))

module _ (at : ℕ) (old : List ℕ) where
  -- a run of none
  pub over_none : (f : ℕ → ℕ) → old ≡ over at old 0 f
  unfolding over tab
  over_none f = rw (add-zero at) (sym (take-append-drop at old))

  -- the buffer stays as long
  pub length_over : (n : ℕ) (f : ℕ → ℕ) → at + n ≤ length old → length (over at old n f) ≡ length old
  unfolding over
  length_over n f room = simp (length-append, length-tab, length-drop, length-take-le at old (omega arith)) (omega arith)

  -- runs that agree
  pub over-ext : (n : ℕ) (f g : ℕ → ℕ) → ((k : ℕ) → k < n → f k ≡ g k) → over at old n f ≡ over at old n g
  unfolding over
  over-ext n f g e = rw (tab-ext n f g e)

  -- what lies before the run is as it was
  pub over-before : (n : ℕ) (f : ℕ → ℕ) (i : ℕ) → at ≤ length old → i < at → get_or (over at old n f) i 0 ≡ get_or old i 0
  unfolding over
  over-before n f i room lt =
      get_or-append (take at old) _ 0 i (omega (arith, length-take-le at old room)) ∙ get_or-take at old i 0 lt

  -- what lies in it
  pub over-within : (n : ℕ) (f : ℕ → ℕ) (k : ℕ) → at ≤ length old → k < n → get_or (over at old n f) (at + k) 0 ≡ f k
  unfolding over
  over-within n f k room lt =
      ap (λ (i : ℕ). get_or (take at old ++ (tab n f ++ drop (at + n) old)) (i + k) 0) (sym (length-take-le at old room))
      ∙ get_or-append-add (take at old) _ k 0
      ∙ get_or-append (tab n f) _ 0 k (omega (arith, length-tab n f))
      ∙ get_or-tab n f k lt

  -- one texel
  pub over-one : (f : ℕ → ℕ) (v : ℕ) → at < length old → v ≡ f 0 → set old at v ≡ over at old 1 f
  unfolding over tab
  over-one f v room e = set_split old at v room ∙ rw (e, add-suc at 0, add-zero at)

  -- a second run behind the first
  pub over_add : (n m : ℕ) (f : ℕ → ℕ) → at + (n + m) ≤ length old → over (at + n) (over at old n f) m (λ k. f (n + k)) ≡ over at old (n + m) f
  unfolding over
  over_add n m f room =
      let p = take at old ++ tab n f in
      let l : length p ≡ at + n = simp (length-append, length-tab, length-take-le at old (omega arith)) in
      rw (
        ← append_assoc (take at old) (tab n f) (drop (at + n) old),
        take_at p (drop (at + n) old) (at + n) l,
        ← drop-drop m (at + n) (p ++ drop (at + n) old),
        drop_at p (drop (at + n) old) (at + n) l,
        drop-drop m (at + n) old,
        tab-add n m f,
        add_assoc at n m,
      )
      (simp append_assoc)

-- ---- the same as a loop's state: s is old with n texels of f over it

pub record Over (at : ℕ) (old : List ℕ) (n : ℕ) (f : ℕ → ℕ) (s : List ℕ) : Type 0 where
  pub room : at + n ≤ length old
  pub as_long : length s ≡ length old
  pub holds : s ≡ over at old n f

-- from the equation
pub over-is : (at : ℕ) (old : List ℕ) (n : ℕ) (f : ℕ → ℕ) (s : List ℕ) → at + n ≤ length old → s ≡ over at old n f → Over at old n f s
over-is at old n f s room e = record { room = room; as_long = ap length e ∙ length_over at old n f room; holds = e }

-- before the first texel
pub over_first : (at : ℕ) (old : List ℕ) (f : ℕ → ℕ) → at ≤ length old → Over at old 0 f old
over_first at old f le = record { room = omega arith; as_long = refl; holds = over_none at old f }

module _ {at : ℕ} {old : List ℕ} {n : ℕ} {f : ℕ → ℕ} {s : List ℕ} (o : Over at old n f s) where
  -- what lies before the run is as it was
  pub over-same : (i : ℕ) → i < at → get_or s i 0 ≡ get_or old i 0
  over-same i lt = rw o.holds (over-before at old n f i (omega arith) lt)

  -- m texels more, by a call that wrote them over s at p
  pub over-more : (p m : ℕ) (g : ℕ → ℕ) (t : List ℕ) → p ≡ at + n → t ≡ over p s m g → at + (n + m) ≤ length old → ((k : ℕ) → k < m → g k ≡ f (n + k)) → Over at old (n + m) f t
  over-more p m g t ep et room e =
      over-is at old (n + m) f t room
      (et ∙ rw (ep, over-ext (at + n) s m g (λ k. f (n + k)) e, o.holds) (over_add at old n m f room))

  -- one texel more, by a store
  pub over-set : (p v : ℕ) → p ≡ at + n → at + n < length old → v ≡ f n → Over at old (n + 1) f (set s p v)
  over-set p v ep lt e =
      over-more p 1 (λ _. v) (set s p v) ep (over-one p s (λ _. v) v (omega arith) refl) (omega arith)
      (λ k lt. let z : n + k ≡ n = omega arith in e ∙ ap f (sym z))

  -- after the last
  pub over-end : (m : ℕ) → n ≡ m → s ≡ over at old m f
  over-end m e = rw (← e) o.holds

-- a run of all of the buffer
pub over-all : {old : List ℕ} {n : ℕ} {f : ℕ → ℕ} {s : List ℕ} → Over 0 old n f s → n ≡ length old → s ≡ tab (length old) f
unfolding over
over-all {old} {n} {f} o e =
    o.holds
    ∙ ap (λ (l : List ℕ). tab n f ++ l) (drop_of_length-le old (omega arith))
    ∙ append-nil (tab n f)
    ∙ ap (λ (k : ℕ). tab k f) e
