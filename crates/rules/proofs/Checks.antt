-- Verdicts by their places. A level's verdict is the smallest of its places that is not right; a chain's is that of the first of its
-- levels that has one, and since the levels lie behind each other it is the smallest of them all. For any number of faces and any way
-- to make one texel of four. Assumes nothing.
use Rattle.std.specs.Prelude.{None, Option, Some}
use mathlib.Core.Path.{◌≡◌, refl, sym, ap, ◌∙◌}
use mathlib.Core.Bool.{Bool, true, false, false≢true, true≢false}
use mathlib.Core.Logic.{◌⊎◌, inl, inr, ⊎_elim}
use mathlib.Core.List.{List}
use Prim.Native.Nat.{ℕ, zero, suc, ◌+◌, ◌-◌, ◌≤◌, ◌<◌}
use native.Mathlib.Nat.{add-sub_cancel_left}
use native.Mathlib.Decide.{dec_le}
use native.Mathlib.Omega.{arith}
use borrow.Author.Tests.{eq-eqb, ne_eqb, eqb-true, eqb-false}
use lib.ListN.{get_or}
use Rattle.rules.specs.Sizes.{side_at, size_at, start}
use Rattle.rules.specs.Levels.{next}
use Rattle.rules.proofs.Sides.{start-suc}
use Rattle.rules.proofs.Bounds.{start-mono}
use Rattle.rules.specs.Checks.{standing, first_wrong, due, right_at, level_verdict, levels_verdict, Wrong}

-- ---- the smallest place that is not right

two : (b : Bool) → (b ≡ true) ⊎ (b ≡ false)
two true = inl refl
two false = inr refl

module _ (right : ℕ → Bool) where
  pub first-none : (i n : ℕ) → ((k : ℕ) → i ≤ k → k < i + n → right k ≡ true) → first_wrong right i n ≡ None
  unfolding first_wrong
  first-none i zero all = refl
  first-none i (suc n) all = rw (all i (omega arith) (omega arith)) (first-none (suc i) n (λ k le lt. all k (omega arith) (omega arith)))

  pub first_some : (i n p : ℕ) → i ≤ p → p < i + n → right p ≡ false → ((k : ℕ) → i ≤ k → k < p → right k ≡ true) → first_wrong right i n ≡ Some p
  unfolding first_wrong
  first_some i zero p le lt wrong before = absurd (omega arith)
  first_some i (suc n) p le lt wrong before =
      elim (dec_le p i) [
        | yes here ↦ let e : p ≡ i = omega arith in rw (← e, wrong)
        | no f ↦ rw (before i (omega arith) (omega arith)) (first_some (suc i) n p (omega arith) (omega arith) wrong (λ k le' lt'. before k (omega arith) lt'))
      ]

  -- what a verdict says: all n places are right, or one is the first that is not
  pub record First (i n p : ℕ) : Type 0 where
    pub from : i ≤ p
    pub before : p < i + n
    pub wrong : right p ≡ false
    pub others : (k : ℕ) → i ≤ k → k < p → right k ≡ true

  also-here : (i n : ℕ) → right i ≡ true → ((k : ℕ) → suc i ≤ k → k < suc i + n → right k ≡ true) → (k : ℕ) → i ≤ k → k < i + suc n → right k ≡ true
  also-here i n here all k le lt = elim (dec_le k i) [ yes e ↦ let z : k ≡ i = omega arith in rw z here | no f ↦ all k (omega arith) (omega arith) ]

  first_later : (i n p : ℕ) → right i ≡ true → First (suc i) n p → First i (suc n) p
  first_later i n p here f =
      record {
        from = omega arith;
        before = omega arith;
        wrong = f.wrong;
        others = λ k le lt. elim (dec_le k i) [ yes e ↦ let z : k ≡ i = omega arith in rw z here | no g ↦ f.others k (omega arith) lt ];
      }

  pub first-judged : (i n : ℕ) → ((k : ℕ) → i ≤ k → k < i + n → right k ≡ true) ⊎ ((p : ℕ) × First i n p)
  first-judged i zero = inl (λ k le lt. absurd (omega arith))
  first-judged i (suc n) =
      ⊎_elim
      (λ here.
      ⊎_elim
      (λ all. inl (also-here i n here all))
      (λ some. inr (some.0, first_later i n some.0 here some.1))
      (first-judged (suc i) n))
      (λ not. inr (i, record { from = omega arith; before = omega arith; wrong = not; others = λ k le lt. absurd (omega arith) }))
      (two (right i))

-- ---- a verdict is one or the other

pub verdict-of : (v : Option ℕ) → (v ≡ None) ⊎ ((p : ℕ) × (v ≡ Some p))
verdict-of None = inl refl
verdict-of (Some p) = inr (p, refl)

abbrev wrong-verdict : Option ℕ → Bool
wrong-verdict None = false
wrong-verdict (Some p) = true

pub not-both : {v : Option ℕ} {p : ℕ} → v ≡ None → v ≡ Some p → ⊥
not-both e f = false≢true (ap wrong-verdict (sym e ∙ f))

abbrev pub place_of : Option ℕ → ℕ
place_of None = 0
place_of (Some p) = p

module _ (reduce : ℕ → ℕ → ℕ → ℕ → ℕ) (faces w h : ℕ) (l : List ℕ) where
  -- ---- one level

  -- what is due behind its start
  pub due-at : (m k : ℕ) → due reduce faces w h l m (start faces w h (suc m) + k) ≡ get_or (next reduce faces (side_at m w) (side_at m h) (standing faces w h l m)) k 0
  unfolding due
  due-at m k = rw (add-sub_cancel_left (start faces w h (suc m)) k)

  wrong-test : {m i : ℕ} → Wrong reduce faces w h l m i → right_at reduce faces w h l m i ≡ false
  wrong-test x = ne_eqb _ _ x.differs

  level-end-at : (m : ℕ) → start faces w h (suc m) + size_at faces w h (suc m) ≡ start faces w h (suc (suc m))
  level-end-at m = sym (start-suc faces w h (suc m))

  -- it follows and has no wrong texel, or its verdict is the smallest place of one
  level-judged : (m : ℕ)
      → ((level_verdict reduce faces w h l (suc m) ≡ None) × ((i : ℕ) → Wrong reduce faces w h l m i → ⊥))
      ⊎ ((p : ℕ) × (level_verdict reduce faces w h l (suc m) ≡ Some p) × Wrong reduce faces w h l m p × ((i : ℕ) → Wrong reduce faces w h l m i → p ≤ i))
  unfolding level_verdict
  level-judged m =
      let right = right_at reduce faces w h l m in
      let i = start faces w h (suc m) in
      let n = size_at faces w h (suc m) in
      let end = level-end-at m in
      ⊎_elim
      (λ all. inl (first-none right i n all, λ k x. let f = x.from in let b = x.before in true≢false (sym (all k f (omega arith)) ∙ wrong-test x)))
      (λ some.
      let f = some.1 in
      let from = f.from in
      let before = f.before in
      inr (
        some.0,
        first_some right i n some.0 from before f.wrong f.others,
        record { from = from; before = omega arith; differs = eqb-false _ _ f.wrong },
        λ k x. elim (dec_le some.0 k) [ yes le ↦ le | no g ↦ let x₀ = x.from in absurd (true≢false (sym (f.others k x₀ (omega arith)) ∙ wrong-test x)) ],
      ))
      (first-judged right i n)

  pub no-wrong-level : (m : ℕ) → ((i : ℕ) → Wrong reduce faces w h l m i → ⊥) → level_verdict reduce faces w h l (suc m) ≡ None
  no-wrong-level m none = ⊎_elim (λ a. a.0) (λ some. absurd (none some.0 some.2)) (level-judged m)

  -- a level follows exactly if each of its texels is the one that is due
  pub level-texels : (m : ℕ) → level_verdict reduce faces w h l (suc m) ≡ None → (k : ℕ) → k < size_at faces w h (suc m)
      → get_or l (start faces w h (suc m) + k) 0 ≡ due reduce faces w h l m (start faces w h (suc m) + k)
  unfolding level_verdict
  level-texels m e k lt =
      ⊎_elim
      (λ all. eqb-true _ _ (all (start faces w h (suc m) + k) (omega arith) (omega arith)))
      (λ some. let f = some.1 in absurd (not-both e (first_some _ _ _ some.0 f.from f.before f.wrong f.others)))
      (first-judged (right_at reduce faces w h l m) (start faces w h (suc m)) (size_at faces w h (suc m)))

  pub texels-level : (m : ℕ) → ((k : ℕ) → k < size_at faces w h (suc m) → get_or l (start faces w h (suc m) + k) 0 ≡ due reduce faces w h l m (start faces w h (suc m) + k))
      → level_verdict reduce faces w h l (suc m) ≡ None
  unfolding level_verdict
  texels-level m all =
      first-none _ _ _ λ i le lt.
      let z : start faces w h (suc m) + (i - start faces w h (suc m)) ≡ i = omega arith in
      eq-eqb _ _ (rw z at (all (i - start faces w h (suc m)) (omega arith)))

  -- ---- levels

  pub levels-more : (n : ℕ) → levels_verdict reduce faces w h l n ≡ None → levels_verdict reduce faces w h l (suc n) ≡ level_verdict reduce faces w h l n
  unfolding levels_verdict
  levels-more n e = rw e

  -- a wrong place stays the verdict, whatever stands above
  pub levels-stop : (n k p : ℕ) → levels_verdict reduce faces w h l n ≡ Some p → n ≤ k → levels_verdict reduce faces w h l k ≡ Some p
  unfolding levels_verdict
  levels-stop n zero p e le = let z : n ≡ 0 = omega arith in ap (levels_verdict reduce faces w h l) (sym z) ∙ e
  levels-stop n (suc k) p e le =
      elim (dec_le n k) [
        | yes lt ↦ rw (levels-stop n k p e lt)
        | no f ↦ let z : n ≡ suc k = omega arith in ap (levels_verdict reduce faces w h l) (sym z) ∙ e
      ]

  -- all n follow, or one is the first that does not
  pub levels-judged : (n : ℕ)
      → ((levels_verdict reduce faces w h l n ≡ None) × ((m : ℕ) → m < n → level_verdict reduce faces w h l m ≡ None))
      ⊎ ((m : ℕ) × (p : ℕ) × (m < n) × (levels_verdict reduce faces w h l n ≡ Some p) × (level_verdict reduce faces w h l m ≡ Some p)
      × ((j : ℕ) → j < m → level_verdict reduce faces w h l j ≡ None))
  unfolding levels_verdict
  levels-judged zero = inl (refl, λ m lt. absurd (omega arith))
  levels-judged (suc n) =
      ⊎_elim
      (λ all.
      ⊎_elim
      (λ here. inl (levels-more n all.0 ∙ here, λ m lt. elim (dec_le n m) [ yes le ↦ let z : m ≡ n = omega arith in rw z here | no f ↦ all.1 m (omega arith) ]))
      (λ not. inr (n, not.0, omega arith, levels-more n all.0 ∙ not.1, not.1, all.1))
      (verdict-of (level_verdict reduce faces w h l n)))
      (λ some. let lt = some.2 in inr (some.0, some.1, omega arith, levels-stop n (suc n) some.1 some.3 (omega arith), some.4, some.5))
      (levels-judged n)

  pub levels-none : (n : ℕ) → ((m : ℕ) → m < n → level_verdict reduce faces w h l m ≡ None) → levels_verdict reduce faces w h l n ≡ None
  levels-none n all = ⊎_elim (λ a. a.0) (λ some. absurd (not-both (all some.0 some.2) some.4)) (levels-judged n)

  pub levels-all : (n : ℕ) → levels_verdict reduce faces w h l n ≡ None → (m : ℕ) → m < n → level_verdict reduce faces w h l m ≡ None
  levels-all n e = ⊎_elim (λ a. a.1) (λ some. absurd (not-both e some.3)) (levels-judged n)

  -- ---- the smallest place of all

  -- p is the smallest place with a wrong texel in n levels above level 0
  pub record Smallest (n p : ℕ) : Type 0 where
    pub level : ℕ
    pub below : level < n
    pub wrong : Wrong reduce faces w h l level p
    pub least : (m i : ℕ) → m < n → Wrong reduce faces w h l m i → p ≤ i

  none-wrong : (n : ℕ) → ((m : ℕ) → m < n → level_verdict reduce faces w h l m ≡ None) → (m i : ℕ) → suc m < n → Wrong reduce faces w h l m i → ⊥
  none-wrong n all m i lt x = ⊎_elim (λ a. a.1 i x) (λ some. not-both (all (suc m) lt) some.1) (level-judged m)

  smallest-at : (n m p : ℕ) → m < suc n → level_verdict reduce faces w h l m ≡ Some p → ((j : ℕ) → j < m → level_verdict reduce faces w h l j ≡ None) → Smallest n p
  unfolding level_verdict
  smallest-at n zero p lt e before = absurd (not-both refl e)
  smallest-at n (suc m) p lt e before =
      ⊎_elim
      (λ a. absurd (not-both a.0 e))
      (λ some.
      let z : some.0 ≡ p = ap place_of (sym some.1 ∙ e) in
      let x : Wrong reduce faces w h l m p = rw z at some.2 in
      record {
        level = m;
        below = omega arith;
        wrong = x;
        least = λ k i below y.
            elim (dec_le k m) [
              | yes le ↦ elim (dec_le m k) [
                | yes ge ↦ let q : k ≡ m = omega arith in let r = some.3 i (rw q at y) in omega arith
                | no f ↦ absurd (none-wrong (suc m) before k i (omega arith) y)
              ]
              | no f ↦ let b = x.before in let g = y.from in omega (arith, start-mono faces w h (suc (suc m)) (suc k) (omega arith))
            ];
      })
      (level-judged m)

  -- a chain of n levels above level 0 follows exactly if none of its texels is wrong
  pub follows-none : (n : ℕ) → levels_verdict reduce faces w h l (suc n) ≡ None → (m i : ℕ) → m < n → Wrong reduce faces w h l m i → ⊥
  follows-none n e m i lt x = none-wrong (suc n) (levels-all (suc n) e) m i (omega arith) x

  pub none-follows : (n : ℕ) → ((m i : ℕ) → m < n → Wrong reduce faces w h l m i → ⊥) → levels_verdict reduce faces w h l (suc n) ≡ None
  none-follows n none =
      ⊎_elim
      (λ a. a.0)
      (λ some. let s = smallest-at n some.0 some.1 some.2 some.4 some.5 in absurd (none s.level some.1 s.below s.wrong))
      (levels-judged (suc n))

  -- and else its verdict is exactly the smallest place of one
  pub wrong-smallest : (n p : ℕ) → levels_verdict reduce faces w h l (suc n) ≡ Some p → Smallest n p
  wrong-smallest n p e =
      ⊎_elim
      (λ a. absurd (not-both a.0 e))
      (λ some.
      let z : some.1 ≡ p = ap place_of (sym some.3 ∙ e) in
      rw z at (smallest-at n some.0 some.1 some.2 some.4 some.5))
      (levels-judged (suc n))

  pub smallest-wrong : (n p : ℕ) → Smallest n p → levels_verdict reduce faces w h l (suc n) ≡ Some p
  smallest-wrong n p s =
      ⊎_elim
      (λ e. absurd (follows-none n e s.level p s.below s.wrong))
      (λ some.
      let t = wrong-smallest n some.0 some.1 in
      let a = s.least t.level some.0 t.below t.wrong in
      let b = t.least s.level p s.below s.wrong in
      let z : some.0 ≡ p = omega arith in
      some.1 ∙ ap Some z)
      (verdict-of (levels_verdict reduce faces w h l (suc n)))
