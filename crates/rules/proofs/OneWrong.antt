-- One texel of a chain that follows is changed, in level m. A texel is due by the level before it alone: so no level but m and m + 1 is
-- touched, in level m that texel alone is wrong, and in level m + 1 at most the one that is made from it. Assumes nothing.
use Rattle.std.specs.Prelude.{None, Some}
use mathlib.Core.Path.{◌≡◌, refl, sym, ap, ◌∙◌}
use mathlib.Core.Logic.{◌⊎◌, inl, inr, ⊎_elim}
use mathlib.Core.List.{List}
use Prim.Native.Nat.{ℕ, zero, suc, ◌+◌, ◌-◌, ◌*◌, ◌/◌, ◌%◌, ◌≤◌, ◌<◌, min}
use native.Mathlib.Nat.{mod-lt, div-add-mod'}
use native.Mathlib.Decide.{dec_le, ℕ_discrete}
use native.Mathlib.Omega.{arith}
use lib.ListN.{length, get_or, take, drop, set}
use lib.Seq.{take-set-le, take-set-lt, drop-set-lt, drop-set-add, get_or-set_same, get_or-set_other}
use Rattle.rules.specs.Sizes.{side_at, half, size_at, start}
use Rattle.rules.specs.Levels.{grid, texel, quad, next}
use Rattle.rules.specs.Checks.{standing, due, level_verdict, levels_verdict, Wrong, child}
use Rattle.rules.proofs.Grid.{get_or-tab, x-of, y_of, f-of}
use Rattle.rules.proofs.Sides.{side-pos, half-side, start-suc}
use Rattle.rules.proofs.Bounds.{start-mono}
use Rattle.rules.proofs.Checks.{verdict-of, no-wrong-level, follows-none, wrong-smallest, smallest-wrong}

-- ---- one level

module _ (reduce : ℕ → ℕ → ℕ → ℕ → ℕ) (w h : ℕ) (s : List ℕ) (q t : ℕ) where
  -- a texel of the next level whose four are elsewhere
  quad-elsewhere : (f x y : ℕ) → ((x' y' : ℕ) → x' < w → y' < h → x' / 2 ≡ x → y' / 2 ≡ y → (f * h + y') * w + x' ≡ q → ⊥)
      → x < half w → y < half h → 0 < w → 0 < h → quad reduce w h (set s q t) f x y ≡ quad reduce w h s f x y
  unfolding quad texel
  quad-elsewhere f x y apart lx ly pw ph =
      let x₁ = min (2 * x + 1) (w - 1) in
      let y₁ = min (2 * y + 1) (h - 1) in
      let there : (x' y' : ℕ) → x' < w → y' < h → x' / 2 ≡ x → y' / 2 ≡ y → get_or (set s q t) ((f * h + y') * w + x') 0 ≡ get_or s ((f * h + y') * w + x') 0
      = λ x' y' bx by ex ey. get_or-set_other s q ((f * h + y') * w + x') t 0 (apart x' y' bx by ex ey) in
      rw (
        there (2 * x) (2 * y) (omega arith) (omega arith) (omega arith) (omega arith),
        there x₁ (2 * y) (omega arith) (omega arith) (omega arith) (omega arith),
        there (2 * x) y₁ (omega arith) (omega arith) (omega arith) (omega arith),
        there x₁ y₁ (omega arith) (omega arith) (omega arith) (omega arith),
      )

-- the texel of the next level that is made from texel q, counted through rows and faces
unfoldable kid : ℕ → ℕ → ℕ → ℕ
kid w h q = (q / w / h * half h + q / w % h / 2) * half w + q % w / 2

kid_of : (w h k x' y' q : ℕ) → x' < w → y' < h → x' / 2 ≡ k % half w → y' / 2 ≡ k / half w % half h → (k / half w / half h * h + y') * w + x' ≡ q → k ≡ kid w h q
unfolding kid
kid_of w h k x' y' q bx by ex ey e =
    let f = k / half w / half h in
    rw (← e, f-of f x' y' bx by, y_of f x' y' bx by, x-of h f x' y' bx, ex, ey, div-add-mod' (k / half w) (half h)) (sym (div-add-mod' k (half w)))

module _ (reduce : ℕ → ℕ → ℕ → ℕ → ℕ) (faces w h : ℕ) (s : List ℕ) (q t : ℕ) (pw : 0 < w) (ph : 0 < h) where
  -- every other texel of the next level stays
  next-elsewhere : (k : ℕ) → k < faces * half h * half w → (k ≡ kid w h q → ⊥) → get_or (next reduce faces w h (set s q t)) k 0 ≡ get_or (next reduce faces w h s) k 0
  unfolding next grid
  next-elsewhere k lt other =
      let pw' : 0 < half w = omega arith in
      let ph' : 0 < half h = omega arith in
      get_or-tab (faces * half h * half w) _ k lt
      ∙ quad-elsewhere reduce w h s q t (k / half w / half h) (k % half w) (k / half w % half h)
      (λ x' y' bx by ex ey e. other (kid_of w h k x' y' q bx by ex ey e))
      (mod-lt k pw') (mod-lt (k / half w) ph') pw ph
      ∙ sym (get_or-tab (faces * half h * half w) _ k lt)

-- ---- the chain

module _ (reduce : ℕ → ℕ → ℕ → ℕ → ℕ) (faces w h : ℕ) (l : List ℕ) (m p t : ℕ) (from : start faces w h m ≤ p) (before : p < start faces w h (suc m)) where
  -- levels but m stay as they stand
  standing-else : (j : ℕ) → (j ≡ m → ⊥) → standing faces w h (set l p t) j ≡ standing faces w h l j
  unfolding standing
  standing-else j other =
      elim (dec_le j m) [
        | yes le ↦
            let i = p - start faces w h j in
            let end = start-mono faces w h (suc j) m (omega arith) in
            let e : p ≡ start faces w h j + i = omega (arith, start-suc faces w h j) in
            let f : size_at faces w h j ≤ i = omega (arith, start-suc faces w h j) in
            ap (λ (k : ℕ). take (size_at faces w h j) (drop (start faces w h j) (set l k t))) e
            ∙ ap (take (size_at faces w h j)) (drop-set-add (start faces w h j) l i t)
            ∙ take-set-le (size_at faces w h j) (drop (start faces w h j) l) i t f
        | no g ↦ ap (take (size_at faces w h j)) (drop-set-lt (start faces w h j) l p t (omega (arith, start-mono faces w h (suc m) j (omega arith))))
      ]

  -- level m with one texel changed
  standing_here : standing faces w h (set l p t) m ≡ set (standing faces w h l m) (p - start faces w h m) t
  unfolding standing
  standing_here =
      let i = p - start faces w h m in
      let e : p ≡ start faces w h m + i = omega arith in
      ap (λ (k : ℕ). take (size_at faces w h m) (drop (start faces w h m) (set l k t))) e
      ∙ ap (take (size_at faces w h m)) (drop-set-add (start faces w h m) l i t)
      ∙ take-set-lt (size_at faces w h m) (drop (start faces w h m) l) i t (omega (arith, start-suc faces w h m))

  due-else : (j i : ℕ) → (j ≡ m → ⊥) → due reduce faces w h (set l p t) j i ≡ due reduce faces w h l j i
  unfolding due
  due-else j i other = rw (standing-else j other)

  due-here : (i : ℕ) → start faces w h (suc m) ≤ i → i < start faces w h (suc (suc m)) → (i ≡ child faces w h m p → ⊥)
      → due reduce faces w h (set l p t) m i ≡ due reduce faces w h l m i
  unfolding due child kid size_at
  due-here i le lt other =
      let size = start-suc faces w h (suc m) in
      rw standing_here
      (next-elsewhere reduce faces (side_at m w) (side_at m h) (standing faces w h l m) (p - start faces w h m) t (side-pos m w) (side-pos m h) (i - start faces w h (suc m))
      (rw (half-side m w, half-side m h) (omega arith))
      (λ e. other (let z : i ≡ start faces w h (suc m) + (i - start faces w h (suc m)) = omega arith in z ∙ ap (λ (k : ℕ). start faces w h (suc m) + k) e ∙ rw (half-side m w, half-side m h))))

-- a chain of n levels above level 0 that follows, and a texel of it, in level m at place p, that is not t
module _ (reduce : ℕ → ℕ → ℕ → ℕ → ℕ) (faces w h : ℕ) (l : List ℕ) (n m p t : ℕ)
    (follows : levels_verdict reduce faces w h l (suc n) ≡ None) (room : start faces w h (suc n) ≤ length l) (level : m ≤ n)
    (from : start faces w h m ≤ p) (before : p < start faces w h (suc m)) (other : t ≡ get_or l p 0 → ⊥) where
  -- every texel above level 0 was the one that is due
  was-due : (j i : ℕ) → j < n → start faces w h (suc j) ≤ i → i < start faces w h (suc (suc j)) → get_or l i 0 ≡ due reduce faces w h l j i
  was-due j i lt le end =
      elim (ℕ_discrete (get_or l i 0) (due reduce faces w h l j i)) [
        | yes e ↦ e
        | no differs ↦ absurd (follows-none reduce faces w h l n follows j i lt (record { from = le; before = end; differs = differs }))
      ]

  -- ONE WRONG TEXEL. A place with a wrong texel is that place, or that of the one texel which is made from it
  pub wrong-where : (j i : ℕ) → j < n → Wrong reduce faces w h (set l p t) j i → (i ≡ p) ⊎ ((j ≡ m) × (i ≡ child faces w h m p))
  wrong-where j i lt x =
      elim (ℕ_discrete i p) [
        | yes e ↦ inl e
        | no apart ↦
            let as_it_was = get_or-set_other l p i t 0 apart ∙ was-due j i lt x.from x.before in
            elim (ℕ_discrete j m) [
              | yes e ↦ inr (
                e,
                elim (ℕ_discrete i (child faces w h m p)) [
                  | yes f ↦ f
                  | no g ↦
                      let x' : Wrong reduce faces w h (set l p t) m i = rw e at x in
                      absurd (x.differs (as_it_was ∙ rw e (sym (due-here reduce faces w h l m p t from before i x'.from x'.before g))))
                ],
              )
              | no g ↦ absurd (x.differs (as_it_was ∙ sym (due-else reduce faces w h l m p t from before j i g)))
            ]
      ]

  -- in which level a place of the chain lies
  same-level : (j : ℕ) → start faces w h j ≤ p → p < start faces w h (suc j) → j ≡ m
  same-level j le lt =
      elim (dec_le j m) [
        | yes a ↦ elim (dec_le m j) [ yes b ↦ omega arith | no g ↦ absurd (omega (arith, start-mono faces w h (suc j) m (omega arith))) ]
        | no g ↦ absurd (omega (arith, start-mono faces w h (suc m) j (omega arith)))
      ]

  -- levels but m and m + 1 follow as they did
  pub others-follow : (j : ℕ) → j ≤ n → (j ≡ m → ⊥) → (j ≡ suc m → ⊥) → level_verdict reduce faces w h (set l p t) j ≡ None
  unfolding level_verdict
  others-follow zero le a b = refl
  others-follow (suc j) le a b =
      no-wrong-level reduce faces w h (set l p t) j λ i x.
      ⊎_elim
      (λ e. a (same-level (suc j) (let f = x.from in omega arith) (let f = x.before in omega arith)))
      (λ e. b (ap suc e.0))
      (wrong-where j i (omega arith) x)

  -- above level 0 the verdict is exactly that place
  pub one-wrong : (k : ℕ) → m ≡ suc k → levels_verdict reduce faces w h (set l p t) (suc n) ≡ Some p
  one-wrong k e =
      let at : start faces w h (suc k) ≤ p = rw e at from in
      let end : p < start faces w h (suc (suc k)) = rw e at before in
      let fits = start-mono faces w h (suc m) (suc n) (omega arith) in
      let apart : k ≡ m → ⊥ = λ z. omega arith in
      smallest-wrong reduce faces w h (set l p t) n p
      (record {
        level = k;
        below = omega arith;
        wrong = record {
          from = at;
          before = end;
          differs = λ z. other (sym (get_or-set_same l p t 0 (omega arith)) ∙ z ∙ due-else reduce faces w h l m p t from before k p apart ∙ sym (was-due k p (omega arith) at end));
        };
        least = λ j i lt x.
            ⊎_elim
            (λ (z : i ≡ p). omega arith)
            (λ (z : (j ≡ m) × (i ≡ child faces w h m p)). let f = x.from in let g : start faces w h (suc j) ≡ start faces w h (suc m) = rw z.0 in omega arith)
            (wrong-where j i lt x);
      })

  -- in level 0 it is yes, or the place of the one texel of level 1 that is made from it
  pub one-wrong-below : m ≡ 0
      → (levels_verdict reduce faces w h (set l p t) (suc n) ≡ None) ⊎ (levels_verdict reduce faces w h (set l p t) (suc n) ≡ Some (child faces w h 0 p))
  one-wrong-below e =
      ⊎_elim
      (λ yes. inl yes)
      (λ some.
      let s = wrong-smallest reduce faces w h (set l p t) n some.0 some.1 in
      let x = s.wrong in
      ⊎_elim
      (λ (z : some.0 ≡ p).
      let f = x.from in
      let g = start-mono faces w h (suc m) (suc s.level) (omega arith) in
      absurd (omega arith))
      (λ z. inr (some.1 ∙ ap Some (z.1 ∙ rw e)))
      (wrong-where s.level some.0 s.below x))
      (verdict-of (levels_verdict reduce faces w h (set l p t) (suc n)))
