-- What `find_map` over the numbers 0 to n gives, of a closure that answers V and stays as it is: the first of V's answers; of the levels'
-- verdicts the chain's. Assumes nothing.
use Rattle.std.specs.Prelude.{Option, Some, None, MatchOption, IfSome, IsSomeAnd, IsTrue}
use Rattle.std.specs.Option.{option_map}
use Rattle.std.specs.Fn.{Called}
use Rattle.std.specs.Range.{range_inclusive_start, range_inclusive_end, range_inclusive_exhausted}
use Rattle.std.specs.declared.ops.RangeInclusive.{RangeInclusive}
use Rattle.std.specs.Iterator.Runs.{Run, SomeRun, ItemsCountUp, AllItemsGive, IsFirstToGive, CallKeepsClosure}
use Rattle.std.proofs.iter.runs.Sources.{nat_range_inclusive_steps, inclusive_listed}
use denote.Param.Members.{Mut}
use Rattle.rules.specs.Checks.{level_verdict, levels_verdict}
use Rattle.rules.proofs.Checks.{levels-none, levels-more, levels-stop}
use mathlib.Core.Bool.{false}
use mathlib.Core.List.{List}
use mathlib.Core.Path.{◌≡◌, sym, ap, ◌∙◌}
use Prim.Native.Nat.{ℕ, suc, ◌+◌, ◌<◌}
use native.Mathlib.Omega.{arith}

-- where item o is k, C holds of k
at-item : (C : ℕ → Type 0) (o : Option ℕ) (k : ℕ) → option_map (λ y. y) o ≡ Some (0 + k) → IfSome o C → C k
at-item C None k e h = absurd (cc)
at-item C (Some x) k e h =
    let same : x ≡ k = let s : x ≡ 0 + k = cc in omega arith in
    rw same at h

some-item : (C : ℕ → Type 0) (o : Option ℕ) → IsSomeAnd o C → IfSome o C
some-item C None h = elim h [ ]
some-item C (Some x) h = h

module _ {F : Type 0} {g : Mut F (ℕ × Unit {0}) (Option ℕ)} {f : F} (V : ℕ → Option ℕ) (keeps : CallKeepsClosure g f) (tells : (x : ℕ) (r : Option ℕ) → Called g f (x, tt) r f → r ≡ V x) where
  pub first_mapped : (levels : RangeInclusive ℕ) (n : ℕ) (r : Option ℕ)
      → range_inclusive_start levels ≡ 0 → range_inclusive_end levels ≡ n → range_inclusive_exhausted levels ≡ false
      → SomeRun nat_range_inclusive_steps levels (λ p. MatchOption r (IsTrue p.whole × AllItemsGive p g f None) (λ y. (i : ℕ) × (i < p.len) × (p.len ≡ i + 1) × IsFirstToGive p g f (Some y) None i))
      → MatchOption r ((k : ℕ) → k < n + 1 → V k ≡ None) (λ y. (i : ℕ) × (i < n + 1) × (V i ≡ Some y) × ((k : ℕ) → k < i → V k ≡ None))
  first_mapped levels n r start end fresh s = ends r s.2
    where
      p : Run nat_range_inclusive_steps
      p = s.0

      counted : ItemsCountUp p 0 (n + 1)
      counted =
          let l = inclusive_listed p p.seen in
          let a : l.0 ≡ 0 = l.2 ∙ ap (λ (i : RangeInclusive ℕ). range_inclusive_start i) s.1 ∙ start in
          let b : l.1 ≡ n + 1 = l.3 ∙ ap (λ (i : RangeInclusive ℕ). range_inclusive_end i + 1) s.1 ∙ ap (λ (m : ℕ). m + 1) end in
          rw (a, b) at (l.4 (ap (λ (i : RangeInclusive ℕ). range_inclusive_exhausted i) s.1 ∙ fresh)).0

      none : (k : ℕ) → k < p.len → IfSome (p.at k) (λ x. Called g f (x, tt) None f) → V k ≡ None
      none k lt h = sym (tells k None (at-item (λ x. Called g f (x, tt) None f) (p.at k) k (counted.3 k lt) h))

      ends : (o : Option ℕ) → MatchOption o (IsTrue p.whole × AllItemsGive p g f None) (λ y. (i : ℕ) × (i < p.len) × (p.len ≡ i + 1) × IsFirstToGive p g f (Some y) None i)
          → MatchOption o ((k : ℕ) → k < n + 1 → V k ≡ None) (λ y. (i : ℕ) × (i < n + 1) × (V i ≡ Some y) × ((k : ℕ) → k < i → V k ≡ None))
      ends None h = let long = counted.1 h.0 in λ k lt. none k (omega arith) (h.1 keeps k)
      ends (Some y) h =
          let i = h.0 in
          let first = h.3 keeps in (
            i,
            omega (arith, counted.0, h.1),
            sym (tells i (Some y) (at-item (λ x. Called g f (x, tt) (Some y) f) (p.at i) i (counted.3 i h.1) (some-item _ (p.at i) first.0))),
            λ k lt. none k (omega (arith, h.1)) (some-item _ (p.at k) (first.1 k lt)),
          )

pub first_verdict : (reduce : ℕ → ℕ → ℕ → ℕ → ℕ) (faces w h : ℕ) (l : List ℕ) (n : ℕ) (r : Option ℕ)
    → (let V = level_verdict reduce faces w h l in
    MatchOption r ((k : ℕ) → k < n → V k ≡ None) (λ y. (i : ℕ) × (i < n) × (V i ≡ Some y) × ((k : ℕ) → k < i → V k ≡ None)))
    → r ≡ levels_verdict reduce faces w h l n
first_verdict reduce faces w h l n None all = sym (levels-none reduce faces w h l n all)
first_verdict reduce faces w h l n (Some y) f =
    sym (levels-stop reduce faces w h l (suc f.0) n y (levels-more reduce faces w h l f.0 (levels-none reduce faces w h l f.0 f.3) ∙ f.2) (omega (arith, f.1)))
