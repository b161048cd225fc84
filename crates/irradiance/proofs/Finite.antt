-- No coefficient is a nan or an infinity, for every picture that the call takes. A term is at most 2 in magnitude, and 2 ^ 26 + 2 rounds to
-- 2 ^ 26: so the sums stay within 2 ^ 26 however many terms they get, and times the constants within 2 ^ 27. Assumes nothing.
use Rattle.rules.specs.declared.Refusal.{Refusal}
use Rattle.std.specs.Prelude.{Err, Result}
use Rattle.std.specs.Prelude.{Ok}
use Rattle.rules.specs.Answers.{refused}
use mathlib.Core.List.{List}
use mathlib.Core.Logic.{⊎_elim}
use Prim.Native.Nat.{ℕ, ◌+◌, ◌*◌, ◌<◌}
use lib.Dec.{T}
use lib.ListN.{length, get_or}
use lib.Ieee.{Float, binary32, neg, add, mul, div, le, of_bits}
use lib.Ieee.Scale.{finite}
use lib.Ieee.Positive.{positive}
use Rattle.rules.specs.declared.Rgb.{Rgb}
use Rattle.rules.specs.declared.Basis.{Basis}
use Rattle.rules.specs.Irradiance.{Sh4}
use Rattle.rules.specs.Floats.{zero32, one32, two32}
use Rattle.rules.specs.Levels.{texel}
use Rattle.rules.specs.Irradiance.{pi32, basis0, basis1, two_thirds, gets, all_get, with_texel, black, unlit, sums_of, times_both, folded_of, irradiance_of}
use Rattle.rules.specs.Refusals.{irradiance_refusal}
use Rattle.rules.specs.Answers.{irradiance_answer}
use Rattle.rules.proofs.Refusing.{Sides, none_or_some, answer-given, answer-refused}
use Rattle.rules.proofs.RefusingIrradiance.{light-facts}
use Rattle.texel.proofs.Range.{in-add}
use Rattle.texel.proofs.Magnitudes.{Within, within-self, within-finite, within_wider, within-mul}
use Rattle.irradiance.proofs.Each.{OnBasis, EachOf, AllOf, all_map}
use Rattle.irradiance.proofs.Terms.{place-within, colour-within, term-within}
use Rattle.irradiance.proofs.Turns.{sums-keep}

-- each entry is a 32-bit number
abbrev pub Words : List ℕ → Type 0
Words l = (i : ℕ) → get_or l i 0 < 4294967296

-- 2 ^ 26 and 2 ^ 27
abbrev pub high26 : Float
high26 = of_bits binary32 0x4c800000

abbrev pub high27 : Float
high27 = of_bits binary32 0x4d000000

-- ---- the sums
more_within : (s t : Float) → Within high26 s → Within two32 t → Within high26 (add binary32 s t)
unfolding of_bits neg add
more_within s t p q = in-add binary32 (neg high26) s high26 (neg two32) t two32 tt tt tt tt p q

gets-within : {s c : Rgb} {k : Float} → EachOf (Within high26) s → EachOf (Within one32) c → Within two32 k → EachOf (Within high26) (gets s c k)
unfolding gets
gets-within {s} {c} {k} p q b = record { r = part s.r c.r p.r q.r; g = part s.g c.g p.g q.g; b = part s.b c.b p.b q.b }
  where
    part : (s c : Float) → Within high26 s → Within one32 c → Within high26 (add binary32 s (mul binary32 c k))
    part s c p q = more_within s (mul binary32 c k) p (term-within c k q b)

all-get-within : {c : Rgb} {k : Basis Float} {s : Sh4} → EachOf (Within one32) c → OnBasis (Within two32) k → AllOf (Within high26) s → AllOf (Within high26) (all_get c k s)
unfolding all_get
all-get-within q b p = record {
  constant = gets-within p.constant q b.constant;
  y = gets-within p.y q b.y;
  z = gets-within p.z q b.z;
  x = gets-within p.x q b.x;
}

unlit-within : AllOf (Within high26) unlit
unfolding of_bits neg le
unlit-within =
    let z : Within high26 zero32 = record { low = tt; high = tt } in
    let e : EachOf (Within high26) black = record { r = z; g = z; b = z } in
    record { constant = e; y = e; z = e; x = e }

pub sums-within : (w h : ℕ) (l : List ℕ) → Sides w h → Words l → AllOf (Within high26) (sums_of w h l)
unfolding with_texel texel
sums-within w h l s k =
    sums-keep (AllOf (Within high26)) w h l
    (λ f y x a b c t p. all-get-within (colour-within (texel w h l f x y) (k ((f * h + y) * w + x))) (place-within w h f x y s c b) p)
    unlit-within

-- ---- times the constants: 2 ^ 26 * a * b is at most 2 ^ 27
abbrev times : Float → Float → Float → Float
times a b x = mul binary32 (mul binary32 x a) b

module _ (a b : Float) (A : T (positive a)) (B : T (positive b)) (P : T (positive (mul binary32 high26 a))) (Q : T (positive (times a b high26))) (l : T (le (times a b high26) high27)) where
  both-within : (x : Float) → Within high26 x → Within high27 (times a b x)
  unfolding of_bits
  both-within x h =
      within_wider (times a b high26) high27 (times a b x) Q tt l
      (within-mul binary32 (mul binary32 high26 a) (mul binary32 x a) b b P B (within-mul binary32 high26 x a a tt A h (within-self a A)) (within-self b B))

  times-within : (c : Rgb) → EachOf (Within high26) c → EachOf (Within high27) (times_both a b c)
  unfolding times_both
  times-within c k = record { r = both-within c.r k.r; g = both-within c.g k.g; b = both-within c.b k.b }

folded-within : (s : Sh4) → AllOf (Within high26) s → AllOf (Within high27) (folded_of s)
unfolding folded_of of_bits mul div le
folded-within s k =
    record {
      constant = times-within pi32 basis0 tt tt tt tt tt s.constant k.constant;
      y = times-within two_thirds basis1 tt tt tt tt tt s.y k.y;
      z = times-within two_thirds basis1 tt tt tt tt tt s.z k.z;
      x = times-within two_thirds basis1 tt tt tt tt tt s.x k.x;
    }

-- ---- the coefficients
pub coefficients-within : (w h : ℕ) (l : List ℕ) → Sides w h → Words l → AllOf (Within high27) (irradiance_of w h l)
unfolding irradiance_of
coefficients-within w h l s k = folded-within (sums_of w h l) (sums-within w h l s k)

pub coefficients-finite : (w h : ℕ) (l : List ℕ) → Sides w h → Words l → AllOf (λ x. T (finite x)) (irradiance_of w h l)
unfolding of_bits
coefficients-finite w h l s k =
    let f : (x : Float) → Within high27 x → T (finite x) = λ x p. within-finite high27 x tt p in
    all_map f (coefficients-within w h l s k)

-- ---- and what the call answers, for every input
abbrev pub FiniteAnswer : Result Sh4 Refusal → Type 0
FiniteAnswer (Ok s) = AllOf (λ x. T (finite x)) s
FiniteAnswer (Err refusal) = Unit

pub answer-finite : (kind w h : ℕ) (l : List ℕ) → Words l → FiniteAnswer (irradiance_answer kind w h l)
unfolding irradiance_answer
answer-finite kind w h l k =
    let n = irradiance_refusal kind w h (length l) in
    ⊎_elim
    (λ e. rw (answer-given n refused (Ok (irradiance_of w h l)) e) (coefficients-finite w h l (light-facts kind w h (length l) e).sides k))
    (λ e. rw (answer-refused n refused (Ok (irradiance_of w h l)) e) tt)
    (none_or_some n)
