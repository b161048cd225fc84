-- A black cubemap gives exactly twelve +0, at every size and with any alpha. The value of byte 0 is +0, +0 times a finite number is a zero of
-- either sign, and +0 and such a zero add up to +0: so every texel keeps the sums as they start, and +0 times the constants is +0. Assumes nothing.
use Rattle.std.specs.Prelude.{Ok}
use Rattle.rules.specs.Answers.{refused}
use mathlib.Core.Path.{◌≡◌, refl, ap, ◌∙◌}
use mathlib.Core.Bool.{Bool, true, false}
use mathlib.Core.List.{List}
use Prim.Native.Nat.{ℕ, ◌+◌, ◌*◌, ◌<◌}
use native.Mathlib.Nat.{zero-lt-suc, mul-pos}
use native.Mathlib.Omega.{arith}
use lib.Dec.{T}
use lib.ListN.{length, get_or}
use lib.Ieee.{Float, binary32, unlike, round, sum, add, mul, div, of_bits}
use lib.Ieee.Scale.{finite, round_same}
use lib.Ieee.Positive.{num, den, den_pos}
use Rattle.rules.specs.declared.Basis.{Basis}
use Rattle.rules.specs.Floats.{zero32, two32}
use Rattle.rules.specs.Kinds.{red_of, green_of, blue_of}
use Rattle.rules.specs.Levels.{texel}
use Rattle.rules.specs.Irradiance.{omega_of, centre_of, place_basis, decoded_of, gets, all_get, with_texel, black, unlit, sums_of, times_both, folded_of, irradiance_of}
use Rattle.rules.specs.Refusals.{irradiance_refusal}
use Rattle.rules.specs.Answers.{irradiance_answer}
use Rattle.rules.proofs.Grid.{place-lt}
use Rattle.rules.proofs.Refusing.{Sides, answer-given}
use Rattle.rules.proofs.RefusingIrradiance.{light-facts}
use Rattle.texel.proofs.Range.{sgn, mul_is}
use Rattle.texel.proofs.Magnitudes.{Within, within-finite}
use Rattle.texel.proofs.Inverse.{curve-zero}
use Rattle.irradiance.proofs.Each.{OnBasis, basis-map}
use Rattle.irradiance.proofs.Terms.{place-within}
use Rattle.irradiance.proofs.Turns.{sums-keep}

-- a black texel, of any alpha
pub record BlackTexel (t : ℕ) : Type 0 where
  pub red : red_of t ≡ 0
  pub green : green_of t ≡ 0
  pub blue : blue_of t ≡ 0

-- all six faces
abbrev pub AllBlack : ℕ → ℕ → List ℕ → Type 0
AllBlack w h l = (i : ℕ) → i < 6 * h * w → BlackTexel (get_or l i 0)

-- ---- +0 + (+0) * k
nought-times : (k : Float) → T (finite k) → mul binary32 zero32 k ≡ round binary32 (unlike false (sgn k)) 0 1
unfolding of_bits
nought-times k p =
    let s = unlike false (sgn k) in
    mul_is binary32 zero32 k tt p ∙ round_same binary32 s (0 * num k) (1 * den k) 0 1 (mul-pos (zero-lt-suc 0) (den_pos k)) (zero-lt-suc 0) (omega arith)

nought-more : (s : Bool) → add binary32 zero32 (round binary32 s 0 1) ≡ zero32
unfolding of_bits round add sum
nought-more true = refl
nought-more false = refl

nought-get : (k : Float) → T (finite k) → add binary32 zero32 (mul binary32 zero32 k) ≡ zero32
nought-get k p = rw (nought-times k p) (nought-more (unlike false (sgn k)))

-- ---- a black texel keeps the sums
black-gets : (k : Float) → T (finite k) → gets black black k ≡ black
unfolding gets
black-gets k p = rw (nought-get k p)

unlit-gets : (k : Basis Float) → OnBasis (λ x. T (finite x)) k → all_get black k unlit ≡ unlit
unfolding all_get
unlit-gets k p = rw (black-gets k.constant p.constant, black-gets k.y p.y, black-gets k.z p.z, black-gets k.x p.x)

black-decoded : (t : ℕ) → BlackTexel t → decoded_of t ≡ black
unfolding decoded_of
black-decoded t b = rw (b.red, b.green, b.blue, curve-zero)

place-finite : (w h f x y : ℕ) → Sides w h → x < w → y < h → OnBasis (λ z. T (finite z)) (place_basis (omega_of w h) f (centre_of w x) (centre_of h y))
unfolding of_bits
place-finite w h f x y s a b =
    let g : (z : Float) → Within two32 z → T (finite z) = λ z p. within-finite two32 z tt p in
    basis-map g (place-within w h f x y s a b)

black-kept : (w h : ℕ) (l : List ℕ) (f x y : ℕ) → Sides w h → x < w → y < h → BlackTexel (get_or l ((f * h + y) * w + x) 0) → with_texel w h l f y x unlit ≡ unlit
unfolding with_texel texel
black-kept w h l f x y s a b k = rw (black-decoded (get_or l ((f * h + y) * w + x) 0) k) (unlit-gets (place_basis (omega_of w h) f (centre_of w x) (centre_of h y)) (place-finite w h f x y s a b))

pub black-sums : (w h : ℕ) (l : List ℕ) → Sides w h → AllBlack w h l → sums_of w h l ≡ unlit
black-sums w h l s k = sums-keep (λ t. t ≡ unlit) w h l (λ f y x a b c t e. ap (with_texel w h l f y x) e ∙ black-kept w h l f x y s c b (k ((f * h + y) * w + x) (place-lt a c b))) refl

-- ---- twelve times +0
folded-unlit : folded_of unlit ≡ unlit
unfolding folded_of times_both of_bits mul div
folded-unlit = refl

pub black-coefficients : (w h : ℕ) (l : List ℕ) → Sides w h → AllBlack w h l → irradiance_of w h l ≡ unlit
unfolding irradiance_of
black-coefficients w h l s k = ap folded_of (black-sums w h l s k) ∙ folded-unlit

pub black-answer : (kind w h : ℕ) (l : List ℕ) → irradiance_refusal kind w h (length l) ≡ 0 → AllBlack w h l → irradiance_answer kind w h l ≡ Ok unlit
unfolding irradiance_answer
black-answer kind w h l e k = answer-given (irradiance_refusal kind w h (length l)) refused (Ok (irradiance_of w h l)) e ∙ ap Ok (black-coefficients w h l (light-facts kind w h (length l) e).sides k)
