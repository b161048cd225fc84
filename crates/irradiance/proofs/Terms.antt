-- What a texel adds to a sum has a magnitude of at most 2. The texel's size is at most 4 and its divisor at least 1, so its weight is at most 4; a
-- direction's components are at most 1, and stay so when they are divided by a root from 1 up; 0.488603 * 4 is below 2; and a colour lies
-- from 0 to 1. Assumes nothing.
use mathlib.Core.Bool.{Bool, true, false, cond}
use Prim.Native.Nat.{ℕ, ◌≤◌, ◌<◌}
use native.Mathlib.Nat.{zero-lt-suc, mul-le-mul_right}
use native.Mathlib.Omega.{arith}
use lib.Dec.{eqb}
use lib.Ieee.{Float, binary32, fits, round, neg, mul, div, le, of_int, of_bits}
use lib.Ieee.Order.{round_mono}
use Rattle.rules.specs.declared.Vector.{Vector}
use Rattle.rules.specs.Kinds.{red_of, green_of, blue_of}
use Rattle.rules.specs.Floats.{Between, zero32, one32, minus1, two32, four32, float}
use Rattle.rules.specs.Root.{sqrt_of}
use Rattle.rules.specs.Curve.{curve}
use Rattle.rules.specs.Irradiance.{three32, basis0, basis1, omega_of, centre_of, distance_of, weight_of, towards, divided_by, basis_of, place_basis, decoded_of}
use Rattle.rules.proofs.Refusing.{Sides}
use Rattle.texel.proofs.Magnitudes.{Within, within-self, wider, within-neg, within_wider, within-mul, within-div, in-mul-from}
use Rattle.texel.proofs.RootRule.{root-from-one}
use Rattle.texel.proofs.Inverse.{curve-in}
use Rattle.irradiance.proofs.Spans.{centre-in, distance_in}
use Rattle.irradiance.proofs.Each.{Along, OnBasis, EachOf}

-- ---- the texel's size, and its weight
side-in : (s : ℕ) → 0 < s → s ≤ 4096 → Between one32 (float s) (float 4096)
unfolding of_int of_bits round
side-in s h l = record { low = round_mono binary32 1 1 s 1 (zero-lt-suc 0) (zero-lt-suc 0) (mul-le-mul_right 1 h); high = round_mono binary32 s 1 4096 1 (zero-lt-suc 0) (zero-lt-suc 0) (mul-le-mul_right 1 l) }

two-over : (s : ℕ) → 0 < s → s ≤ 4096 → Within two32 (div binary32 two32 (float s))
unfolding of_int of_bits round fits
two-over s h l = within-div binary32 two32 two32 (float s) (float 4096) tt tt tt (side-in s h l) (within-self two32 tt)

pub omega-within : (w h : ℕ) → Sides w h → Within four32 (omega_of w h)
unfolding omega_of of_bits mul
omega-within w h s =
    within-mul binary32 two32 (div binary32 two32 (float w)) two32 (div binary32 two32 (float h)) tt tt
    (two-over w s.some-w s.most-w) (two-over h s.some-h s.most-h)

pub root-in-two : (d : Float) → Between one32 d three32 → Between one32 (sqrt_of d) two32
unfolding of_bits le
root-in-two d b = root-from-one d (wider one32 d three32 one32 four32 tt tt tt tt tt tt b)

divisor-in : (d : Float) → Between one32 d three32 → Between one32 (mul binary32 d (sqrt_of d)) (mul binary32 three32 two32)
unfolding of_bits le mul
divisor-in d b = in-mul-from binary32 one32 d three32 one32 (sqrt_of d) two32 tt tt tt tt tt tt b (root-in-two d b)

pub weight-within : (omega d : Float) → Within four32 omega → Between one32 d three32 → Within four32 (weight_of omega d)
unfolding weight_of of_bits fits mul
weight-within omega d o b = within-div binary32 four32 omega (mul binary32 d (sqrt_of d)) (mul binary32 three32 two32) tt tt tt (divisor-in d b) o

-- ---- a direction
either : {A : Type 0} (P : A → Type 0) (b : Bool) (x y : A) → P x → P y → P (cond b x y)
either P true x y p q = p
either P false x y p q = q

pub towards-within : (f : ℕ) (u v : Float) → Within one32 u → Within one32 v → Along (Within one32) (towards f u v)
unfolding towards of_bits
towards-within f u v p q =
    let P = Along (Within one32) in
    let p' = within-neg one32 u p in
    let q' = within-neg one32 v q in
    let o = within-self one32 tt in
    let o' = within-neg one32 one32 o in
    either P (eqb f 0) _ _ (record { x = o; y = q'; z = p' })
    (either P (eqb f 1) _ _ (record { x = o'; y = q'; z = p })
    (either P (eqb f 2) _ _ (record { x = p; y = o; z = q })
    (either P (eqb f 3) _ _ (record { x = p; y = o'; z = q' })
    (either P (eqb f 4) _ _ (record { x = p; y = q'; z = o }) (record { x = p'; y = q'; z = o' })))))

pub divided-within : (r : Float) (n : Vector Float) → Between one32 r two32 → Along (Within one32) n → Along (Within one32) (divided_by r n)
unfolding divided_by
divided-within r n b k = record { x = part n.x k.x; y = part n.y k.y; z = part n.z k.z }
  where
    part : (x : Float) → Within one32 x → Within one32 (div binary32 x r)
    part x h = unfold of_bits fits in within-div binary32 one32 x r two32 tt tt tt b h

-- ---- the basis times the weight
pub basis-within : (n : Vector Float) (weight : Float) → Along (Within one32) n → Within four32 weight → OnBasis (Within two32) (basis_of n weight)
unfolding basis_of
basis-within n weight k b = record { constant = first; y = part n.y k.y; z = part n.z k.z; x = part n.x k.x }
  where
    first : Within two32 (mul binary32 basis0 weight)
    first =
        unfold of_bits mul le in
        within_wider (mul binary32 basis0 four32) two32 (mul binary32 basis0 weight) tt tt tt
        (within-mul binary32 basis0 basis0 four32 weight tt tt (within-self basis0 tt) b)

    part : (x : Float) → Within one32 x → Within two32 (mul binary32 (mul binary32 basis1 x) weight)
    part x h =
        unfold of_bits mul le in
        within_wider (mul binary32 basis1 four32) two32 (mul binary32 (mul binary32 basis1 x) weight) tt tt tt
        (within-mul binary32 basis1 (mul binary32 basis1 x) four32 weight tt tt
        (within-mul binary32 basis1 basis1 one32 x tt tt (within-self basis1 tt) h) b)

pub place-within : (w h f x y : ℕ) → Sides w h → x < w → y < h → OnBasis (Within two32) (place_basis (omega_of w h) f (centre_of w x) (centre_of h y))
unfolding place_basis
place-within w h f x y s p q =
    let u = centre_of w x in
    let v = centre_of h y in
    let a = centre-in w x p s.most-w in
    let b = centre-in h y q s.most-h in
    let d = distance_of u v in
    let r = distance_in u v a b in
    basis-within (divided_by (sqrt_of d) (towards f u v)) (weight_of (omega_of w h) d)
    (divided-within (sqrt_of d) (towards f u v) (root-in-two d r) (towards-within f u v a b)) (weight-within (omega_of w h) d (omega-within w h s) r)

-- ---- a colour, and its part of a sum
byte-within : (k : ℕ) → k < 256 → Within one32 (curve k)
unfolding of_bits neg le
byte-within k h = wider zero32 (curve k) one32 minus1 one32 tt tt tt tt tt tt (curve-in k h)

pub colour-within : (t : ℕ) → t < 4294967296 → EachOf (Within one32) (decoded_of t)
unfolding decoded_of
colour-within t h = record { r = byte-within (red_of t) (omega arith); g = byte-within (green_of t) (omega arith); b = byte-within (blue_of t) (omega arith) }

pub term-within : (c k : Float) → Within one32 c → Within two32 k → Within two32 (mul binary32 c k)
unfolding of_bits mul
term-within c k p q = within-mul binary32 one32 c two32 k tt tt p q
