-- The nearest-value rule fixes its pattern. A pattern is reached where the root is past the half-way point below it, or on that point and the
-- pattern is even. What is reached stays reached going down, and the nearest pattern is the last that is reached: so there is one, the
-- search by binary digits finds it, and it grows with the root. Assumes nothing.
use mathlib.Core.Path.{◌≡◌, refl, sym, ap, ap₂, ◌∙◌, subst, subst₂}
use Prim.Native.Nat.{ℕ, zero, suc, ◌+◌, ◌-◌, ◌*◌, ◌%◌, ◌^◌, ◌≤◌, ◌<◌, zero-le}
use native.Mathlib.Nat.{le_trans, le_of_eq, le_of_suc-le-suc, le_antisymm, lt_of_lt_of_le, lt_of_not-le, zero-lt-suc, zero-mul, mul_comm, mul_assoc, mul-le-mul_right, mul-le-mul_left, mul-lt-mul_of_pos_right, mul-pos, mul-mul-mul_comm, pow-zero, pow-succ', pow-suc, pow-le-pow_left, pow-lt-pow_left}
use native.Mathlib.Omega.{arith}
use mathlib.Core.Bool.{Bool, true, false, not, cond}
use lib.Dec.{T, leb, ltb, eqb, leb→le, ltb→lt, le→leb, lt→ltb, nltb→le, nleb→lt, T_not, lit≤}
use lib.Arith.{lt→nleb}
use lib.Pow.{pow_pos}
use lib.Ieee.Fits.{and_i, and_l, and_r}
use Rattle.rules.specs.NearestValue.{units, within, nearest_root, reaches, found, root_pattern}
use Rattle.texel.proofs.Units.{units-le, units_lt}

-- the half-way point below b, and the root, in the rule's units
abbrev pub halfway : ℕ → ℕ → ℕ → ℕ
halfway p d b = (units (b - 1) + units b) ^ p * d

abbrev pub number : ℕ → ℕ → ℕ
number p n = (2 ^ 150) ^ p * n

-- ---- what is reached stays reached, going down
at_least : (k : Bool) (l v : ℕ) → T (cond k (leb l v) (ltb l v)) → l ≤ v
at_least true l v t = leb→le l v t
at_least false l v t = le_trans (le-suc-self l) (ltb→lt l v t)
  where
    le-suc-self : (l : ℕ) → l ≤ suc l
    le-suc-self l = omega arith

past : (k : Bool) (l v : ℕ) → l < v → T (cond k (leb l v) (ltb l v))
past true l v h = le→leb l v (omega arith)
past false l v h = lt→ltb l v h

pub reached-le : (p n d b : ℕ) → T (reaches p n d b) → halfway p d b ≤ number p n
unfolding reaches
reached-le p n d b t = at_least (eqb (b % 2) 0) (halfway p d b) (number p n) t

grows : (p d b : ℕ) → 0 < d → halfway (suc p) d b < halfway (suc p) d (b + 1)
grows p d b D =
    let l = units-le (b - 1) b (omega arith) in
    let g = units_lt b (b + 1) (omega arith) in
    let e : b + 1 - 1 ≡ b = omega arith in
    let h : units (b - 1) + units b < units (b + 1 - 1) + units (b + 1) = subst (λ (z : ℕ). units (b - 1) + units b < units z + units (b + 1)) (sym e) (omega arith) in
    mul-lt-mul_of_pos_right (pow-lt-pow_left h (not-zero p)) D
  where
    not-zero : (p : ℕ) → suc p ≡ 0 → ⊥
    not-zero p h = omega arith

reached-below : (p n d b : ℕ) → 0 < d → T (reaches (suc p) n d (b + 1)) → T (reaches (suc p) n d b)
reached-below p n d b D t =
    unfold reaches in past (eqb (b % 2) 0) (halfway (suc p) d b) (number (suc p) n) (lt_of_lt_of_le (grows p d b D) (reached-le (suc p) n d (b + 1) t))

pub reached-down : (p n d b c : ℕ) → 0 < d → b ≤ c → T (reaches (suc p) n d c) → T (reaches (suc p) n d b)
reached-down p n d b c D h t = go (c - b) (subst (λ (z : ℕ). T (reaches (suc p) n d z)) (back b c h) t)
  where
    back : (b c : ℕ) → b ≤ c → c ≡ b + (c - b)
    back b c h = omega arith

    none : (b : ℕ) → b + 0 ≡ b
    none b = omega arith

    more : (b k : ℕ) → b + suc k ≡ b + k + 1
    more b k = omega arith

    go : (k : ℕ) → T (reaches (suc p) n d (b + k)) → T (reaches (suc p) n d b)
    go zero t = subst (λ (z : ℕ). T (reaches (suc p) n d z)) (none b) t
    go (suc k) t = go k (reached-below p n d (b + k) D (subst (λ (z : ℕ). T (reaches (suc p) n d z)) (more b k) t))

-- a larger root reaches as much
reached-more : (p n n' d b : ℕ) → n ≤ n' → T (reaches p n d b) → T (reaches p n' d b)
unfolding reaches
reached-more p n n' d b h t = go (eqb (b % 2) 0) t
  where
    go : (k : Bool) → T (cond k (leb (halfway p d b) (number p n)) (ltb (halfway p d b) (number p n))) → T (cond k (leb (halfway p d b) (number p n')) (ltb (halfway p d b) (number p n')))
    go true t = le→leb (halfway p d b) (number p n') (le_trans (leb→le (halfway p d b) (number p n) t) (mul-le-mul_left ((2 ^ 150) ^ p) h))
    go false t = lt→ltb (halfway p d b) (number p n') (lt_of_lt_of_le (ltb→lt (halfway p d b) (number p n) t) (mul-le-mul_left ((2 ^ 150) ^ p) h))

-- ---- the nearest pattern is the last that is reached
-- parity as a Bool, with what it says
parity : (b : ℕ) → (k : Bool) × ((eqb (b % 2) 0 ≡ k) × (eqb ((b + 1) % 2) 0 ≡ not k))
parity b = go (b % 2) refl (small b)
  where
    small : (b : ℕ) → b % 2 < 2
    small b = omega arith

    next : (b : ℕ) → b % 2 ≡ 0 → (b + 1) % 2 ≡ 1
    next b h = omega arith

    next' : (b : ℕ) → b % 2 ≡ 1 → (b + 1) % 2 ≡ 0
    next' b h = omega arith

    big : (r : ℕ) → suc (suc r) < 2 → ⊥
    big r h = omega arith

    go : (r : ℕ) → b % 2 ≡ r → b % 2 < 2 → (k : Bool) × ((eqb (b % 2) 0 ≡ k) × (eqb ((b + 1) % 2) 0 ≡ not k))
    go zero e h = (true, (ap (λ (z : ℕ). eqb z 0) e, ap (λ (z : ℕ). eqb z 0) (next b e)))
    go (suc zero) e h = (false, (ap (λ (z : ℕ). eqb z 0) e, ap (λ (z : ℕ). eqb z 0) (next' b e)))
    go (suc (suc r)) e h = absurd (big r (subst (λ (z : ℕ). z < 2) e h))

not-le : (a b : ℕ) → T (not (leb a b)) → T (ltb b a)
not-le a b t = lt→ltb b a (nleb→lt a b t)

not-lt : (a b : ℕ) → T (not (ltb a b)) → T (leb b a)
not-lt a b t = le→leb b a (nltb→le a b t)

close : (k : Bool) (l v h : ℕ) → T (cond k (leb l v) (ltb l v)) → T (not (cond (not k) (leb h v) (ltb h v))) → T (within k l v h)
close true l v h a b = and_i (leb l v) (leb v h) a (not-lt h v b)
close false l v h a b = and_i (ltb l v) (ltb v h) a (not-le h v b)

first-side : (k : Bool) (l v h : ℕ) → T (within k l v h) → T (cond k (leb l v) (ltb l v))
first-side true l v h t = and_l (leb l v) (leb v h) t
first-side false l v h t = and_l (ltb l v) (ltb v h) t

second-side : (k : Bool) (l v h : ℕ) → T (within k l v h) → T (cond (not k) (leb h v) (ltb h v)) → ⊥
second-side true l v h t s = let a = leb→le v h (and_r (leb l v) (leb v h) t) in let b = ltb→lt h v s in omega arith
second-side false l v h t s = let a = ltb→lt v h (and_r (ltb l v) (ltb v h) t) in let b = leb→le h v s in omega arith

pub nearest-reached : (p n d b : ℕ) → T (nearest_root p n d b) → T (reaches p n d b)
unfolding reaches nearest_root
nearest-reached p n d b t = first-side (eqb (b % 2) 0) (halfway p d b) (number p n) ((units b + units (b + 1)) ^ p * d) t

before : (b : ℕ) → b + 1 - 1 ≡ b
before b = omega arith

nearest-last : (p n d b : ℕ) → T (nearest_root p n d b) → T (reaches p n d (b + 1)) → ⊥
unfolding reaches nearest_root
nearest-last p n d b t s =
    let k = parity b in
    let h = (units b + units (b + 1)) ^ p * d in
    second-side k.0 (halfway p d b) (number p n) h (subst (λ (z : Bool). T (within z (halfway p d b) (number p n) h)) k.1.0 t)
    (subst₂ (λ (z : Bool) (i : ℕ). T (cond z (leb ((units i + units (b + 1)) ^ p * d) (number p n)) (ltb ((units i + units (b + 1)) ^ p * d) (number p n)))) k.1.1 (before b) s)

last-reached : (p n d b : ℕ) → T (reaches p n d b) → T (not (reaches p n d (b + 1))) → T (nearest_root p n d b)
unfolding reaches nearest_root
last-reached p n d b a c =
    let k = parity b in
    let a' = subst (λ (z : Bool). T (cond z (leb (halfway p d b) (number p n)) (ltb (halfway p d b) (number p n)))) k.1.0 a in
    let c' = subst (λ (z : Bool). T (not (cond z (leb (halfway p d (b + 1)) (number p n)) (ltb (halfway p d (b + 1)) (number p n))))) k.1.1 c in
    let c'' = subst (λ (z : ℕ). T (not (cond (not k.0) (leb ((units z + units (b + 1)) ^ p * d) (number p n)) (ltb ((units z + units (b + 1)) ^ p * d) (number p n))))) (before b) c' in
    subst (λ (z : Bool). T (within z (halfway p d b) (number p n) ((units b + units (b + 1)) ^ p * d))) (sym k.1.0) (close k.0 (halfway p d b) (number p n) ((units b + units (b + 1)) ^ p * d) a' c'')

-- a pattern that is reached is at most the nearest one, and one that is not reached is above it
pub nearest-ge : (p n d b c : ℕ) → 0 < d → T (nearest_root (suc p) n d b) → T (reaches (suc p) n d c) → c ≤ b
nearest-ge p n d b c D t s = le_of_suc-le-suc (lt_of_not-le (λ (l : b < c). nearest-last (suc p) n d b t (reached-down p n d (b + 1) c D (omega arith) s)))

pub nearest-lt : (p n d b c : ℕ) → 0 < d → T (nearest_root (suc p) n d b) → T (not (reaches (suc p) n d c)) → b < c
nearest-lt p n d b c D t s = lt_of_not-le (λ (l : c ≤ b). T_not (reaches (suc p) n d c) s (reached-down p n d c b D l (nearest-reached (suc p) n d b t)))

-- the rule determines the pattern
pub unique : (p n d b c : ℕ) → 0 < d → T (nearest_root (suc p) n d b) → T (nearest_root (suc p) n d c) → b ≡ c
unique p n d b c D s t = le_antisymm (nearest-ge p n d c b D t (nearest-reached (suc p) n d b s)) (nearest-ge p n d b c D s (nearest-reached (suc p) n d c t))

-- and it grows with the root
pub nearest-mono : (p n n' d b c : ℕ) → 0 < d → n ≤ n' → T (nearest_root (suc p) n d b) → T (nearest_root (suc p) n' d c) → b ≤ c
nearest-mono p n n' d b c D h s t = nearest-ge p n' d c b D t (reached-more (suc p) n n' d b h (nearest-reached (suc p) n d b s))

-- ---- the search finds it
-- from a reached b, with b + 2 ^ k not reached
found-nearest : (p n d k b : ℕ) → T (reaches p n d b) → T (not (reaches p n d (b + 2 ^ k))) → T (nearest_root p n d (found p n d k b))
unfolding found
found-nearest p n d zero b a c = last-reached p n d b a c
found-nearest p n d (suc k) b a c = go (λ x y z. found-nearest p n d k x y z) (reaches p n d (b + 2 ^ k)) refl
  where
    twice : (b q r : ℕ) → r ≡ 2 * q → b + r ≡ b + q + q
    twice b q r e = omega arith

    go : ((x : ℕ) → T (reaches p n d x) → T (not (reaches p n d (x + 2 ^ k))) → T (nearest_root p n d (found p n d k x))) → (t : Bool) → reaches p n d (b + 2 ^ k) ≡ t → T (nearest_root p n d (found p n d k (cond (reaches p n d (b + 2 ^ k)) (b + 2 ^ k) b)))
    go ih true e =
        subst (λ (z : Bool). T (nearest_root p n d (found p n d k (cond z (b + 2 ^ k) b)))) (sym e)
        (ih (b + 2 ^ k) (subst T (sym e) tt) (subst (λ (z : ℕ). T (not (reaches p n d z))) (twice b (2 ^ k) (2 ^ suc k) (pow-succ' 2 k)) c))
    go ih false e =
        subst (λ (z : Bool). T (nearest_root p n d (found p n d k (cond z (b + 2 ^ k) b)))) (sym e)
        (ih b a (subst (λ (z : Bool). T (not z)) (sym e) tt))

zero-reached : (p n d : ℕ) → T (reaches (suc p) n d 0)
unfolding reaches
zero-reached p n d = le→leb ((units 0 + units 0) ^ suc p * d) ((2 ^ 150) ^ suc p * n) (le_trans (le_of_eq (ap (λ (z : ℕ). z * d) (pow-suc 0 p ∙ mul_comm (0 ^ p) 0 ∙ zero-mul (0 ^ p)) ∙ zero-mul d)) zero-le)

-- from the top: the root is below the half-way point at 2 ^ 31, which is past every pattern of an f32
top-units : 2 ^ 278 ≤ units (2 ^ 31 - 1) + units (2 ^ 31)
unfolding units
top-units = lit≤ tt

pub mul-pow : (a b q : ℕ) → (a * b) ^ q ≡ a ^ q * b ^ q
mul-pow a b zero = pow-zero (a * b) ∙ sym (ap₂ ◌*◌ (pow-zero a) (pow-zero b))
mul-pow a b (suc q) = pow-suc (a * b) q ∙ ap (λ (z : ℕ). z * (a * b)) (mul-pow a b q) ∙ mul-mul-mul_comm (a ^ q) (b ^ q) a b ∙ sym (ap₂ ◌*◌ (pow-suc a q) (pow-suc b q))

pow-pos' : (a q : ℕ) → 0 < a → 0 < a ^ q
pow-pos' a zero h = subst (λ (z : ℕ). 0 < z) (sym (pow-zero a)) (zero-lt-suc 0)
pow-pos' a (suc q) h = subst (λ (z : ℕ). 0 < z) (sym (pow-suc a q)) (mul-pos (pow-pos' a q h) h)

top-not : (p n d : ℕ) → 0 < d → n < (2 ^ 128) ^ suc p * d → T (not (reaches (suc p) n d (2 ^ 31)))
unfolding reaches
top-not p n d D h =
    lt→nleb ((units (2 ^ 31 - 1) + units (2 ^ 31)) ^ suc p * d) ((2 ^ 150) ^ suc p * n)
    (lt_of_lt_of_le (subst₂ (λ (x y : ℕ). x < y) (mul_comm n ((2 ^ 150) ^ suc p)) (mul_comm ((2 ^ 128) ^ suc p * d) ((2 ^ 150) ^ suc p)) (mul-lt-mul_of_pos_right h (pow-pos' (2 ^ 150) (suc p) (pow_pos 150))))
    (le_trans (le_of_eq (sym (mul_assoc ((2 ^ 150) ^ suc p) ((2 ^ 128) ^ suc p) d) ∙ ap (λ (z : ℕ). z * d) (sym (mul-pow (2 ^ 150) (2 ^ 128) (suc p)))))
    (mul-le-mul_right d (pow-le-pow_left top-units (suc p)))))

pub nearest-found : (p n d : ℕ) → 0 < d → n < (2 ^ 128) ^ suc p * d → T (nearest_root (suc p) n d (root_pattern (suc p) n d))
unfolding root_pattern
nearest-found p n d D h = found-nearest (suc p) n d 31 0 (zero-reached p n d) (top-not p n d D h)
