-- What a refusal number says: 0 exactly when the facts that the call needs hold, and else the first number that is given.
-- For a part X of the arguments: `X-taken`, its number is 0 where the facts hold; `X-facts`, they hold where it is 0;
-- `X-refused`, its number where they do not. Assumes nothing.
use Rattle.rules.specs.Answers.{refused}
use mathlib.Core.Path.{◌≡◌, refl, sym, ◌∙◌}
use mathlib.Core.Bool.{Bool, true, false, not, ◌&&◌, false≢true}
use mathlib.Core.List.{List}
use mathlib.Core.Logic.{◌⊎◌, inl, inr, ⊎_elim}
use Prim.Native.Nat.{ℕ, zero, suc, ◌≤◌, ◌<◌, suc-le-suc}
use native.Mathlib.Omega.{arith}
use borrow.Author.Tests.{leb-true, eqb-true, eqb-false, not-true, le-leb, lt-leb, eq-eqb, ne_eqb}
use lib.Dec.{leb, eqb}
use Rattle.rules.specs.Kinds.{cubemap, faces_of, code_of, kind_of}
use Rattle.rules.specs.Sizes.{top, count}
use Rattle.rules.specs.Pictures.{Picture}
use Rattle.rules.specs.Packing.{packing_code}
use Rattle.rules.specs.Refusals.{◌or_else◌, unless, kind_refusal, side_taken, sides_refusal, buffer_refusal, level_refusal, no_cubemap_refusal, only_cubemap_refusal, face_refusal, mode_refusal, picture_refusal, chain_refusal, mipmaps_refusal, level_sizes_refusal, view_refusal}
use Rattle.rules.specs.Answers.{answer, leaves}

-- ---- the first that is given

pub or_else-zero : (n m : ℕ) → n ≡ 0 → (n or_else m) ≡ m
unfolding ◌or_else◌
or_else-zero n m e = rw e

pub or_else-given : (n m : ℕ) → (n ≡ 0 → ⊥) → (n or_else m) ≡ n
unfolding ◌or_else◌
or_else-given n m e = rw (ne_eqb n 0 e)

-- no refusal by two numbers is none by either
pub or_else-none : (n m : ℕ) → (n or_else m) ≡ 0 → (n ≡ 0) × (m ≡ 0)
or_else-none zero m e = (refl, sym (or_else-zero 0 m refl) ∙ e)
or_else-none (suc n) m e = absurd (omega (arith, or_else-given (suc n) m (λ z. omega arith)))

pub or_else-taken : (n m : ℕ) → n ≡ 0 → m ≡ 0 → (n or_else m) ≡ 0
or_else-taken n m p q = or_else-zero n m p ∙ q

-- a last number that is none
pub or_else-last : (n : ℕ) → (n or_else 0) ≡ n
or_else-last zero = or_else-zero 0 0 refl
or_else-last (suc n) = or_else-given (suc n) 0 (λ z. omega arith)

-- ---- n where the test fails

pub unless-true : (test : Bool) (n : ℕ) → test ≡ true → unless test n ≡ 0
unless-true test n e = rw e

pub unless-false : (test : Bool) (n : ℕ) → test ≡ false → unless test n ≡ n
unless-false test n e = rw e

pub unless-none : (test : Bool) (n : ℕ) → unless test (suc n) ≡ 0 → test ≡ true
unless-none true n e = refl
unless-none false n e = absurd (omega arith)

-- ---- answers, and what a buffer holds

pub answer-given : {A : Type 0} (n : ℕ) (refused : ℕ → A) (given : A) → n ≡ 0 → answer n refused given ≡ given
unfolding answer
answer-given n refused given e = rw e

pub answer-refused : {A : Type 0} (n : ℕ) (refused : ℕ → A) (given : A) → (n ≡ 0 → ⊥) → answer n refused given ≡ refused n
unfolding answer
answer-refused n refused given e = rw (ne_eqb n 0 e)

-- a number is 0 or not
pub none_or_some : (n : ℕ) → (n ≡ 0) ⊎ (n ≡ 0 → ⊥)
none_or_some zero = inl refl
none_or_some (suc n) = inr (λ z. omega arith)

-- what holds of a buffer as found, and as made where nothing is refused
pub by-refusal : (n : ℕ) (found made : List ℕ) (P : List ℕ → Type 0) → P found → ((n ≡ 0) → P made) → P (leaves n found made)
by-refusal n found made P as-found as-made =
    ⊎_elim
    (λ e. rw (answer-given n (λ k. found) made e) (as-made e))
    (λ e. rw (answer-refused n (λ k. found) made e) as-found)
    (none_or_some n)

-- ---- tests

pub and-true : (a b : Bool) → a ≡ true → b ≡ true → (a && b) ≡ true
and-true a b p q = rw (p, q)

pub and_both : (a b : Bool) → (a && b) ≡ true → (a ≡ true) × (b ≡ true)
and_both true b e = (refl, e)
and_both false b e = absurd (false≢true e)

pub test-false : (test : Bool) → (test ≡ true → ⊥) → test ≡ false
test-false true h = absurd (h refl)
test-false false h = refl

-- a test that one number is at most another; that it is below it is the same of its successor
le-taken : {a b : ℕ} (n : ℕ) → a ≤ b → unless (leb a b) n ≡ 0
le-taken {a} {b} n h = unless-true (leb a b) n (le-leb a b h)

le-facts : (a b n : ℕ) → unless (leb a b) (suc n) ≡ 0 → a ≤ b
le-facts a b n e = leb-true a b (unless-none (leb a b) n e)

le-refused : {a b : ℕ} (n : ℕ) → b < a → unless (leb a b) n ≡ n
le-refused {a} {b} n h = unless-false (leb a b) n (lt-leb a b h)

-- ---- 1: kind above 4

pub kind-taken : (kind : ℕ) → kind ≤ 4 → kind_refusal kind ≡ 0
unfolding kind_refusal
kind-taken kind h = le-taken 1 h

pub kind-facts : (kind : ℕ) → kind_refusal kind ≡ 0 → kind ≤ 4
unfolding kind_refusal
kind-facts kind e = le-facts kind 4 0 e

pub kind-refused : (kind : ℕ) → 4 < kind → kind_refusal kind ≡ 1
unfolding kind_refusal
kind-refused kind h = le-refused 1 h

-- a code that is not refused is its kind's
pub kind_coded : (kind : ℕ) → kind ≤ 4 → code_of (kind_of kind) ≡ kind
unfolding kind_of
kind_coded zero h = refl
kind_coded (suc zero) h = refl
kind_coded (suc (suc zero)) h = refl
kind_coded (suc (suc (suc zero))) h = refl
kind_coded (suc (suc (suc (suc zero)))) h = refl
kind_coded (suc (suc (suc (suc (suc kind))))) h = absurd (omega arith)

-- ---- 2: a side is 0 or above 4,096

-- sides 1 to 4,096
pub record Sides (w h : ℕ) : Type 0 where
  pub some-w : 0 < w
  pub some-h : 0 < h
  pub most-w : w ≤ 4096
  pub most-h : h ≤ 4096

side-test : (s : ℕ) → 0 < s → s ≤ 4096 → side_taken s ≡ true
side-test s p q = and-true (leb 1 s) (leb s 4096) (le-leb 1 s p) (le-leb s 4096 q)

side-fact : (s : ℕ) → side_taken s ≡ true → (0 < s) × (s ≤ 4096)
side-fact s e = let b = and_both (leb 1 s) (leb s 4096) e in (leb-true 1 s b.0, leb-true s 4096 b.1)

pub sides-test : (w h : ℕ) → Sides w h → (side_taken w && side_taken h) ≡ true
sides-test w h s = and-true (side_taken w) (side_taken h) (side-test w s.some-w s.most-w) (side-test h s.some-h s.most-h)

pub sides-fact : (w h : ℕ) → (side_taken w && side_taken h) ≡ true → Sides w h
sides-fact w h e =
    let b = and_both (side_taken w) (side_taken h) e in
    let p = side-fact w b.0 in
    let q = side-fact h b.1 in
    record { some-w = p.0; some-h = q.0; most-w = p.1; most-h = q.1 }

pub sides-taken : (w h : ℕ) → Sides w h → sides_refusal w h ≡ 0
unfolding sides_refusal
sides-taken w h s = unless-true (side_taken w && side_taken h) 2 (sides-test w h s)

pub sides-facts : (w h : ℕ) → sides_refusal w h ≡ 0 → Sides w h
unfolding sides_refusal
sides-facts w h e = sides-fact w h (unless-none (side_taken w && side_taken h) 1 e)

pub sides-refused : (w h : ℕ) → (Sides w h → ⊥) → sides_refusal w h ≡ 2
unfolding sides_refusal
sides-refused w h fails = unless-false (side_taken w && side_taken h) 2 (test-false _ (λ t. fails (sides-fact w h t)))

-- ---- 3: a lent buffer is shorter than what is read or filled there

pub buffer-taken : (needed n : ℕ) → needed ≤ n → buffer_refusal needed n ≡ 0
unfolding buffer_refusal
buffer-taken needed n h = le-taken 3 h

pub buffer_facts : (needed n : ℕ) → buffer_refusal needed n ≡ 0 → needed ≤ n
unfolding buffer_refusal
buffer_facts needed n e = le-facts needed n 2 e

pub buffer-refused : (needed n : ℕ) → n < needed → buffer_refusal needed n ≡ 3
unfolding buffer_refusal
buffer-refused needed n h = le-refused 3 h

-- ---- 6: level above the top level

pub level-taken : (w h m : ℕ) → m ≤ top w h → level_refusal w h m ≡ 0
unfolding level_refusal
level-taken w h m le = le-taken 6 le

pub level-facts : (w h m : ℕ) → level_refusal w h m ≡ 0 → m ≤ top w h
unfolding level_refusal
level-facts w h m e = le-facts m (top w h) 5 e

pub level-refused : (w h m : ℕ) → top w h < m → level_refusal w h m ≡ 6
unfolding level_refusal
level-refused w h m lt = le-refused 6 lt

-- ---- 8: the call does not take this kind; or face above 5 for a cubemap, or not 0 for another kind

pub flat-taken : (kind : ℕ) → (kind ≡ cubemap → ⊥) → no_cubemap_refusal kind ≡ 0
unfolding no_cubemap_refusal
flat-taken kind other = rw (ne_eqb kind cubemap other)

pub flat-facts : (kind : ℕ) → no_cubemap_refusal kind ≡ 0 → kind ≡ cubemap → ⊥
unfolding no_cubemap_refusal
flat-facts kind e = eqb-false kind cubemap (not-true (eqb kind cubemap) (unless-none (not (eqb kind cubemap)) 7 e))

pub flat-refused : (kind : ℕ) → kind ≡ cubemap → no_cubemap_refusal kind ≡ 8
unfolding no_cubemap_refusal
flat-refused kind e = rw (eq-eqb kind cubemap e)

pub cube-taken : (kind : ℕ) → kind ≡ cubemap → only_cubemap_refusal kind ≡ 0
unfolding only_cubemap_refusal
cube-taken kind e = rw (eq-eqb kind cubemap e)

pub cube-facts : (kind : ℕ) → only_cubemap_refusal kind ≡ 0 → kind ≡ cubemap
unfolding only_cubemap_refusal
cube-facts kind e = eqb-true kind cubemap (unless-none (eqb kind cubemap) 7 e)

pub cube-refused : (kind : ℕ) → (kind ≡ cubemap → ⊥) → only_cubemap_refusal kind ≡ 8
unfolding only_cubemap_refusal
cube-refused kind other = rw (ne_eqb kind cubemap other)

pub face-taken : (kind f : ℕ) → f < faces_of kind → face_refusal kind f ≡ 0
unfolding face_refusal
face-taken kind f h = le-taken 8 h

pub face-facts : (kind f : ℕ) → face_refusal kind f ≡ 0 → f < faces_of kind
unfolding face_refusal
face-facts kind f e = le-facts (suc f) (faces_of kind) 7 e

pub face-refused : (kind f : ℕ) → faces_of kind ≤ f → face_refusal kind f ≡ 8
unfolding face_refusal
face-refused kind f h = le-refused 8 (suc-le-suc h)

-- ---- 15: packing mode unknown

pub mode-taken : (mode : ℕ) → mode ≤ 1 → mode_refusal mode ≡ 0
unfolding mode_refusal packing_code
mode-taken zero h = refl
mode-taken (suc zero) h = refl
mode-taken (suc (suc mode)) h = absurd (omega arith)

pub mode-refused : (mode : ℕ) → 1 < mode → mode_refusal mode ≡ 15
unfolding mode_refusal packing_code
mode-refused mode h = rw (ne_eqb mode 0 (λ e. omega arith), ne_eqb mode 1 (λ e. omega arith))

pub mode-facts : (mode : ℕ) → mode_refusal mode ≡ 0 → mode ≤ 1
mode-facts zero e = omega arith
mode-facts (suc zero) e = omega arith
mode-facts (suc (suc mode)) e = absurd (omega (arith, mode-refused (suc (suc mode)) (omega arith)))

-- ---- 1, 2: a picture

-- a kind up to 4 and sides 1 to 4,096
pub record Taken (kind w h : ℕ) : Type 0 where
  pub known : kind ≤ 4
  pub some-w : 0 < w
  pub some-h : 0 < h
  pub most-w : w ≤ 4096
  pub most-h : h ≤ 4096

-- of a picture; and its sides alone
pub taken_of : {kind w h : ℕ} {l : List ℕ} → Picture kind w h l → Taken kind w h
taken_of p = record { known = p.known; some-w = p.some-w; some-h = p.some-h; most-w = p.most-w; most-h = p.most-h }

pub sides-of : {kind w h : ℕ} → Taken kind w h → Sides w h
sides-of t = record { some-w = t.some-w; some-h = t.some-h; most-w = t.most-w; most-h = t.most-h }

pub picture-taken : (kind w h : ℕ) → Taken kind w h → picture_refusal kind w h ≡ 0
unfolding picture_refusal
picture-taken kind w h t = or_else-taken _ _ (kind-taken kind t.known) (sides-taken w h (sides-of t))

pub picture-facts : (kind w h : ℕ) → picture_refusal kind w h ≡ 0 → Taken kind w h
unfolding picture_refusal
picture-facts kind w h e =
    let b = or_else-none (kind_refusal kind) (sides_refusal w h) e in
    let s = sides-facts w h b.1 in
    record { known = kind-facts kind b.0; some-w = s.some-w; some-h = s.some-h; most-w = s.most-w; most-h = s.most-h }

-- 1, and 2 of a known kind
pub picture-kind : (kind w h : ℕ) → 4 < kind → picture_refusal kind w h ≡ 1
unfolding picture_refusal
picture-kind kind w h k = let e = kind-refused kind k in or_else-given _ _ (λ z. omega arith) ∙ e

pub picture-sides : (kind w h : ℕ) → kind ≤ 4 → (Sides w h → ⊥) → picture_refusal kind w h ≡ 2
unfolding picture_refusal
picture-sides kind w h k fails = or_else-zero _ _ (kind-taken kind k) ∙ sides-refused w h fails

-- ---- 1, 2, 3: a picture and a buffer of n entries for its chain

pub record Chained (kind w h n : ℕ) : Type 0 where
  pub taken : Taken kind w h
  pub room : count (faces_of kind) w h ≤ n

pub chain-taken : (kind w h n : ℕ) → Chained kind w h n → chain_refusal kind w h n ≡ 0
unfolding chain_refusal
chain-taken kind w h n c = or_else-taken _ _ (picture-taken kind w h c.taken) (buffer-taken _ n c.room)

pub chain-facts : (kind w h n : ℕ) → chain_refusal kind w h n ≡ 0 → Chained kind w h n
unfolding chain_refusal
chain-facts kind w h n e =
    let b = or_else-none (picture_refusal kind w h) (buffer_refusal (count (faces_of kind) w h) n) e in
    record { taken = picture-facts kind w h b.0; room = buffer_facts _ n b.1 }

-- the picture's own number, and 3 of a picture that is taken
pub chain-picture : (kind w h n : ℕ) → (picture_refusal kind w h ≡ 0 → ⊥) → chain_refusal kind w h n ≡ picture_refusal kind w h
unfolding chain_refusal
chain-picture kind w h n given = or_else-given _ _ given

pub chain-short : (kind w h n : ℕ) → Taken kind w h → n < count (faces_of kind) w h → chain_refusal kind w h n ≡ 3
unfolding chain_refusal
chain-short kind w h n t short = or_else-zero _ _ (picture-taken kind w h t) ∙ buffer-refused _ n short

-- ---- 1, 2, 3, 15: the same with a packing mode

pub record Mipmapped (kind w h mode n : ℕ) : Type 0 where
  pub chained : Chained kind w h n
  pub known : mode ≤ 1

pub mipmaps-taken : (kind w h mode n : ℕ) → Mipmapped kind w h mode n → mipmaps_refusal kind w h mode n ≡ 0
unfolding mipmaps_refusal
mipmaps-taken kind w h mode n c = or_else-taken _ _ (chain-taken kind w h n c.chained) (mode-taken mode c.known)

pub mipmaps-facts : (kind w h mode n : ℕ) → mipmaps_refusal kind w h mode n ≡ 0 → Mipmapped kind w h mode n
unfolding mipmaps_refusal
mipmaps-facts kind w h mode n e =
    let b = or_else-none (chain_refusal kind w h n) (mode_refusal mode) e in
    record { chained = chain-facts kind w h n b.0; known = mode-facts mode b.1 }

pub mipmaps-chain : (kind w h mode n : ℕ) → (chain_refusal kind w h n ≡ 0 → ⊥) → mipmaps_refusal kind w h mode n ≡ chain_refusal kind w h n
unfolding mipmaps_refusal
mipmaps-chain kind w h mode n given = or_else-given _ _ given

pub mipmaps-mode : (kind w h mode n : ℕ) → chain_refusal kind w h n ≡ 0 → mipmaps_refusal kind w h mode n ≡ mode_refusal mode
unfolding mipmaps_refusal
mipmaps-mode kind w h mode n none = or_else-zero _ _ none

-- ---- 1, 2, 6: level sizes

pub record Leveled (kind w h m : ℕ) : Type 0 where
  pub taken : Taken kind w h
  pub below : m ≤ top w h

pub sizes-taken : (kind w h m : ℕ) → Leveled kind w h m → level_sizes_refusal kind w h m ≡ 0
unfolding level_sizes_refusal
sizes-taken kind w h m l = or_else-taken _ _ (picture-taken kind w h l.taken) (level-taken w h m l.below)

pub sizes-facts : (kind w h m : ℕ) → level_sizes_refusal kind w h m ≡ 0 → Leveled kind w h m
unfolding level_sizes_refusal
sizes-facts kind w h m e =
    let b = or_else-none (picture_refusal kind w h) (level_refusal w h m) e in
    record { taken = picture-facts kind w h b.0; below = level-facts w h m b.1 }

pub sizes-picture : (kind w h m : ℕ) → (picture_refusal kind w h ≡ 0 → ⊥) → level_sizes_refusal kind w h m ≡ picture_refusal kind w h
unfolding level_sizes_refusal
sizes-picture kind w h m given = or_else-given _ _ given

pub sizes-level : (kind w h m : ℕ) → Taken kind w h → top w h < m → level_sizes_refusal kind w h m ≡ 6
unfolding level_sizes_refusal
sizes-level kind w h m t above = or_else-zero _ _ (picture-taken kind w h t) ∙ level-refused w h m above

-- ---- 1, 2, 3, 8, 6: the level view

pub record Viewed (kind w h n m f : ℕ) : Type 0 where
  pub chained : Chained kind w h n
  pub face : f < faces_of kind
  pub below : m ≤ top w h

pub view-taken : (kind w h n m f : ℕ) → Viewed kind w h n m f → view_refusal kind w h n m f ≡ 0
unfolding view_refusal
view-taken kind w h n m f v =
    or_else-taken _ _ (chain-taken kind w h n v.chained) (or_else-taken _ _ (face-taken kind f v.face) (level-taken w h m v.below))

pub view-facts : (kind w h n m f : ℕ) → view_refusal kind w h n m f ≡ 0 → Viewed kind w h n m f
unfolding view_refusal
view-facts kind w h n m f e =
    let b = or_else-none (chain_refusal kind w h n) (face_refusal kind f or_else level_refusal w h m) e in
    let d = or_else-none (face_refusal kind f) (level_refusal w h m) b.1 in
    record { chained = chain-facts kind w h n b.0; face = face-facts kind f d.0; below = level-facts w h m d.1 }

pub view-chain : (kind w h n m f : ℕ) → (chain_refusal kind w h n ≡ 0 → ⊥) → view_refusal kind w h n m f ≡ chain_refusal kind w h n
unfolding view_refusal
view-chain kind w h n m f given = or_else-given _ _ given

pub view-face : (kind w h n m f : ℕ) → Chained kind w h n → faces_of kind ≤ f → view_refusal kind w h n m f ≡ 8
unfolding view_refusal
view-face kind w h n m f c above =
    let e = face-refused kind f above in
    or_else-zero _ _ (chain-taken kind w h n c) ∙ or_else-given _ _ (λ z. omega arith) ∙ e

pub view-level : (kind w h n m f : ℕ) → Chained kind w h n → f < faces_of kind → top w h < m → view_refusal kind w h n m f ≡ 6
unfolding view_refusal
view-level kind w h n m f c face above =
    or_else-zero _ _ (chain-taken kind w h n c) ∙ or_else-zero _ _ (face-taken kind f face) ∙ level-refused w h m above
