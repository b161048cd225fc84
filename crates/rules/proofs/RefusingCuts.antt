-- What the refusal numbers of the cut and of the cross say: 0 exactly when the facts hold, and else the first number that is
-- given. The test of an aligned cut is taken apart here once. Assumes nothing.
use mathlib.Core.Path.{◌≡◌, ◌∙◌}
use mathlib.Core.Bool.{true}
use Prim.Native.Nat.{ℕ, ◌+◌, ◌*◌, ◌%◌, ◌^◌, ◌≤◌, ◌<◌}
use native.Mathlib.Omega.{arith}
use borrow.Author.Tests.{leb-true, ltb-true, eqb-true, le-leb, lt-ltb, eq-eqb}
use Rattle.rules.specs.declared.Pair.{Pair}
use Rattle.rules.specs.Kinds.{cubemap, faces_of}
use Rattle.rules.specs.Cuts.{aligned, cut_taken, CutAt}
use Rattle.rules.specs.Cross.{cross_width, cross_height}
use Rattle.rules.specs.Refusals.{◌or_else◌, buffer_refusal, no_cubemap_refusal, cross_sides_refusal, cut_refusal, picture_refusal, cut_call_refusal, cross_refusal}
use Rattle.rules.proofs.Refusing.{or_else-zero, or_else-given, or_else-none, or_else-taken, unless-true, unless-false, unless-none, and_both, test-false, Sides, sides-test, sides-fact, buffer-taken, buffer_facts, buffer-refused, flat-taken, flat-facts, flat-refused, Taken, picture-taken, picture-facts}

-- ---- 11: cut order k above 12, a side 0, corner or side not a multiple of 2^k, or not wholly inside

pub record Cutting (k w h cx cy cw ch : ℕ) : Type 0 where
  pub order : k ≤ 12
  pub at : CutAt k w h cx cy cw ch

multiple : (k n : ℕ) → n % 2 ^ k ≡ 0 → aligned k n ≡ true
multiple k n e = eq-eqb (n % 2 ^ k) 0 e

pub cutting-test : (k w h cx cy cw ch : ℕ) → Cutting k w h cx cy cw ch → cut_taken k w h cx cy cw ch ≡ true
unfolding cut_taken
cutting-test k w h cx cy cw ch c =
    let a = c.at in
    rw (
      le-leb k 12 c.order,
      lt-ltb 0 cw a.some-w,
      lt-ltb 0 ch a.some-h,
      multiple k cx a.corner-x,
      multiple k cy a.corner-y,
      multiple k cw a.side-w,
      multiple k ch a.side-h,
      le-leb (cx + cw) w a.inside-w,
      le-leb (cy + ch) h a.inside-h,
    )

pub cutting-fact : (k w h cx cy cw ch : ℕ) → cut_taken k w h cx cy cw ch ≡ true → Cutting k w h cx cy cw ch
unfolding cut_taken
cutting-fact k w h cx cy cw ch e =
    let order = and_both _ _ e in
    let sw = and_both _ _ order.1 in
    let sh = and_both _ _ sw.1 in
    let x = and_both _ _ sh.1 in
    let y = and_both _ _ x.1 in
    let aw = and_both _ _ y.1 in
    let ah = and_both _ _ aw.1 in
    let inside = and_both _ _ ah.1 in
    record {
      order = leb-true k 12 order.0;
      at = record {
        corner-x = eqb-true (cx % 2 ^ k) 0 x.0;
        corner-y = eqb-true (cy % 2 ^ k) 0 y.0;
        side-w = eqb-true (cw % 2 ^ k) 0 aw.0;
        side-h = eqb-true (ch % 2 ^ k) 0 ah.0;
        some-w = ltb-true 0 cw sw.0;
        some-h = ltb-true 0 ch sh.0;
        inside-w = leb-true (cx + cw) w inside.0;
        inside-h = leb-true (cy + ch) h inside.1;
      };
    }

module _ (k w h : ℕ) (corner sides : Pair) where
  pub cutting-taken : Cutting k w h corner.x corner.y sides.x sides.y → cut_refusal k w h corner sides ≡ 0
  unfolding cut_refusal
  cutting-taken c = unless-true _ 11 (cutting-test k w h corner.x corner.y sides.x sides.y c)

  pub cutting-facts : cut_refusal k w h corner sides ≡ 0 → Cutting k w h corner.x corner.y sides.x sides.y
  unfolding cut_refusal
  cutting-facts e = cutting-fact k w h corner.x corner.y sides.x sides.y (unless-none _ 10 e)

  pub cutting-refused : (Cutting k w h corner.x corner.y sides.x sides.y → ⊥) → cut_refusal k w h corner sides ≡ 11
  unfolding cut_refusal
  cutting-refused fails = unless-false _ 11 (test-false _ (λ t. fails (cutting-fact k w h corner.x corner.y sides.x sides.y t)))

-- ---- 1, 2, 3 (source), 8, 11, 3 (target): the cut

pub record CutCall (kind w h source k : ℕ) (corner sides : Pair) (target : ℕ) : Type 0 where
  pub taken : Taken kind w h
  pub level0 : faces_of kind * h * w ≤ source
  pub flat : kind ≡ cubemap → ⊥
  pub cutting : Cutting k w h corner.x corner.y sides.x sides.y
  pub room : sides.y * sides.x ≤ target

module _ (kind w h source k : ℕ) (corner sides : Pair) (target : ℕ) where
  pub cut-taken : CutCall kind w h source k corner sides target → cut_call_refusal kind w h source k corner sides target ≡ 0
  unfolding cut_call_refusal
  cut-taken c =
      or_else-taken _ _ (picture-taken kind w h c.taken)
      (or_else-taken _ _ (buffer-taken _ source c.level0)
      (or_else-taken _ _ (flat-taken kind c.flat)
      (or_else-taken _ _ (cutting-taken k w h corner sides c.cutting) (buffer-taken _ target c.room))))

  pub cut-facts : cut_call_refusal kind w h source k corner sides target ≡ 0 → CutCall kind w h source k corner sides target
  unfolding cut_call_refusal
  cut-facts e =
      let a = or_else-none (picture_refusal kind w h) _ e in
      let b = or_else-none (buffer_refusal (faces_of kind * h * w) source) _ a.1 in
      let c = or_else-none (no_cubemap_refusal kind) _ b.1 in
      let d = or_else-none (cut_refusal k w h corner sides) _ c.1 in
      record {
        taken = picture-facts kind w h a.0;
        level0 = buffer_facts _ source b.0;
        flat = flat-facts kind c.0;
        cutting = cutting-facts k w h corner sides d.0;
        room = buffer_facts _ target d.1;
      }

  -- the picture's own number; then each of the others, where none before it is given
  pub cut-picture : (picture_refusal kind w h ≡ 0 → ⊥) → cut_call_refusal kind w h source k corner sides target ≡ picture_refusal kind w h
  unfolding cut_call_refusal
  cut-picture given = or_else-given _ _ given

  module _ (t : Taken kind w h) where
    pub cut-source : source < faces_of kind * h * w → cut_call_refusal kind w h source k corner sides target ≡ 3
    unfolding cut_call_refusal
    cut-source short =
        let e = buffer-refused _ source short in
        or_else-zero _ _ (picture-taken kind w h t) ∙ or_else-given _ _ (λ z. omega arith) ∙ e

    module _ (l : faces_of kind * h * w ≤ source) where
      pub cut-cubemap : kind ≡ cubemap → cut_call_refusal kind w h source k corner sides target ≡ 8
      unfolding cut_call_refusal
      cut-cubemap cube =
          let e = flat-refused kind cube in
          or_else-zero _ _ (picture-taken kind w h t)
          ∙ or_else-zero _ _ (buffer-taken _ source l)
          ∙ or_else-given _ _ (λ z. omega arith)
          ∙ e

      module _ (flat : kind ≡ cubemap → ⊥) where
        before : cut_call_refusal kind w h source k corner sides target ≡ (cut_refusal k w h corner sides or_else buffer_refusal (sides.y * sides.x) target)
        unfolding cut_call_refusal
        before =
            or_else-zero _ _ (picture-taken kind w h t)
            ∙ or_else-zero _ _ (buffer-taken _ source l)
            ∙ or_else-zero _ _ (flat-taken kind flat)

        pub cut-place : (Cutting k w h corner.x corner.y sides.x sides.y → ⊥) → cut_call_refusal kind w h source k corner sides target ≡ 11
        cut-place fails =
            let e = cutting-refused k w h corner sides fails in
            before ∙ or_else-given _ _ (λ z. omega arith) ∙ e

        pub cut-target : Cutting k w h corner.x corner.y sides.x sides.y → target < sides.y * sides.x
            → cut_call_refusal kind w h source k corner sides target ≡ 3
        cut-target c short = before ∙ or_else-zero _ _ (cutting-taken k w h corner sides c) ∙ buffer-refused _ target short

-- ---- 10, 3 (bytes), 3 (faces): the cross

pub record CrossCall (w h bytes faces : ℕ) : Type 0 where
  pub sides : Sides (cross_width w) (cross_height h)
  pub read : h * w * 4 ≤ bytes
  pub room : 6 * cross_height h * cross_width w ≤ faces

cross-sides-taken : (w h : ℕ) → Sides (cross_width w) (cross_height h) → cross_sides_refusal w h ≡ 0
unfolding cross_sides_refusal
cross-sides-taken w h s = unless-true _ 10 (sides-test (cross_width w) (cross_height h) s)

module _ (w h bytes faces : ℕ) where
  pub cross-taken : CrossCall w h bytes faces → cross_refusal w h bytes faces ≡ 0
  unfolding cross_refusal
  cross-taken c =
      or_else-taken _ _ (cross-sides-taken w h c.sides) (or_else-taken _ _ (buffer-taken _ bytes c.read) (buffer-taken _ faces c.room))

  pub cross-facts : cross_refusal w h bytes faces ≡ 0 → CrossCall w h bytes faces
  unfolding cross_refusal cross_sides_refusal
  cross-facts e =
      let a = or_else-none (cross_sides_refusal w h) _ e in
      let b = or_else-none (buffer_refusal (h * w * 4) bytes) _ a.1 in
      record {
        sides = sides-fact (cross_width w) (cross_height h) (unless-none _ 9 a.0);
        read = buffer_facts _ bytes b.0;
        room = buffer_facts _ faces b.1;
      }

  pub cross-sides : (Sides (cross_width w) (cross_height h) → ⊥) → cross_refusal w h bytes faces ≡ 10
  unfolding cross_refusal cross_sides_refusal
  cross-sides fails =
      let e : cross_sides_refusal w h ≡ 10 = unless-false _ 10 (test-false _ (λ t. fails (sides-fact (cross_width w) (cross_height h) t))) in
      or_else-given (cross_sides_refusal w h) _ (λ z. omega arith) ∙ e

  module _ (s : Sides (cross_width w) (cross_height h)) where
    pub cross-bytes : bytes < h * w * 4 → cross_refusal w h bytes faces ≡ 3
    unfolding cross_refusal
    cross-bytes short =
        let e = buffer-refused _ bytes short in
        or_else-zero _ _ (cross-sides-taken w h s) ∙ or_else-given _ _ (λ z. omega arith) ∙ e

    pub cross-faces : h * w * 4 ≤ bytes → faces < 6 * cross_height h * cross_width w → cross_refusal w h bytes faces ≡ 3
    unfolding cross_refusal
    cross-faces read short =
        or_else-zero _ _ (cross-sides-taken w h s) ∙ or_else-zero _ _ (buffer-taken _ bytes read) ∙ buffer-refused _ faces short
