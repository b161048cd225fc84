-- A list that is cut into parts of 64: the part behind n parts, which is shorter only at the end, and what is left behind it. Assumes
-- nothing.
use mathlib.Core.Path.{◌≡◌, refl, sym, ap, subst, ◌∙◌}
use mathlib.Core.List.{List, ◌++◌}
use Rattle.std.specs.Prelude.{Option}
use Prim.Native.Nat.{ℕ, ◌+◌, ◌-◌, ◌*◌, ◌≤◌, ◌<◌, min}
use native.Mathlib.Decide.{dec_le}
use native.Mathlib.Omega.{arith}
use lib.ListN.{length, drop, length-drop, drop_of_length-le}
use lib.Seq.{take_at, drop_at, drop-drop}
use Rattle.reduce.specs.Right.{Right, FirstWrong}
use Rattle.reduce.proofs.Rows.{row_at}
use Rattle.reduce.proofs.Standing.{right-part, wrong-by}

pub record Part (c part rest : List ℕ) (n : ℕ) : Type 0 where
  pub few : length part ≤ 64
  pub room : 64 * n + length part ≤ length c
  pub is : part ≡ row_at (length part) (64 * n) c
  pub behind : rest ≡ drop (64 * (n + 1)) c
  pub before : min (64 * n) (length c) ≡ 64 * n
  pub more : min (64 * (n + 1)) (length c) ≡ 64 * n + length part

pub part-of : {c part rest left : List ℕ} {n : ℕ} → left ≡ drop (64 * n) c → left ≡ part ++ rest → length part ≡ min 64 (length left) → 0 < length left → Part c part rest n
part-of {c} {part} {rest} {left} {n} el ep long some =
    let all : length left ≡ length c - 64 * n = ap length el ∙ length-drop (64 * n) c in
    let here : 64 * n + length part - 64 * n ≡ length part = omega arith in
    let last : rest ≡ drop (64 * n + length part) c =
    sym (drop_at part rest (length part) refl) ∙ ap (λ (l : List ℕ). drop (length part) l) (sym ep ∙ el) ∙ drop-drop (length part) (64 * n) c in
    record {
      few = omega arith;
      room = omega arith;
      is = rw (here, ← el, ep) (sym (take_at part rest (length part) refl));
      behind =
          last
          ∙ elim (dec_le (64 * (n + 1)) (length c)) [
            | yes le ↦ ap (λ (k : ℕ). drop k c) (omega arith)
            | no f ↦
                let a : length c ≤ 64 * n + length part = omega arith in
                let b : length c ≤ 64 * (n + 1) = omega arith in
                drop_of_length-le c a ∙ sym (drop_of_length-le c b)
          ];
      before = omega arith;
      more = omega arith;
    }

-- told of the part alone
pub part-right : {c part rest : List ℕ} {n : ℕ} {f : ℕ → ℕ} {wrong : Option ℕ} → Part c part rest n → FirstWrong 0 part (length part) f wrong → FirstWrong (64 * n) c (length part) f wrong
part-right {c} {part} {n = n} {f = f} p t =
    wrong-by (λ r u. right-part (64 * n) c p.room (subst (λ (l : List ℕ). Right 0 l (length part) f r) p.is u)) t
