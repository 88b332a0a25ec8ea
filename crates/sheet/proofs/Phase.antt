-- The boards that opening and admitting lead to are commissioning boards, and a 17th server is refused with 2.
use Prim.Native.Nat.{ℕ, zero, suc, ◌+◌, ◌-◌, ◌<◌, ◌≤◌}
use mathlib.Core.Path.{◌≡◌, ap, ◌∙◌}
use mathlib.Core.Bool.{Bool, true, not}
use mathlib.Core.List.{List}
use native.Mathlib.Omega.{arith}
use borrow.Author.Tests.{ne_eqb}
use Rattle.terms.specs.Words.{pick}
use Rattle.quantity.specs.Quantity.{length_of}
use Rattle.admission.specs.Admission.{slots, in_table}
use Rattle.refusals.specs.declared.Refusal.TheVariants.{WrongPhase, TableFull}
use Rattle.board.specs.declared.Board.{Board}
use Rattle.board.specs.declared.Outcome.{Outcome}
use Rattle.std.specs.Prelude.{Option}
use Rattle.board.specs.Calls.{refuse, fresh, commissioning, vacancy, admitted_in, admitted}
use Rattle.board.proofs.Search.{search_none}
use Rattle.fields.specs.Form.{in_form}
use Rattle.fields.specs.Old.{form_of}
use Rattle.sheet.specs.Sheet.{Reading, accepted, refused_at, tag_at, entered, why_not, answered_by, answered, onward, read_first, read_of}
use Rattle.sheet.specs.Commissioned.{Commissioned, opening, admission}
use Rattle.sheet.proofs.Answers.{read_good}
use Rattle.board.proofs.Commissions.{open_low, open_done, admit_done}
use Rattle.sheet.proofs.Accepted.{made}
use Rattle.sheet.proofs.ReadBack.{no_gap}

fresh_phase : (l : ℕ) → 1 ≤ l → commissioning (fresh (length_of l)) ≡ true
unfolding commissioning fresh length_of
fresh_phase l h = ap not (ne_eqb (length_of l).0 0 (λ z. omega (arith, z)))

-- in commissioning, with a frame
pub phase : {n : ℕ} {b : Board} → Commissioned n b → commissioning b ≡ true
unfolding commissioning
phase (opening b l e) = let (small, is) = open_done b l e in ap commissioning is ∙ fresh_phase l (open_low b l e)
phase (admission {n} {b} p q hs c eight e) = let (i, free, d) = admit_done b p q hs e in ap commissioning d.next ∙ phase c

full : {b : Board} → Commissioned slots b → (p q : ℕ) (hs : List ℕ) → admitted b p q hs ≡ refuse b TableFull
unfolding admitted vacancy admitted_in
full {b} c p q hs =
    let none = search_none (λ k. not (in_table b.table k)) slots (λ k l. ap not ((no_gap c).servers k l)) in
    ap (λ (t : Bool). pick (not t) (refuse b WrongPhase) (admitted_in b (vacancy b.table) p q hs)) (phase c)
    ∙ ap (λ (x : Option ℕ). admitted_in b x p q hs) none

-- 16 servers were admitted, and there are more: 2 at the 17th server's tag
module _ (s : List ℕ) {b : Board} (e : read_first s slots ≡ accepted b) where
  seventeenth : (n : ℕ) → read_first s (suc (slots + n)) ≡ refused_at TableFull 695
  unfolding read_first entered onward answered_by why_not
  seventeenth zero =
      ap (λ (r : Reading). onward r s slots) e ∙ ap (λ (o : Outcome). answered o (tag_at slots)) (full (made s slots e) _ _ _)
  seventeenth (suc n) =
      let q : slots + suc n ≡ suc (slots + n) = omega arith in
      ap (λ k. read_first s (suc k)) q ∙ ap (λ (r : Reading). onward r s (suc (slots + n))) (seventeenth n)

  pub too_many : {n : ℕ} → form_of s ≡ in_form n → slots < n → read_of s ≡ refused_at TableFull 695
  too_many {n} form more =
      let q : n ≡ suc (slots + (n - 17)) = omega arith in
      read_good s form ∙ ap (read_first s) q ∙ seventeenth (n - 17)
