-- An accepted sheet is the sheet of what it yields: each server's field is that of its slot, as far as the servers have come.
use Prim.Native.Nat.{ℕ, zero, suc, ◌+◌, ◌*◌, ◌<◌, ◌≤◌}
use mathlib.Core.Path.{◌≡◌, refl, sym, ap, subst, ◌∙◌}
use mathlib.Core.Logic.{⊎_elim}
use mathlib.Core.Bool.{true, not}
use mathlib.Core.List.{List, []}
use lib.ListN.{length, take, drop, set, length-drop}
use lib.Seq.{ext_get_or, length-take-le}
use native.Mathlib.Omega.{arith}
use borrow.Author.Tests.{lt-ltb, ne_eqb}
use Rattle.terms.specs.Words.{list}
use Rattle.terms.proofs.Over.{last_or_below, list_at, list_length}
use Rattle.quantity.specs.declared.Length.{Length}
use Rattle.quantity.specs.Quantity.{ticks, length_of, largest_frame}
use Rattle.quantity.proofs.Laws.{length_of_exact}
use Rattle.timing.specs.declared.Figures.{Figures}
use Rattle.timing.specs.Timing.{present, hold}
use Rattle.admission.specs.Admission.{slots, slot_of, placed, figures_of}
use Rattle.board.specs.declared.Board.{Board}
use Rattle.board.specs.declared.Outcome.{Outcome}
use Rattle.board.specs.Calls.{fresh, blank, with_table}
use Rattle.fields.specs.Numbers.{Bytes, bytes_of, number_of, number_in}
use Rattle.fields.specs.Form.{InForm, sheet_of, in_form}
use Rattle.fields.specs.Old.{old_body, form_of}
use Rattle.fields.proofs.Numbers.{bytes_kept, number_in_lem}
use Rattle.fields.proofs.Heads.{part_bytes}
use Rattle.fields.proofs.Old.{old_out, old_length, old_body_lem, old_frame}
use Rattle.sheet.specs.Sheet.{body_of, bodies_of, encode, sheet_for, number_at, tag_at, body_at, entered, accepted, read_first, read_of}
use Rattle.sheet.specs.Commissioned.{Commissioned, opening, admission}
use Rattle.sheet.proofs.Answers.{opened_plain, admitted_plain, plain_yields, onward_yields, read_yields}
use Rattle.sheet.proofs.Bodies.{body_kept}
use Rattle.sheet.proofs.Standing.{Standing, standing_empty, standing_with, slot_same, slot_other, vacant_at, bodies_all}
use Rattle.board.proofs.Commissions.{open_done, Done, admit_done}

-- the board after the first n servers of a sheet
pub record Came (s : List ℕ) (n : ℕ) (b : Board) : Type 0 where
  pub standing : Standing n b.table
  pub frame : b.frame.0 ≡ number_in 4 (take 4 (drop 3 s))
  pub bodies : (k : ℕ) → k < n → body_of (slot_of b.table k) ≡ body_at s k

came_fresh : (s : List ℕ) (l : ℕ) → l ≤ largest_frame → l ≡ number_in 4 (take 4 (drop 3 s)) → Came s 0 (fresh (length_of l))
unfolding fresh
came_fresh s l h e = record {
  standing = standing_empty;
  frame = ap (λ (x : Length). x.0) (length_of_exact l (omega arith)) ∙ e;
  bodies = λ k z. absurd (omega arith);
}

module _ (s : List ℕ) (h : Bytes s) where
  module _ (n : ℕ) (room : 50 + 43 * n ≤ length s) where
    forty : length (body_at s n) ≡ 40
    forty = length-take-le 40 (drop (tag_at n + 3) s) (rw length-drop (omega arith))

    -- one more server
    came_with : (b : Board) (f : Figures) → Came s n b → n < slots → present f ≡ true → body_of f ≡ body_at s n → Came s (suc n) (with_table b (set b.table n f))
    came_with b f w l p q = record {
      standing = standing_with w.standing f l p;
      frame = w.frame;
      bodies = λ k z. ⊎_elim (λ (e : k ≡ n). rw e (ap body_of (slot_same w.standing f l) ∙ q))
          (λ (m : k < n). ap body_of (slot_other w.standing f l k (λ e. omega arith)) ∙ w.bodies k m) (last_or_below z);
    }

    -- its figures are kept as they stand in the body
    abbrev period : ℕ
    period = number_at (body_at s n) 0

    abbrev budget : ℕ
    budget = number_at (body_at s n) 1

    abbrev holds : List ℕ
    holds = list (λ r. number_at (body_at s n) (r + 2)) 8

    came_next : (b : Board) (o : Outcome) → Came s n b → n < slots → Done b period budget holds n o → Came s (suc n) o.board
    unfolding placed
    came_next b o w l d =
        let f = figures_of period budget holds in
        let a = d.newcomer in
        let there : present f ≡ true = ap not (ne_eqb f.period.0 0 (λ z. omega (arith, a.ranged.period_low))) in
        let each : (r : ℕ) → r < 8 → hold f r ≡ ticks (number_at (body_at s n) (r + 2)) =
        λ r k. a.hold_is r k ∙ ap ticks (list_at (λ r. number_at (body_at s n) (r + 2)) 8 r 0 k) in
        let kept : body_of f ≡ body_at s n = body_kept (body_at s n) (part_bytes s 40 (tag_at n + 3) h) forty f each a.period_is a.budget_is in
        subst (λ (x : Board). Came s (suc n) x) (sym d.next) (rw (lt-ltb n slots l) (came_with b f w l there kept))

  -- as far as the servers have come
  came : (n : ℕ) → 7 + 43 * n ≤ length s → {x : Board} → read_first s n ≡ accepted x → Came s n x
  unfolding read_first entered
  came zero room e =
      let frame = number_in 4 (take 4 (drop 3 s)) in
      let (z, yields) = plain_yields 0 (opened_plain blank frame) e in
      let (small, is) = open_done blank frame z in
      subst (λ (b : Board). Came s 0 b) (sym is ∙ yields) (came_fresh s frame small refl)
  came (suc n) room e =
      let (b, before, here) = onward_yields (read_first s n) s n e in
      let w = came n (omega arith) before in
      let fits : 50 + 43 * n ≤ length s = omega arith in
      let o = entered b (body_at s n) in
      let (z, yields) = plain_yields (tag_at n) (admitted_plain b (period n fits) (budget n fits) (holds n fits)) here in
      let (i, free, d) = admit_done b (period n fits) (budget n fits) (holds n fits) z in
      let (at, l) = vacant_at w.standing free in
      subst (λ (b : Board). Came s (suc n) b) yields (came_next n fits b o w l (rw at at d))

  -- the bodies of the table are those of the sheet
  module _ (n : ℕ) (w : InForm 2 old_body s n) (b : Board) (c : Came s n b) where
    came_bodies : bodies_of b.table slots ≡ w.bodies
    came_bodies =
        let f : ℕ → List ℕ = λ k. body_of (slot_of b.table k) in
        let long = list_length f n in
        bodies_all c.standing
        ∙ ext_get_or [] (list f n) w.bodies (long ∙ sym w.number) (λ k l.
        let k<n : k < n = omega arith in
        list_at f n k [] k<n ∙ c.bodies k k<n ∙ old_body_lem w k k<n)

    came_whole : s ≡ sheet_for b
    unfolding encode
    came_whole =
        let part = take 4 (drop 3 s) in
        let four : length part ≡ 4 = ap length (old_frame w) ∙ w.frame_length in
        let frame : bytes_of 4 b.frame.0 ≡ w.frame =
        ap (bytes_of 4) (c.frame ∙ number_in_lem 4 part four) ∙ ap (λ k. bytes_of k (number_of part)) (sym four) ∙ bytes_kept part (part_bytes s 4 3 h) ∙ old_frame w in
        w.bytes ∙ ap (λ l. sheet_of 2 l w.bodies) (sym frame)
        ∙ ap (sheet_of 2 (bytes_of 4 b.frame.0)) (sym came_bodies)

  -- an accepted sheet is the sheet of the board that it yields
  pub accepted_sheet : {b : Board} → read_of s ≡ accepted b → s ≡ sheet_for b
  accepted_sheet {b} e =
      let (n, form, first) = read_yields s e in
      let w = old_out s h form in
      came_whole n w b (came n (omega (arith, old_length w)) first)

-- two accepted sheets that yield the same board are the same bytes
pub same_board : (s s' : List ℕ) → Bytes s → Bytes s' → {b : Board} → read_of s ≡ accepted b → read_of s' ≡ accepted b → s ≡ s'
same_board s s' h h' e e' = accepted_sheet s h e ∙ sym (accepted_sheet s' h' e')

-- the board that an accepted sheet yields is one that opening and admitting lead to
pub made : (s : List ℕ) (n : ℕ) {x : Board} → read_first s n ≡ accepted x → Commissioned n x
unfolding read_first entered
made s zero e =
    let frame = number_in 4 (take 4 (drop 3 s)) in
    let (z, yields) = plain_yields 0 (opened_plain blank frame) e in
    subst (λ (b : Board). Commissioned 0 b) yields (opening blank frame z)
made s (suc n) e =
    let (b, before, here) = onward_yields (read_first s n) s n e in
    let f : ℕ → ℕ = λ r. number_at (body_at s n) (r + 2) in
    let p = number_at (body_at s n) 0 in
    let q = number_at (body_at s n) 1 in
    let (z, yields) = plain_yields (tag_at n) (admitted_plain b p q (list f 8)) here in
    subst (λ (b : Board). Commissioned (suc n) b) yields (admission p q (list f 8) (made s n before) (list_length f 8) z)

pub accepted_board : (s : List ℕ) {b : Board} → read_of s ≡ accepted b → (n : ℕ) × (form_of s ≡ in_form n) × Commissioned n b
accepted_board s e = let (n, form, first) = read_yields s e in (n, form, made s n first)
