-- What opening and admitting state where they are done: by their tests, in their order.
use Prim.Native.Nat.{ℕ, ◌≤◌}
use mathlib.Core.Path.{◌≡◌, refl, sym, ap, ◌∙◌}
use mathlib.Core.Bool.{Bool, true, false, not, ◌&&◌}
use mathlib.Core.List.{List}
use native.Mathlib.Omega.{arith}
use lib.Dec.{leb}
use borrow.Author.Tests.{leb-true}
use Rattle.terms.specs.Words.{pick}
use Rattle.terms.proofs.Tests.{and_left, and_right}
use Rattle.quantity.specs.Quantity.{length_of, largest_frame}
use Rattle.timing.specs.declared.Figures.{Figures}
use Rattle.admission.specs.Admission.{placed, judged, figures_of}
use Rattle.admission.specs.Admission.Judging.{Admitted, Judgement, judgement, broken_4, broken_5, broken_6, broken_7}
use Rattle.admission.specs.Admission.Judging as judging
use Rattle.refusals.specs.declared.Refusal.{Refusal}
use Rattle.refusals.specs.declared.Refusal.TheVariants.{WrongPhase, FrameOutOfRange}
use Rattle.board.specs.declared.Board.{Board}
use Rattle.board.specs.declared.Outcome.{Outcome}
use Rattle.std.specs.Prelude.{Option, Some, None, Result}
use Rattle.board.specs.declared.Answer.TheVariants as answer
use Rattle.board.specs.Board.{out, number_of}
use Rattle.board.specs.Calls.{refuse, fresh, opened, commissioning, vacancy, with_table, admitted_as, admitted_in, admitted}

-- the number that an outcome answers with
abbrev pub number : Outcome → ℕ
number o = number_of o.answer

open_by : (b : Board) (frame : ℕ) (t : Bool) → number (pick t (out (fresh (length_of frame)) (answer.Done 0)) (refuse b FrameOutOfRange)) ≡ 0
    → (t ≡ true) × ((pick t (out (fresh (length_of frame)) (answer.Done 0)) (refuse b FrameOutOfRange)).board ≡ fresh (length_of frame))
open_by b frame true e = (refl, refl)
open_by b frame false e = absurd (omega arith)

-- a frame that is taken is in range, and the board is a fresh one with it
pub open_done : (b : Board) (frame : ℕ) → number (opened b frame) ≡ 0 → (frame ≤ largest_frame) × ((opened b frame).board ≡ fresh (length_of frame))
unfolding opened
open_done b frame e =
    let (t, k) = open_by b frame (leb 1 frame && leb frame largest_frame) e in
    (leb-true _ _ (and_right (leb 1 frame) (leb frame largest_frame) t), k)

-- a frame that is taken is at least 1
pub open_low : (b : Board) (frame : ℕ) → number (opened b frame) ≡ 0 → 1 ≤ frame
unfolding opened
open_low b frame e =
    let (t, k) = open_by b frame (leb 1 frame && leb frame largest_frame) e in
    leb-true _ _ (and_left (leb 1 frame) (leb frame largest_frame) t)

-- and so for every board before it
pub open_any : (b : Board) (frame : ℕ) → number (opened b frame) ≡ 0 → (b' : Board) → opened b' frame ≡ out (fresh (length_of frame)) (answer.Done 0)
unfolding opened
open_any b frame e b' =
    let (t, k) = open_by b frame (leb 1 frame && leb frame largest_frame) e in
    ap (λ (x : Bool). pick x (out (fresh (length_of frame)) (answer.Done 0)) (refuse b' FrameOutOfRange)) t

module _ (b : Board) (p q : ℕ) (hs : List ℕ) where
  -- an admission to slot i that is done
  pub record Done (i : ℕ) (o : Outcome) : Type 0 where
    pub newcomer : Admitted b.table i b.frame.0 p q hs (figures_of p q hs)
    pub next : o.board ≡ with_table b (placed b.table i (figures_of p q hs))

  as_done : (i : ℕ) (j : Result Figures Refusal) → Judgement b.table i b.frame.0 p q hs j → number (admitted_as b i j) ≡ 0 → Done i (admitted_as b i j)
  unfolding admitted_as
  as_done i j (broken_4 _) e = absurd (omega arith)
  as_done i j (broken_5 _ _) e = absurd (omega arith)
  as_done i j (broken_6 _ _ _) e = absurd (omega arith)
  as_done i j (broken_7 _ _ _ _) e = absurd (omega arith)
  as_done i j (judging.admitted a) e = record { newcomer = a; next = refl }

  in_done : (c : Option ℕ) → number (admitted_in b c p q hs) ≡ 0 → (i : ℕ) × (c ≡ Some i) × Done i (admitted_in b c p q hs)
  unfolding admitted_in
  in_done None e = absurd (omega arith)
  in_done (Some i) e = (i, refl, as_done i (judged b.table i b.frame.0 p q hs) (judgement b.table i b.frame.0 p q hs) e)

  past_phase : (t : Bool) (o : Outcome) → number (pick (not t) (refuse b WrongPhase) o) ≡ 0 → pick (not t) (refuse b WrongPhase) o ≡ o
  past_phase true o e = refl
  past_phase false o e = absurd (omega arith)

  -- an admission that is done is to the lowest vacant slot
  pub admit_done : number (admitted b p q hs) ≡ 0 → (i : ℕ) × (vacancy b.table ≡ Some i) × Done i (admitted b p q hs)
  unfolding admitted
  admit_done e =
      let inner = admitted_in b (vacancy b.table) p q hs in
      let k = past_phase (commissioning b) inner e in
      let (i, free, d) = in_done (vacancy b.table) (sym (ap (λ (o : Outcome). number o) k) ∙ e) in
      (i, free, record { newcomer = d.newcomer; next = ap (λ (o : Outcome). o.board) k ∙ d.next })
