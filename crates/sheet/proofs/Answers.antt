-- What reading makes of the answers of opening and admitting, which are done or refused and nothing else.
use Prim.Native.Nat.{ℕ, zero, suc, ◌+◌, ◌≤◌}
use mathlib.Core.Path.{◌≡◌, refl, sym, ap, ◌∙◌}
use mathlib.Core.Logic.{⊎_elim}
use mathlib.Core.Bool.{not, ◌&&◌}
use mathlib.Core.List.{List}
use lib.Dec.{leb}
use native.Mathlib.Omega.{arith}
use native.Mathlib.Numerals.{add-one}
use borrow.Author.Tests.{eq-eqb, ne_eqb}
use Rattle.std.specs.Prelude.{Option, Some, None, Result, Ok, Err}
use Rattle.terms.proofs.Over.{last_or_below}
use Rattle.terms.proofs.Tests.{either}
use Rattle.quantity.specs.Quantity.{largest_frame}
use Rattle.refusals.specs.declared.Refusal.{Refusal}
use Rattle.refusals.specs.declared.Refusal.TheVariants.{WrongPhase, TableFull, FrameOutOfRange, NotWellFormed}
use Rattle.refusals.specs.Refusals as refusals
use Rattle.timing.specs.declared.Figures.{Figures}
use Rattle.admission.specs.Admission.{judged}
use Rattle.admission.specs.Admission.Judging.{Judgement, judgement, broken_4, broken_5, broken_6, broken_7}
use Rattle.admission.specs.Admission.Judging as judging
use Rattle.board.specs.declared.Answer.{Answer}
use Rattle.board.specs.declared.Answer.TheVariants as answer
use Rattle.board.specs.declared.Board.{Board}
use Rattle.board.specs.declared.Outcome.{Outcome}
use Rattle.board.specs.Board.{number_of}
use Rattle.board.specs.Calls.{commissioning, vacancy, opened, admitted_as, admitted_in, admitted}
use Rattle.fields.specs.Form.{Form, in_form, not_in_form}
use Rattle.fields.specs.Old.{form_of}
use Rattle.sheet.specs.declared.BadSheet.{BadSheet}
use Rattle.sheet.specs.Sheet.{Reading, accepted, refused_at, tag_at, body_at, entered, why_not, answered_by, answered, onward, read_first, read_as, read_of}

-- an answer that is done or refused
pub data Plain : Answer → Type 0 where
  done : (v : ℕ) → Plain (answer.Done v)
  refused : (why : Refusal) → (refusals.number_of why ≡ 0 → ⊥) → Plain (answer.Refused why)

pub opened_plain : (b : Board) (frame : ℕ) → Plain (opened b frame).answer
unfolding opened
opened_plain b frame =
    either (λ (o : Outcome). Plain o.answer) (leb 1 frame && leb frame largest_frame) (done 0) (refused FrameOutOfRange (λ z. omega arith))

module _ (b : Board) (p q : ℕ) (hs : List ℕ) where
  judged_plain : (i : ℕ) (j : Result Figures Refusal) → Judgement b.table i b.frame.0 p q hs j → Plain (admitted_as b i j).answer
  unfolding admitted_as
  judged_plain i j (broken_4 _) = refused _ (λ z. omega arith)
  judged_plain i j (broken_5 _ _) = refused _ (λ z. omega arith)
  judged_plain i j (broken_6 _ _ _) = refused _ (λ z. omega arith)
  judged_plain i j (broken_7 _ _ _ _) = refused _ (λ z. omega arith)
  judged_plain i j (judging.admitted a) = done i

  slot_plain : (c : Option ℕ) → Plain (admitted_in b c p q hs).answer
  unfolding admitted_in
  slot_plain None = refused TableFull (λ z. omega arith)
  slot_plain (Some i) = judged_plain i (judged b.table i b.frame.0 p q hs) (judgement b.table i b.frame.0 p q hs)

  pub admitted_plain : Plain (admitted b p q hs).answer
  unfolding admitted
  admitted_plain =
      either (λ (o : Outcome). Plain o.answer) (not (commissioning b)) (refused WrongPhase (λ z. omega arith)) (slot_plain (vacancy b.table))

-- what a call's answer makes of a reading: with the number 0 its board, and with another it is refused
module _ (o : Outcome) (tag : ℕ) where
  pub answered_refused : (number_of o.answer ≡ 0 → ⊥) → answered o tag ≡ refused_at (why_not o.answer) tag
  unfolding answered_by
  answered_refused h = simp (ne_eqb _ _ h)

  pub answered_done : number_of o.answer ≡ 0 → answered o tag ≡ accepted o.board
  unfolding answered_by
  answered_done h = simp (eq-eqb _ _ h)

-- and then with that number
pub why_number : (a : Answer) → (number_of a ≡ 0 → ⊥) → refusals.number_of (why_not a) ≡ number_of a
unfolding why_not
why_number (answer.Done v) h = absurd (h refl)
why_number (answer.Refused why) h = refl
why_number (answer.Suspended t) h = refl
why_number answer.Renewed h = refl
why_number answer.Overheld h = refl

-- a call of opening or admitting is done exactly if its board is yielded
pub plain_done : {a : Answer} (b : Board) (tag : ℕ) → Plain a → number_of a ≡ 0 → answered_by a b tag ≡ accepted b
plain_done {a} b tag p z = answered_done (record { board = b; answer = a }) tag z

pub plain_yields : {a : Answer} {b x : Board} (tag : ℕ) → Plain a → answered_by a b tag ≡ accepted x → (number_of a ≡ 0) × (b ≡ x)
plain_yields {a} {b} tag (done v) e = (refl, let y = sym (answered_done (record { board = b; answer = a }) tag refl) ∙ e in (cc))
plain_yields {a} {b} tag (refused why above) e = let y = sym (answered_refused (record { board = b; answer = a }) tag above) ∙ e in absurd (cc)

-- a server is admitted where nothing before it was refused
module _ (r : Reading) (s : List ℕ) (i : ℕ) where
  pub onward_refused : {e : BadSheet} → r ≡ Err e → onward r s i ≡ r
  unfolding onward
  onward_refused h = rw h

  pub onward_next : {b : Board} → r ≡ accepted b → onward r s i ≡ answered (entered b (body_at s i)) (tag_at i)
  unfolding onward
  onward_next h = rw h

pub first_next : (s : List ℕ) (n : ℕ) → read_first s (n + 1) ≡ onward (read_first s n) s n
unfolding read_first
first_next s n = ap (read_first s) (add-one n)

-- what was refused stays refused
pub first_refused : (s : List ℕ) {e : BadSheet} (i n : ℕ) → i ≤ n → read_first s i ≡ Err e → read_first s n ≡ Err e
unfolding read_first onward
first_refused s {e} i n l q = go n l
  where
    go : (n : ℕ) → i ≤ n → read_first s n ≡ Err e
    go zero l = let z : i ≡ 0 = omega arith in rw z at q
    go (suc n) l =
        ⊎_elim (λ (same : i ≡ suc n). rw same at q) (λ m. ap (λ (r : Reading). onward r s n) (go n (omega (arith, m))))
        (last_or_below (omega arith))

-- a server that is admitted comes after none that was refused
pub onward_yields : (r : Reading) (s : List ℕ) (i : ℕ) {x : Board} → onward r s i ≡ accepted x
    → (b : Board) × (r ≡ accepted b) × (answered (entered b (body_at s i)) (tag_at i) ≡ accepted x)
unfolding onward
onward_yields (Ok b) s i e = (b, refl, e)
onward_yields (Err _) s i e = absurd (cc)

-- a sheet in form is read server by server, and nothing else yields a board
module _ (s : List ℕ) where
  pub read_good : {n : ℕ} → form_of s ≡ in_form n → read_of s ≡ read_first s n
  unfolding read_of read_as
  read_good e = rw e

  pub read_bad : {at : ℕ} → form_of s ≡ not_in_form at → read_of s ≡ refused_at NotWellFormed at
  unfolding read_of read_as
  read_bad e = rw e

  pub read_yields : {x : Board} → read_of s ≡ accepted x → (n : ℕ) × (form_of s ≡ in_form n) × (read_first s n ≡ accepted x)
  unfolding read_of read_as
  read_yields {x} = go (form_of s) refl
    where
      go : (f : Form) → form_of s ≡ f → read_as f s ≡ accepted x → (n : ℕ) × (form_of s ≡ in_form n) × (read_first s n ≡ accepted x)
      go (Ok n) e p = (n, e, p)
      go (Err bad) e p = absurd (cc)
