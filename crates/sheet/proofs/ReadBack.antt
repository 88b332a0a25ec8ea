-- Reading the sheet of a board gives that board, where it is one that opening and admitting lead to: the same calls are made again.
use Prim.Native.Nat.{ℕ, suc, ◌+◌, ◌<◌, ◌≤◌}
use mathlib.Core.Path.{◌≡◌, refl, sym, ap, subst, ◌∙◌}
use mathlib.Core.Bool.{Bool, true, not, false}
use mathlib.Core.List.{List, [], ◌++◌}
use lib.ListN.{length, get_or, take, drop, set}
use lib.Seq.{ext_get_or, take_at}
use lib.Dec.{eqb, ltb}
use native.Mathlib.Omega.{arith}
use borrow.Author.Tests.{lt-ltb, eq-eqb, ne_eqb, ltb-false}
use Rattle.terms.specs.Words.{pick, list}
use Rattle.terms.proofs.Over.{list_at, list_length}
use Rattle.quantity.specs.declared.Length.{Length}
use Rattle.quantity.specs.Quantity.{length_of, largest_frame}
use Rattle.quantity.proofs.Laws.{length_of_exact}
use Rattle.timing.specs.declared.Figures.{Figures}
use Rattle.timing.specs.Timing.{present}
use Rattle.admission.specs.Admission.{slots, slot_of, placed, figures_of}
use Rattle.admission.specs.Admission.Judging.{Admitted}
use Rattle.std.specs.Prelude.{Result, Ok, Err}
use Rattle.refusals.specs.declared.Refusal.{Refusal}
use Rattle.refusals.specs.declared.Refusal.TheVariants.{WrongPhase, BufferTooShort}
use Rattle.board.specs.declared.Board.{Board}
use Rattle.board.specs.declared.Outcome.{Outcome}
use Rattle.board.specs.declared.Answer.TheVariants as answer
use Rattle.board.specs.Board.{out}
use Rattle.board.specs.Calls.{fresh, blank, opened, admitted, with_table}
use Rattle.fields.specs.Numbers.{bytes_of, number_in}
use Rattle.fields.specs.Form.{InForm, in_form}
use Rattle.fields.specs.Old.{old_body, form_of}
use Rattle.fields.proofs.Numbers.{bytes_length}
use Rattle.fields.proofs.Old.{old_in, old_body_lem, old_frame}
use Rattle.fields.proofs.Placing.{placed_in}
use Rattle.sheet.specs.Sheet.{body_of, bodies_of, encode, sheet_for, written, filled, number_at, tag_at, body_at, entered, Reading, accepted, answered_by, answered, onward, read_first, read_of}
use Rattle.sheet.specs.Commissioned.{Commissioned, opening, admission}
use Rattle.sheet.proofs.Answers.{admitted_plain, plain_done, read_good}
use Rattle.sheet.proofs.Laws.{body_length}
use Rattle.sheet.proofs.Numbers.{word_back, period_back, budget_back, hold_back}
use Rattle.sheet.proofs.Standing.{Standing, standing_empty, standing_with, slot_same, slot_other, vacant_at, bodies_all}
use Rattle.board.proofs.Commissions.{number, open_done, open_any, Done, admit_done}

-- a body that figures were written as leads to the admission that they came from
module _ (b : Board) (p q : ℕ) (hs : List ℕ) (n : ℕ) (eight : length hs ≡ 8) (a : Admitted b.table n b.frame.0 p q hs (figures_of p q hs)) where
  entered_again : entered b (body_of (figures_of p q hs)) ≡ admitted b p q hs
  unfolding entered
  entered_again =
      let f = figures_of p q hs in
      let body = body_of f in
      let ranged = a.ranged in
      let low = ranged.budget_high in
      let high = ranged.period_high in
      let hs' = list (λ r. number_at body (r + 2)) 8 in
      let period : number_at body 0 ≡ p = period_back f (omega arith) ∙ ap (λ (x : Length). x.0) a.period_is in
      let budget : number_at body 1 ≡ q = budget_back f (omega arith) ∙ ap (λ (x : Length). x.0) a.budget_is in
      let long = list_length (λ r. number_at body (r + 2)) 8 in
      let holds : hs' ≡ hs =
      ext_get_or 0 hs' hs (long ∙ sym eight) (λ r l.
      let r<8 : r < 8 = omega arith in
      list_at (λ r. number_at body (r + 2)) 8 r 0 r<8 ∙ hold_back f r r<8 (omega (arith, ranged.holds_high r)) ∙ ap (λ (x : Length). x.0) (a.hold_is r r<8)) in
      ap (λ x. admitted b x (number_at body 1) hs') period ∙ ap (λ x. admitted b p x hs') budget ∙ ap (admitted b p q) holds

-- what is known of such a board: its table has no gap, and its servers read one after another lead to it
record Told (n : ℕ) (b : Board) : Type 0 where
  standing : Standing n b.table
  frame_high : b.frame.0 ≤ largest_frame
  reads : (s : List ℕ) → number_in 4 (take 4 (drop 3 s)) ≡ b.frame.0 → ((k : ℕ) → k < n → body_at s k ≡ body_of (slot_of b.table k))
      → read_first s n ≡ accepted b

told_fresh : (l : ℕ) → l ≤ largest_frame → opened blank l ≡ out (fresh (length_of l)) (answer.Done 0) → Told 0 (fresh (length_of l))
unfolding fresh read_first answered_by
told_fresh l small is =
    let exact = ap (λ (x : Length). x.0) (length_of_exact l (omega arith)) in
    record {
      standing = standing_empty;
      frame_high = omega arith;
      reads = λ s f k. ap (λ x. answered (opened blank x) 0) (f ∙ exact) ∙ ap (λ (o : Outcome). answered o 0) is;
    }

placed_set : (t : List Figures) (n : ℕ) (f : Figures) → n < slots → placed t n f ≡ set t n f
unfolding placed
placed_set t n f l = simp (lt-ltb n slots l)

told_next : {n : ℕ} {b : Board} (p q : ℕ) (hs : List ℕ) → Told n b → length hs ≡ 8 → n < slots → number (admitted b p q hs) ≡ 0
    → Done b p q hs n (admitted b p q hs) → Told (suc n) (admitted b p q hs).board
unfolding read_first onward
told_next {n} {b} p q hs w eight l e d =
    let f = figures_of p q hs in
    let a = d.newcomer in
    let o = admitted b p q hs in
    let st = w.standing in
    let next : o.board ≡ with_table b (set b.table n f) = d.next ∙ ap (with_table b) (placed_set b.table n f l) in
    let there : present f ≡ true = ap not (ne_eqb f.period.0 0 (λ z. omega (arith, a.ranged.period_low))) in
    record {
      standing = subst (λ (x : Board). Standing (suc n) x.table) (sym next) (standing_with st f l there);
      frame_high = omega (arith, ap (λ (x : Board). x.frame.0) next, w.frame_high);
      reads = λ s frame bodies.
          let slot : (k : ℕ) → k < suc n → body_at s k ≡ body_of (slot_of (set b.table n f) k) =
          λ k m. bodies k m ∙ ap (λ (x : Board). body_of (slot_of x.table k)) next in
          let before : read_first s n ≡ accepted b =
          w.reads s (frame ∙ ap (λ (x : Board). x.frame.0) next) (λ k m. slot k (omega arith) ∙ ap body_of (slot_other st f l k (λ z. omega arith))) in
          let here : body_at s n ≡ body_of f = slot n (omega arith) ∙ ap body_of (slot_same st f l) in
          ap (λ (r : Reading). onward r s n) before
          ∙ ap (λ body. answered (entered b body) (tag_at n)) here
          ∙ ap (λ (o : Outcome). answered o (tag_at n)) (entered_again b p q hs n eight a)
          ∙ plain_done o.board (tag_at n) (admitted_plain b p q hs) e;
    }

told : {n : ℕ} {b : Board} → Commissioned n b → Told n b
told (opening b l e) =
    let (small, is) = open_done b l e in
    subst (λ (x : Board). Told 0 x) (sym is) (told_fresh l small (open_any b l e blank))
told (admission {n} {b} p q hs c eight e) =
    let w = told c in
    let (i, free, d) = admit_done b p q hs e in
    let (same, l) = vacant_at w.standing free in
    told_next p q hs w eight l e (rw same at d)

pub no_gap : {n : ℕ} {b : Board} → Commissioned n b → Standing n b.table
no_gap c = (told c).standing

-- the sheet of such a board is in form
form_of_board : {n : ℕ} (b : Board) → Standing n b.table → InForm 2 old_body (sheet_for b) n
unfolding encode old_body
form_of_board {n} b w =
    let f : ℕ → List ℕ = λ k. body_of (slot_of b.table k) in
    let all = bodies_all w in
    let long : length (bodies_of b.table slots) ≡ n = ap length all ∙ list_length f n in
    record {
      frame = bytes_of 4 b.frame.0;
      bodies = bodies_of b.table slots;
      frame_length = bytes_length 4 b.frame.0;
      number = long;
      fit = λ k l.
          let k<n : k < n = omega arith in
          let is : get_or (bodies_of b.table slots) k [] ≡ f k = ap (λ (x : List (List ℕ)). get_or x k []) all ∙ list_at f n k [] k<n in
          eq-eqb _ _ (ap length is ∙ body_length (slot_of b.table k));
      bytes = refl;
    }

pub read_back : {n : ℕ} {b : Board} → Commissioned n b → read_of (sheet_for b) ≡ accepted b
unfolding form_of_board
read_back {n} {b} c =
    let w = told c in
    let s = sheet_for b in
    let st = w.standing in
    let g : InForm 2 old_body s n = form_of_board b st in
    let form : form_of s ≡ in_form n = old_in s g in
    let f : ℕ → List ℕ = λ k. body_of (slot_of b.table k) in
    let frame : number_in 4 (take 4 (drop 3 s)) ≡ b.frame.0 = word_back (take 4 (drop 3 s)) b.frame.0 (old_frame g) (omega (arith, w.frame_high)) in
    let bodies : (k : ℕ) → k < n → body_at s k ≡ body_of (slot_of b.table k) =
    λ k l. old_body_lem g k l ∙ ap (λ (x : List (List ℕ)). get_or x k []) (bodies_all st) ∙ list_at f n k [] l in
    read_good s form ∙ w.reads s frame bodies

-- a board with that frame and table, running or not, is read back as the commissioning board
pub read_back_any : {n : ℕ} {b : Board} (b' : Board) → Commissioned n b → b'.frame ≡ b.frame → b'.table ≡ b.table → read_of (sheet_for b') ≡ accepted b
read_back_any {n} {b} b' c f t =
    ap (λ (x : Length). read_of (encode x.0 b'.table)) f ∙ ap (λ (x : List Figures). read_of (encode b.frame.0 x)) t ∙ read_back c

-- a sheet that is written fills the buffer's begin, and the bytes behind it stay
module _ (b : Board) (buffer : List ℕ) {size : ℕ} (e : written b (length buffer) ≡ Ok size) where
  abbrev ok : ℕ → Result ℕ Refusal
  ok n = Ok n

  written_whole : (frame short : Bool) → pick frame (Err WrongPhase) (pick short (Err BufferTooShort) (Ok (length (sheet_for b)))) ≡ ok size
      → (frame ≡ false) × (short ≡ false) × (size ≡ length (sheet_for b))
  written_whole true short z = absurd (cc)
  written_whole false true z = absurd (cc)
  written_whole false false z = (refl, refl, (cc))

  tests : (eqb b.frame.0 0 ≡ false) × (ltb (length buffer) (length (sheet_for b)) ≡ false) × (size ≡ length (sheet_for b))
  unfolding written
  tests = written_whole (eqb b.frame.0 0) (ltb (length buffer) (length (sheet_for b))) e

  pub written_size : size ≡ length (sheet_for b)
  written_size = let (f, r, same) = tests in same

  pub written_bytes : filled b buffer ≡ sheet_for b ++ drop (length (sheet_for b)) buffer
  unfolding filled
  written_bytes =
      let (f, r, same) = tests in
      let room : length (sheet_for b) ≤ length buffer = ltb-false _ _ r in
      let none : 0 + length (sheet_for b) ≡ length (sheet_for b) = omega arith in
      simp f (placed_in buffer 0 (sheet_for b) (omega arith) ∙ ap (λ k. sheet_for b ++ drop k buffer) none)

  -- reading what was written
  pub read_written : {n : ℕ} → Commissioned n b → read_of (take size (filled b buffer)) ≡ accepted b
  read_written c =
      ap (λ k. read_of (take k (filled b buffer))) written_size ∙ ap (λ l. read_of (take (length (sheet_for b)) l)) written_bytes
      ∙ ap read_of (take_at (sheet_for b) (drop (length (sheet_for b)) buffer) (length (sheet_for b)) refl) ∙ read_back c
