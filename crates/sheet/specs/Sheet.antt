-- The sheet of a board (document 01, "The sheet"): what is written, and what is read.
use Rattle.std.specs.Prelude.{ℕ, zero, suc, ◌+◌, ◌*◌, List, [], ◌∷◌, ◌++◌, length, take, drop, ltb, eqb, Result, Ok, Err}
use Rattle.terms.specs.Words.{pick, list}
use Rattle.timing.specs.declared.Figures.{Figures}
use Rattle.timing.specs.Timing.{present, hold}
use Rattle.admission.specs.Admission.{slots, slot_of}
use Rattle.refusals.specs.declared.Refusal.{Refusal}
use Rattle.refusals.specs.declared.Refusal.TheVariants.{WrongPhase, NotWellFormed, BufferTooShort, Other}
use Rattle.board.specs.declared.Board.{Board}
use Rattle.board.specs.declared.Outcome.{Outcome}
use Rattle.board.specs.declared.Answer.{Answer}
use Rattle.board.specs.declared.Answer.TheVariants as answer
use Rattle.board.specs.Board.{number_of}
use Rattle.board.specs.Calls.{blank, opened, admitted}
use Rattle.fields.specs.Numbers.{bytes_of, number_in, placed}
use Rattle.fields.specs.Form.{Form, sheet_of}
use Rattle.fields.specs.Old.{form_of}
use Rattle.sheet.specs.declared.BadSheet.{BadSheet}

-- the holds of the resources below n, four bytes each
unfoldable pub holds_of : Figures → ℕ → List ℕ
holds_of f zero = []
holds_of f (suc n) = holds_of f n ++ bytes_of 4 (hold f n).0

-- a server's body: P, Q, eight holds, four bytes each
unfoldable pub body_of : Figures → List ℕ
body_of f = bytes_of 4 f.period.0 ++ (bytes_of 4 f.budget.0 ++ holds_of f 8)

-- the bodies of the servers in the slots below n, in slot order; a slot that is not in the table adds nothing
unfoldable pub bodies_of : List Figures → ℕ → List (List ℕ)
bodies_of t zero = []
bodies_of t (suc n) = bodies_of t n ++ pick (present (slot_of t n)) (body_of (slot_of t n) ∷ []) []

-- the sheet of a frame and a table: tag 1 with the frame, tag 2 for each server, tag 255
unfoldable pub encode : ℕ → List Figures → List ℕ
encode frame t = sheet_of 2 (bytes_of 4 frame) (bodies_of t slots)

abbrev pub sheet_for : Board → List ℕ
sheet_for b = encode b.frame.0 b.table

-- writing: 1 without a frame, 23 with a short buffer, otherwise the number of bytes written
unfoldable pub written : Board → ℕ → Result ℕ Refusal
written b room =
    pick (eqb b.frame.0 0) (Err WrongPhase)
    (pick (ltb room (length (sheet_for b))) (Err BufferTooShort) (Ok (length (sheet_for b))))

-- the buffer after it: the sheet from its begin on, and bytes after the sheet stay; nothing moves without a frame or where the sheet does not fit
unfoldable pub filled : Board → List ℕ → List ℕ
filled b buffer = pick (eqb b.frame.0 0) buffer (placed buffer 0 (sheet_for b))

-- the k-th number of a body, four bytes each
unfoldable pub number_at : List ℕ → ℕ → ℕ
number_at body k = number_in 4 (take 4 (drop (4 * k) body))

-- the offset of the i-th server's tag, and its body: the stretch of the sheet that it is
abbrev pub tag_at : ℕ → ℕ
tag_at i = 7 + 43 * i

abbrev pub body_at : List ℕ → ℕ → List ℕ
body_at sheet i = take 40 (drop (tag_at i + 3) sheet)

-- a body admitted: P, Q, eight holds
unfoldable pub entered : Board → List ℕ → Outcome
entered b body = admitted b (number_at body 0) (number_at body 1) (list (λ r. number_at body (r + 2)) 8)

-- a sheet that is accepted yields a board; a refused one yields none, but the refusal and the offset of the refused field
abbrev pub Reading : Type 0
Reading = Result Board BadSheet

abbrev pub accepted : Board → Reading
accepted b = Ok b

abbrev pub refused_at : Refusal → ℕ → Reading
refused_at why offset = Err (record { refusal = why; offset = offset })

-- why a call with another number than 0 yields no board: its own refusal, or that number
unfoldable pub why_not : Answer → Refusal
why_not (answer.Refused why) = why
why_not a = Other (number_of a)

-- a call with a field: its next board, or its own refusal at the field's tag
unfoldable pub answered_by : Answer → Board → ℕ → Reading
answered_by a b tag = pick (eqb (number_of a) 0) (accepted b) (refused_at (why_not a) tag)

abbrev pub answered : Outcome → ℕ → Reading
answered o tag = answered_by o.answer o.board tag

-- the next server is admitted where nothing before it was refused
unfoldable pub onward : Reading → List ℕ → ℕ → Reading
onward (Ok b) sheet i = answered (entered b (body_at sheet i)) (tag_at i)
onward (Err e) sheet i = Err e

-- the frame, and the first n servers in order
unfoldable pub read_first : List ℕ → ℕ → Reading
read_first sheet zero = answered (opened blank (number_in 4 (take 4 (drop 3 sheet)))) 0
read_first sheet (suc n) = onward (read_first sheet n) sheet n

-- reading: form first over the whole sheet (19 at the first bad field), then the frame and admissions in order, with their own refusals
unfoldable pub read_as : Form → List ℕ → Reading
read_as (Ok n) sheet = read_first sheet n
read_as (Err bad) sheet = refused_at NotWellFormed bad.offset

unfoldable pub read_of : List ℕ → Reading
read_of sheet = read_as (form_of sheet) sheet
