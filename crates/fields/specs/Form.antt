-- A sheet in form: first the frame's field, then the servers' fields, last the closing field, and nothing behind it.
-- The forms of a sheet differ in the servers' fields alone: in their tag, and in a test of their bodies.
use Rattle.std.specs.Prelude.{ℕ, zero, suc, ◌+◌, ◌<◌, ◌≤◌, ◌≡◌, Bool, true, not, List, [], ◌∷◌, ◌++◌, length, get_or, take, drop, ltb, eqb, Option, Some, None, Result, Ok, Err}
use Rattle.terms.specs.Words.{pick}
use Rattle.fields.specs.Fields.{field_of, head_at}
use Rattle.fields.specs.declared.BadField.{BadField}
use Rattle.fields.specs.declared.Head.{Head}
use Rattle.fields.specs.declared.Head.TheVariants.{Missing, Cut, Field}

-- the servers' fields, in slot order
unfoldable pub servers_of : ℕ → List (List ℕ) → List ℕ
servers_of tag [] = []
servers_of tag (body ∷ bodies) = field_of tag body ++ servers_of tag bodies

-- the whole sheet
unfoldable pub sheet_of : ℕ → List ℕ → List (List ℕ) → List ℕ
sheet_of tag frame bodies = field_of 1 frame ++ (servers_of tag bodies ++ field_of 255 [])

-- every body passes the form's test
abbrev pub Each : (List ℕ → Bool) → List (List ℕ) → Type 0
Each fits bodies = (i : ℕ) → i < length bodies → fits (get_or bodies i []) ≡ true

-- what a sheet in form with n servers is
pub record InForm (tag : ℕ) (fits : List ℕ → Bool) (sheet : List ℕ) (n : ℕ) : Type 0 where
  pub frame : List ℕ
  pub bodies : List (List ℕ)
  pub frame_length : length frame ≡ 4
  pub number : length bodies ≡ n
  pub fit : Each fits bodies
  pub bytes : sheet ≡ sheet_of tag frame bodies

-- a sheet that begins, up to an offset, with the frame's field and servers' fields in form
pub record Begun (tag : ℕ) (fits : List ℕ → Bool) (sheet : List ℕ) (at : ℕ) : Type 0 where
  pub frame : List ℕ
  pub bodies : List (List ℕ)
  pub frame_length : length frame ≡ 4
  pub fit : Each fits bodies
  pub within : at ≤ length sheet
  pub bytes : take at sheet ≡ field_of 1 frame ++ servers_of tag bodies

-- what the first bad field of a sheet is: at the front, where no frame's field stands; where neither a server's nor the closing field
-- stands (the sheet's end, where a field is missing); or the first byte behind the closing field
pub data FirstBad (tag : ℕ) (fits : List ℕ → Bool) (sheet : List ℕ) (at : ℕ) : Type 0 where
  no_frame : at ≡ 0 → ((frame behind : List ℕ) → length frame ≡ 4 → sheet ≡ field_of 1 frame ++ behind → ⊥) → FirstBad tag fits sheet at
  no_field : Begun tag fits sheet at
      → ((body behind : List ℕ) → fits body ≡ true → drop at sheet ≡ field_of tag body ++ behind → ⊥)
      → ((behind : List ℕ) → drop at sheet ≡ field_of 255 [] ++ behind → ⊥) → FirstBad tag fits sheet at
  behind_last : (last : ℕ) → Begun tag fits sheet last → last + 3 ≡ at → at < length sheet
      → drop last sheet ≡ field_of 255 [] ++ drop at sheet → FirstBad tag fits sheet at

-- the answers: in form with so many servers, or not, with the offset of the first bad field
abbrev pub Form : Type 0
Form = Result ℕ BadField

abbrev pub in_form : ℕ → Form
in_form n = Ok n

abbrev pub not_in_form : ℕ → Form
not_in_form at = Err (record { offset = at })

-- what stands where a server's field or the closing field is expected: a server's with its end, the closing one with nothing behind it,
-- or a bad one
abbrev pub Place : Type 0
Place = Result (Option ℕ) BadField

abbrev pub server : ℕ → Place
server end = Ok (Some end)

abbrev pub last : Place
last = Ok None

abbrev pub bad : ℕ → Place
bad at = Err (record { offset = at })

unfoldable pub place_of : ℕ → (List ℕ → Bool) → List ℕ → ℕ → Head → Place
place_of tag fits sheet at Missing = bad (length sheet)
place_of tag fits sheet at Cut = bad at
place_of tag fits sheet at (Field t start size) =
    pick (eqb t tag) (pick (fits (take size (drop start sheet))) (server (start + size)) (bad at))
    (pick (not (eqb t 255)) (bad at)
    (pick (not (eqb size 0)) (bad at)
    (pick (ltb start (length sheet)) (bad start) last)))

unfoldable pub place_at : ℕ → (List ℕ → Bool) → List ℕ → ℕ → Place
place_at tag fits sheet at = place_of tag fits sheet at (head_at sheet at)

unfoldable pub form_by : Place → ℕ → (ℕ → Form) → Form
form_by (Ok (Some end)) n onward = onward end
form_by (Ok None) n onward = in_form n
form_by (Err e) n onward = Err e

-- the form from an offset on, behind n servers' fields, where at most `left` fields are left
unfoldable pub form_from : ℕ → (List ℕ → Bool) → List ℕ → ℕ → ℕ → ℕ → Form
form_from tag fits sheet zero at n = not_in_form at
form_from tag fits sheet (suc left) at n = form_by (place_at tag fits sheet at) n (λ end. form_from tag fits sheet left end (n + 1))

-- the form of a whole sheet: the frame's field, then the rest; a sheet has fewer fields than bytes
unfoldable pub frame_then : List ℕ → Head → Form → Form
frame_then sheet Missing onward = not_in_form (length sheet)
frame_then sheet Cut onward = not_in_form 0
frame_then sheet (Field t start size) onward = pick (not (eqb t 1)) (not_in_form 0) (pick (not (eqb size 4)) (not_in_form 0) onward)

unfoldable pub form_with : ℕ → (List ℕ → Bool) → List ℕ → Form
form_with tag fits sheet = frame_then sheet (head_at sheet 0) (form_from tag fits sheet (length sheet) 7 0)
