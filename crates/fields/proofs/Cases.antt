-- Sheets of the old form with the answers that the document's words give them, computed: what is missing, wrong, cut off or behind the end.
use Prim.Native.Nat.{ℕ}
use mathlib.Core.Bool.{Bool, false, ◌&&◌}
use mathlib.Core.List.{List, [], ◌∷◌, ◌++◌}
use lib.ListN.{replicate, take}
use lib.Dec.{T, eqb}
use Rattle.fields.specs.Numbers.{number_of, bytes_of}
use Rattle.fields.specs.Fields.{field_of, length_at, head_at}
use Rattle.std.specs.Prelude.{Ok, Err}
use Rattle.fields.specs.Form.{Form, servers_of, sheet_of, place_of, place_at, form_by, form_from, frame_then, form_with}
use Rattle.fields.specs.Old.{old_body, form_of}

abbrev frame : List ℕ
frame = field_of 1 (0 ∷ 0 ∷ 0 ∷ 60 ∷ [])

abbrev server : ℕ → List ℕ
server size = field_of 2 (replicate size 3)

abbrev sheet : ℕ → List ℕ
sheet n = sheet_of 2 (0 ∷ 0 ∷ 0 ∷ 60 ∷ []) (replicate n (replicate 40 3))

abbrev is_good : Form → ℕ → Bool
is_good (Ok m) n = eqb m n
is_good (Err e) n = false

abbrev is_bad : Form → ℕ → Bool
is_bad (Ok m) at = false
is_bad (Err e) at = eqb e.offset at

abbrev good : List ℕ → ℕ → Bool
good s n = is_good (form_of s) n

abbrev bad : List ℕ → ℕ → Bool
bad s at = is_bad (form_of s) at

-- in form: no server, one, and seventeen
abbrev in_form_lem : Bool
in_form_lem =
    good (sheet 0) 0 && good (sheet 1) 1 && good (sheet 17) 17

-- missing: an empty sheet, a frame alone, and a server's field with nothing behind it
abbrev missing : Bool
missing =
    bad [] 0 && bad frame 7 && bad (frame ++ server 40) 50

-- wrong: no frame first, a frame of five bytes, a second frame, a server's field of 39 bytes, an unknown tag, a closing field with a body
abbrev wrong : Bool
wrong =
    bad (server 40) 0 && bad (field_of 1 (replicate 5 0)) 0 && bad (frame ++ frame) 7 && bad (frame ++ server 39) 7
    && bad (frame ++ server 40 ++ field_of 9 []) 50 && bad (frame ++ field_of 255 (0 ∷ [])) 7

-- cut off in the head and in the body, and bytes behind the end
abbrev cut_or_behind : Bool
cut_or_behind =
    bad (take 2 frame) 0 && bad (take 6 frame) 0 && bad (frame ++ take 42 (server 40)) 7 && bad (frame ++ server 40 ++ (255 ∷ 0 ∷ [])) 50
    && bad (sheet 0 ++ (7 ∷ [])) 10 && bad (sheet 1 ++ sheet 1) 53

pub answers : T (in_form_lem && missing && wrong && cut_or_behind)
unfolding form_of form_with frame_then form_from form_by place_at place_of head_at length_at number_of old_body sheet_of servers_of field_of bytes_of
answers = tt
