-- The sheet's fields: one byte tag, two bytes length, body.
use Rattle.std.specs.Prelude.{ℕ, ◌+◌, List, ◌∷◌, ◌++◌, length, get_or, take, drop, leb, ltb}
use Rattle.terms.specs.Words.{pick}
use Rattle.fields.specs.Numbers.{number_of, bytes_of}
use Rattle.fields.specs.declared.Head.{Head}
use Rattle.fields.specs.declared.Head.TheVariants.{Missing, Cut, Field}

-- a field's head: its tag and its body's length
abbrev pub head_of : ℕ → ℕ → List ℕ
head_of tag size = tag ∷ bytes_of 2 size

-- a field of a tag and a body
unfoldable pub field_of : ℕ → List ℕ → List ℕ
field_of tag body = head_of tag (length body) ++ body

-- the length that the head at an offset says
unfoldable pub length_at : List ℕ → ℕ → ℕ
length_at sheet at = number_of (take 2 (drop (at + 1) sheet))

-- the field at an offset: missing where the sheet ends, cut off where its head or body runs past the end
unfoldable pub head_at : List ℕ → ℕ → Head
head_at sheet at =
    pick (leb (length sheet) at) Missing
    (pick (ltb (length sheet) (at + 3 + length_at sheet at)) Cut
    (Field (get_or sheet at 0) (at + 3) (length_at sheet at)))
