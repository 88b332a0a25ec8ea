-- The line that the bench program prints for a line (document 01, "The bench program").
use Rattle.std.specs.Prelude.{ℕ, Bool, Option, Some, None, List, [], ◌∷◌, ◌++◌, ltb, length, drop}
use Rattle.terms.specs.Words.{pick}
use Rattle.lines.specs.Text.{digits_of}

-- the named slot, 0 to 15, or "-"
unfoldable pub named_text : Option ℕ → List ℕ
named_text None = 45 ∷ []
named_text (Some slot) = pick (ltb slot 16) (digits_of slot) (45 ∷ [])

-- a field and the byte that ends it
abbrev pub ended : List ℕ → ℕ → List ℕ
ended field c = field ++ (c ∷ [])

-- clock, named slot or "-", answer number, value, with one space between, and a line end
unfoldable pub text_of : ℕ → Option ℕ → ℕ → ℕ → List ℕ
text_of clock named number value =
    ended (digits_of clock) 32 ++ (ended (named_text named) 32 ++ (ended (digits_of number) 32 ++ ended (digits_of value) 10))

-- a buffer that is shorter than the text takes nothing of it
abbrev pub too_short : List ℕ → List ℕ → Bool
too_short buffer text = ltb (length buffer) (length text)

-- how many bytes are written
unfoldable pub written_count : List ℕ → List ℕ → ℕ
written_count buffer text = pick (too_short buffer text) 0 (length text)

-- the buffer then: the text at its start, and the bytes behind as they were
unfoldable pub written : List ℕ → List ℕ → List ℕ
written buffer text = pick (too_short buffer text) buffer (text ++ drop (length text) buffer)
