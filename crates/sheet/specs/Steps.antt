-- The steps in which the code goes over the slots; proofs/ show that they come to the definitions.
use Rattle.std.specs.Prelude.{ℕ, List, []}
use Rattle.terms.specs.Words.{pick}
use Rattle.timing.specs.declared.Figures.{Figures}
use Rattle.timing.specs.Timing.{present}
use Rattle.fields.specs.Fields.{field_of}
use Rattle.sheet.specs.Sheet.{body_of}

-- what a slot adds to the sheet
unfoldable pub slot_bytes : Figures → List ℕ
slot_bytes f = pick (present f) (field_of 2 (body_of f)) []
