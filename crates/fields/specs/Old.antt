-- The old form's own: a server's field has tag 2 and length 40.
use Rattle.std.specs.Prelude.{Bool, List, ℕ, length, eqb}
use Rattle.fields.specs.Form.{Form, form_with}

unfoldable pub old_body : List ℕ → Bool
old_body body = eqb (length body) 40

unfoldable pub form_of : List ℕ → Form
form_of sheet = form_with 2 old_body sheet
