-- The test that a server's tag asks of its body: each form's own, and no body fits a tag of no form.
use Rattle.std.specs.Prelude.{ℕ, Bool, false, List, eqb}
use Rattle.terms.specs.Words.{pick}
use Rattle.fields.specs.Old.{old_body}

unfoldable pub body_fits : ℕ → List ℕ → Bool
body_fits tag body = pick (eqb tag 2) (old_body body) false
