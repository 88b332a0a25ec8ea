-- A sheet in form has the length that its servers take.
use Rattle.std.proofs.Common.{sym, ◌∙◌, arith}
use Rattle.fields.proofs.Numbers.{slice_bytes}
use Rattle.fields.proofs.Old.{old_out, old_length}
use Rattle.sheet.proofs.read.Goals as goal

pub read_first-requires : goal.read_first-requires
read_first-requires c =
    let s = c.args.sheet.now in
    omega (arith, old_length (old_out s (slice_bytes s c.type_inv.sheet) (sym c.form_of.ensures ∙ c.in_ok-form_of.was)))
