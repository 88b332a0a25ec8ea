-- What is left of the walk is the whole walk: each field passed takes one from the fields left, and three bytes or more from the sheet.
use Rattle.std.proofs.Common.{◌≡◌, ◌+◌, ◌≤◌, length, ◌-◌, ◌*◌}
use Rattle.fields.specs.Form.{form_from}
use Rattle.fields.specs.Bodies.{body_fits}
use Rattle.fields.proofs.form_from.Given as goal

abbrev pub invariant-loop-end : goal.invariant-loop-end
invariant-loop-end l = record {
  behind : l.servers * 3 + 7 ≤ l.at;
  within : l.at ≤ length l.sheet;
  onward : form_from l.tag (body_fits l.tag) l.sheet (length l.sheet - l.servers) l.at l.servers ≡ form_from l.tag (body_fits l.tag) l.sheet (length l.sheet) 7 0;
}

abbrev pub decreases-loop-end : goal.decreases-loop-end
decreases-loop-end l = length l.sheet - l.at
