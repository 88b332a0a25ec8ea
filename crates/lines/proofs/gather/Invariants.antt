-- As far as the loop has come, the fields that are left come to the same numbers.
use Rattle.std.proofs.Common.{◌≡◌, ℕ, List, ◌≤◌, length}
use Rattle.std.proofs.lemmas.Iterator.{YieldsList}
use Rattle.lines.specs.Text.{fields_of}
use Rattle.lines.specs.Steps.{gathered}
use Rattle.lines.proofs.Gathering.{gathered_behind}
use Rattle.lines.proofs.gather.Given as goal

abbrev pub invariant-loop-field : goal.invariant-loop-field
invariant-loop-field l = record {
  rest : List (List ℕ);
  yields : YieldsList (goal.iterator-loop-field).next_gives (λ x. x.now) l.field-iterator rest;
  within : length l.numbers.items ≤ 10;
  onward : gathered_behind l.numbers.items rest ≡ gathered (fields_of l.fields);
}
