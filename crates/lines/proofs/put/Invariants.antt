-- Each turn puts one digit in front of those that stand already.
use Rattle.std.proofs.Common.{◌≡◌, ◌-◌, ◌≤◌, List, ◌++◌, ℕ, length}
use Rattle.std.proofs.lemmas.List.Edits.{sets}
use Rattle.lines.specs.Text.{digits_of, digits_within}
use Rattle.lines.proofs.put.Given as goal

abbrev pub invariant-loop-place : goal.invariant-loop-place
invariant-loop-place l = record {
  tail : List ℕ;
  within : l.at ≤ l.place;
  full : length (digits_within (l.place - l.at) l.m) ≡ l.place - l.at;
  split : digits_of l.n ≡ digits_within (l.place - l.at) l.m ++ tail;
  stand : l.buffer ≡ sets l.fn.buffer l.place tail;
}
