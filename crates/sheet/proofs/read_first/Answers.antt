-- What is refused at a server is what the whole sheet is refused with.
use Rattle.std.proofs.Common.{◌≡◌, ◌+◌, sym, ap, ◌∙◌, arith, rules, Err}
use Rattle.sheet.specs.Sheet.{Reading, onward, read_first}
use Rattle.sheet.proofs.Answers.{first_next, first_refused}
use Rattle.sheet.proofs.read_first.Goals as goal

pub returns-in_err-board-2 : goal.returns-in_err-board-2
returns-in_err-board-2 c =
    let s = c.args.sheet.now in
    let w = c.loop-i in
    let e = c.in_err-board-2.field-0.0 in
    let same : c.from_residual-in_err-board-2.result ≡ Err e = search rules in
    let here : read_first s (w.i + 1) ≡ Err e =
    first_next s w.i ∙ ap (λ (r : Reading). onward r s w.i) w.invariant ∙ sym c.onward.ensures ∙ c.in_err-board-2.was in
    same ∙ sym (first_refused s (w.i + 1) c.args.n (omega arith) here)
