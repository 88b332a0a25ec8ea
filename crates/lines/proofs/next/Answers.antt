-- What is held after a step, by where the next line end is found.
use Rattle.std.proofs.Common.{◌<◌, length, sym, ◌∙◌, arith}
use Rattle.lines.proofs.Blocks.{step_outside, step_rest, step_ended}
use Rattle.lines.proofs.next.Goals as goal

pub returns-in_default-clause-bytes : goal.returns-in_default-clause-bytes
returns-in_default-clause-bytes c =
    let a = c.args in
    let out : length a.block.now < a.from = omega (arith, c.in_default.ensures.lookup) in
    sym (step_outside a.block.now a.held.now a.from a.count out).1

pub returns-in_default-line_end-clause-bytes : goal.returns-in_default-line_end-clause-bytes
returns-in_default-line_end-clause-bytes c =
    let a = c.args in
    let r = c.in-Some.ensures.lookup.0 in
    c.hold.ensures.bytes ∙ sym (step_rest a.block.now a.held.now a.from a.count c.in-Some.rest.now r.2 r.0 c.in_default-line_end.ensures).1

pub returns-clause-bytes : goal.returns-clause-bytes
returns-clause-bytes c =
    let a = c.args in
    let r = c.in-Some.ensures.lookup.0 in
    c.line_ended-line.ensures.bytes
    ∙ sym (step_ended a.block.now a.held.now a.from a.count c.in-Some.rest.now r.2 r.0 c.in-Some-line_end.size c.in-Some-line_end.ensures).1
