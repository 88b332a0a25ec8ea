-- By the line's first two bytes; a letter alone asks what it asks with no numbers.
use Rattle.std.proofs.Common.{◌≡◌, sym, ap, ◌∙◌, get_or, arith}
use Rattle.lines.specs.Calls.{call_of}
use Rattle.lines.proofs.Gathering.{called_by}
use Rattle.lines.proofs.Whole.{line_alone, line_numbers}
use Rattle.lines.proofs.take_apart.Goals as goal

pub returns-in-len1 : goal.returns-in-len1
returns-in-len1 c = c.call_by.ensures ∙ sym (line_alone c.args.line.now c.in-len1.len_at_least c.in-len1.len_below)

pub returns-in-Some : goal.returns-in-Some
returns-in-Some c =
    let l = c.args.line.now in
    let space : get_or l 1 0 ≡ 32 = omega arith in
    c.call_by-in-Some.ensures ∙ ap (call_of (get_or l 0 0)) c.deref.ensures.0 ∙ ap (called_by (get_or l 0 0)) c.in-Some.ensures
    ∙ sym (line_numbers l c.in-32.len_at_least c.if-line-gt-LONGEST.false space)

pub returns-in-None : goal.returns-in-None
returns-in-None c =
    let l = c.args.line.now in
    let space : get_or l 1 0 ≡ 32 = omega arith in
    ap (called_by (get_or l 0 0)) c.in-None.ensures
    ∙ sym (line_numbers l c.in-32.len_at_least c.if-line-gt-LONGEST.false space)
