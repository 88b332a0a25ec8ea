-- Bytes that fit are all taken at once.
use Rattle.std.proofs.Common.{ap, ◌∙◌, ◌++◌, length}
use Rattle.output.specs.Output.{kept}
use Rattle.output.proofs.Room.{all_fits, all_taken}
use Rattle.output.proofs.OutputWrite.write_all.Goals as goal

pub returns-clause-whole : goal.returns-clause-whole
returns-clause-whole g c fits =
    let bs = c.args.buf.now in
    let e = c.in_ok-write.ensures.count ∙ all_fits g.row.N c.args.self.now bs fits in
    c.in_ok-write.ensures.ok ∙ ap (λ x. kept g.row.N c.args.self.now (length bs) ++ x) (all_taken c.in_ok-write.field-0 bs e)
