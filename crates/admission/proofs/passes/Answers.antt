-- Every server passes exactly if the server at every place does.
use Rattle.std.proofs.Common.{◌∙◌, sym, rules, []}
use Rattle.std.proofs.lemmas.Iterator.{YieldsList-from_slice}
use Rattle.std.proofs.lemmas.Iterator.Search.{all_from_yields_List}
use borrow.Author.Tests.{tests}
use Rattle.quantity.specs.Quantity.{ticks}
use Rattle.timing.specs.declared.Figures.{Figures}
use Rattle.admission.specs.Admission.{slots}
use Rattle.admission.specs.Steps.{slot_fits}
use Rattle.admission.proofs.Lists.{all_is_every}
use Rattle.admission.proofs.Steps.{passes_steps}
use Rattle.admission.proofs.passes.Goals as goal

pub returns : goal.returns
returns c =
    let a = c.args in
    let test = λ (f : Figures). slot_fits a.table a.frame.0 f in
    all_from_yields_List test _ _ c.all.result c.all.ensures.ran (YieldsList-from_slice a.table (cc)) (λ x b q k. search (rules, tests))
    ∙ all_is_every (record { period = ticks 0; budget = ticks 0; holds = [] }) test a.table slots (search rules)
    ∙ sym (passes_steps a.table a.frame.0)
