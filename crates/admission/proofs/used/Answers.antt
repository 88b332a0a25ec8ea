-- Some server uses it exactly if the server at some place does.
use Rattle.std.proofs.Common.{◌∙◌, sym, rules, []}
use Rattle.std.proofs.lemmas.Iterator.{YieldsList-from_slice}
use Rattle.std.proofs.lemmas.Iterator.Search.{any_from_yields_List}
use borrow.Author.Tests.{tests}
use Rattle.quantity.specs.Quantity.{ticks}
use Rattle.timing.specs.declared.Figures.{Figures}
use Rattle.admission.specs.Admission.{slots}
use Rattle.admission.specs.Steps.{uses_up_to}
use Rattle.admission.proofs.Lists.{any_is_some}
use Rattle.admission.proofs.Steps.{used_steps}
use Rattle.admission.proofs.used.Goals as goal

pub returns : goal.returns
returns c =
    let a = c.args in
    let test = λ (f : Figures). uses_up_to f a.p.0 a.r in
    any_from_yields_List test _ _ c.any.result c.any.ensures.ran (YieldsList-from_slice a.table (cc)) (λ x b q k. search (rules, tests))
    ∙ any_is_some (record { period = ticks 0; budget = ticks 0; holds = [] }) test a.table slots (search rules)
    ∙ sym (used_steps a.table a.p.0 a.r)
