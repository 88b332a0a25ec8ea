-- All holds are within the budget exactly if the hold at every place is.
use Rattle.std.proofs.Common.{◌∙◌, ℕ, rules, leb}
use Rattle.std.proofs.lemmas.Iterator.{YieldsList-from_slice}
use Rattle.std.proofs.lemmas.Iterator.Search.{all_from_yields_List}
use borrow.Author.Tests.{tests}
use Rattle.admission.specs.Admission.{holds_fit}
use Rattle.admission.proofs.Lists.{all_is_every}
use Rattle.admission.proofs.holds_fit.Goals as goal

pub returns : goal.returns
unfolding holds_fit
returns c =
    let a = c.args in
    let test = λ (h : ℕ). leb h a.budget in
    all_from_yields_List test _ _ c.all.result c.all.ensures.ran (YieldsList-from_slice a.holds (cc)) (λ x b q k. search (rules, tests))
    ∙ all_is_every 0 test a.holds 8 (search rules)
