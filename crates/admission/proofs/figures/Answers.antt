-- Each length is that of its hold, so the array is the list of them.
use Rattle.std.proofs.Common.{◌≡◌, rules, get_or}
use Rattle.terms.specs.Words.{list}
use Rattle.quantity.specs.Quantity.{ticks, length_of}
use Rattle.admission.specs.Admission.{figures_of}
use Rattle.admission.proofs.Steps.{list_of}
use Rattle.admission.proofs.figures.Goals as goal

pub returns : goal.returns
unfolding figures_of
returns c =
    let e : c.map.result ≡ list (λ i. length_of (get_or c.args.holds i 0)) 8 =
    list_of c.map.result (λ i. length_of (get_or c.args.holds i 0)) c.map.ensures.items.long (λ i l.
    let called = c.map.ensures.items.at i 0 (ticks 0) l in
    search rules) in
    search rules
