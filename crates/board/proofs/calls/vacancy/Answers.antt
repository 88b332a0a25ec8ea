-- The position of the first slot that is not in the table: it is not, and every one before it is.
use Rattle.std.proofs.Common.{◌≡◌, ℕ, ◌<◌, List, length, true, false, not, ap, sym, ◌∙◌, arith, rules, tests}
use Rattle.std.proofs.lemmas.Iterator.{IsFirst-from_position, YieldsList-from_slice}
use Rattle.std.specs.List.{AllWithin, HoldsAt}
use Rattle.std.specs.Option.{MatchOption}
use Rattle.std.specs.Prelude.{Option, Some, None}
use Rattle.timing.specs.declared.Figures.{Figures}
use Rattle.timing.specs.Timing.{present}
use Rattle.admission.specs.Admission.{in_table}
use Rattle.board.specs.Calls.{vacancy}
use Rattle.board.proofs.Search.{search_none, search_first}
use Rattle.board.proofs.calls.vacancy.Goals as goal

found : (t : List Figures) (r : Option ℕ) → length t ≡ 16
    → MatchOption r (AllWithin (λ f. present f ≡ true) t 0 (length t)) (λ i. (i < length t) × HoldsAt (λ f. present f ≡ false) t i × AllWithin (λ f. present f ≡ true) t 0 i)
    → r ≡ vacancy t
unfolding vacancy
found t None e h = sym (search_none (λ i. not (in_table t i)) 16 (λ j l. ap not (h j _ (omega arith) (omega (arith, e)))))
found t (Some i) e (l, here, h) =
    sym (search_first (λ j. not (in_table t j)) 16 i (omega (arith, e))
    (search_none (λ j. not (in_table t j)) i (λ j m. ap not (h j _ (omega arith) m))) (ap not (here _)))

pub returns : goal.returns
returns c =
    let same : c.map.result ≡ c.position.result = grind arith in
    same ∙ found _ _ (search rules) (IsFirst-from_position _ _ _ (λ f. present f ≡ false) (λ f. present f ≡ true) c.position.ensures.ran (YieldsList-from_slice c.args.table cc) (λ x q k. search (rules, tests)) (λ x q k. search (rules, tests)))
