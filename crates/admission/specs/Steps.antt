-- The steps in which the code works the test out; proofs/ show that they come to the test itself.
use Rattle.std.specs.Prelude.{ℕ, ◌*◌, ◌/◌, Bool, not, ◌&&◌, ◌||◌, List, ltb, leb}
use Rattle.terms.specs.Words.{pick, when, largest}
use Rattle.quantity.specs.declared.Length.{Length}
use Rattle.quantity.specs.Quantity.{ticks}
use Rattle.timing.specs.declared.Figures.{Figures}
use Rattle.timing.specs.Timing.{present, hold}
use Rattle.admission.specs.Admission.{slots, slot_of, used, fits_at}

-- the largest number of 64 bits, where sums stay: above every frame
abbrev pub enough : ℕ
enough = 18446744073709551615

-- one server's part of the load of the periods up to p
unfoldable pub counted_in : Figures → ℕ → ℕ → ℕ
counted_in f l p = when (present f && leb f.period.0 p) (f.budget.0 * (l / f.period.0))

-- one server uses r and has a period up to p
unfoldable pub uses_up_to : Figures → ℕ → ℕ → Bool
uses_up_to f p r = present f && (leb f.period.0 p && ltb 0 (hold f r).0)

-- one server's hold of r, where its period is above p
unfoldable pub hold_above : Figures → ℕ → ℕ → Length
hold_above f p r = pick (ltb p f.period.0) (hold f r) (ticks 0)

-- the largest of them
unfoldable pub longest_hold : List Figures → ℕ → ℕ → Length
longest_hold t p r = ticks (largest (λ j. (hold_above (slot_of t j) p r).0) slots)

-- the wait for r alone
unfoldable pub wait_for : List Figures → ℕ → ℕ → Length
wait_for t p r = pick (used t p r) (longest_hold t p r) (ticks 0)

-- the test at one slot
unfoldable pub slot_fits : List Figures → ℕ → Figures → Bool
slot_fits t l f = not (present f) || fits_at t l f.period.0
