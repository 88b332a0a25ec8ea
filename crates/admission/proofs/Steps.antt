-- The code's steps come to the test itself: sums, some and every are those of the definitions, and the longest wait is the same largest
-- whether it goes by server first or by resource first.
use Prim.Native.Nat.{ℕ, ◌≤◌, ◌<◌}
use mathlib.Core.Path.{◌≡◌, sym, ◌∙◌}
use mathlib.Core.Logic.{⊎_elim}
use mathlib.Core.Bool.{true, false, ◌&&◌}
use mathlib.Core.List.{List}
use lib.ListN.{length, get_or}
use lib.Seq.{ext_get_or}
use native.Mathlib.Omega.{arith}
use native.Mathlib.Nat.{le_antisymm, le_trans}
use lib.Dec.{ltb}
use Rattle.terms.specs.Words.{when, sum, largest, every, some, list}
use Rattle.terms.proofs.Over.{largest_upper, largest_least, list_length, list_at}
use Rattle.terms.proofs.Tests.{true_or_false}
use Rattle.quantity.specs.declared.Length.{Length}
use Rattle.quantity.specs.Quantity.{ticks}
use Rattle.timing.specs.declared.Figures.{Figures}
use Rattle.admission.specs.Admission.{slots, slot_of, period_of, hold_of, load, used, longest_wait, passes}
use Rattle.admission.specs.Admission.Text.{load_is, used_is, longest_wait_is, passes_is}
use Rattle.admission.specs.Steps.{counted_in, uses_up_to, hold_above, longest_hold, wait_for, slot_fits}

module _ (t : List Figures) where
  pub load_steps : (l p : ℕ) → load t l p ≡ sum (λ i. counted_in (slot_of t i) l p) slots
  unfolding counted_in
  load_steps l p = load_is t l p

  pub used_steps : (p r : ℕ) → used t p r ≡ some (λ x. uses_up_to (slot_of t x) p r) slots
  unfolding uses_up_to
  used_steps p r = used_is t p r

  pub passes_steps : (l : ℕ) → passes t l ≡ every (λ k. slot_fits t l (slot_of t k)) slots
  unfolding slot_fits
  passes_steps l = passes_is t l

  -- the longest wait by server and by resource: each hold counts in both
  module _ (p : ℕ) where
    abbrev by_server : ℕ → ℕ → ℕ
    by_server j r = when (ltb p (period_of t j) && used t p r) (hold_of t j r)

    abbrev by_resource : ℕ → ℕ
    by_resource r = (wait_for t p r).0

    same_wait : (j r : ℕ) → used t p r ≡ true → by_server j r ≡ (hold_above (slot_of t j) p r).0
    unfolding hold_above
    same_wait j r u =
        ⊎_elim (λ (e : ltb p (period_of t j) ≡ true). simp (e, u)) (λ (e : ltb p (period_of t j) ≡ false). simp e)
        (true_or_false (ltb p (period_of t j)))

    no_wait : (j r : ℕ) → used t p r ≡ false → by_server j r ≡ 0
    no_wait j r u =
        ⊎_elim (λ (e : ltb p (period_of t j) ≡ true). simp (e, u)) (λ (e : ltb p (period_of t j) ≡ false). simp e)
        (true_or_false (ltb p (period_of t j)))

    wait_for_used : (r : ℕ) → used t p r ≡ true → (wait_for t p r).0 ≡ largest (λ j. (hold_above (slot_of t j) p r).0) slots
    unfolding wait_for longest_hold
    wait_for_used r u = simp u

    wait_for_unused : (r : ℕ) → used t p r ≡ false → (wait_for t p r).0 ≡ 0
    unfolding wait_for
    wait_for_unused r u = simp u

    one_of_server : (j r : ℕ) → j < slots → by_server j r ≤ by_resource r
    one_of_server j r h =
        ⊎_elim (λ u. omega (arith, same_wait j r u, wait_for_used r u, largest_upper (λ j. (hold_above (slot_of t j) p r).0) slots j h))
        (λ u. omega (arith, no_wait j r u)) (true_or_false (used t p r))

    one_of_resource : (r b : ℕ) → ((j : ℕ) → j < slots → by_server j r ≤ b) → by_resource r ≤ b
    one_of_resource r b h =
        ⊎_elim (λ u. omega (arith, wait_for_used r u, largest_least (λ j. (hold_above (slot_of t j) p r).0) slots b (λ j k. omega (arith, same_wait j r u, h j k))))
        (λ u. omega (arith, wait_for_unused r u)) (true_or_false (used t p r))

    pub wait_steps : longest_wait t p ≡ largest by_resource 8
    wait_steps =
        longest_wait_is t p ∙ le_antisymm
        (largest_least (λ j. largest (by_server j) 8) slots (largest by_resource 8) (λ j h.
        largest_least (by_server j) 8 (largest by_resource 8) (λ r k. le_trans (one_of_server j r h) (largest_upper by_resource 8 r k))))
        (largest_least by_resource 8 (largest (λ j. largest (by_server j) 8) slots) (λ r k.
        one_of_resource r (largest (λ j. largest (by_server j) 8) slots) (λ j h.
        le_trans (largest_upper (by_server j) 8 r k) (largest_upper (λ j. largest (by_server j) 8) slots j h))))

-- eight lengths that are each what f says are the list of them
pub list_of : (ls : List Length) (f : ℕ → Length) → length ls ≡ 8 → ((i : ℕ) → i < 8 → get_or ls i (ticks 0) ≡ f i) → ls ≡ list f 8
list_of ls f e h =
    ext_get_or (ticks 0) ls (list f 8) (e ∙ sym (list_length f 8)) (λ i l.
    let k : i < 8 = omega arith in
    h i k ∙ sym (list_at f 8 i (ticks 0) k))
