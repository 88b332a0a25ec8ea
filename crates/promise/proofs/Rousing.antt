-- The end of a tick: who has run out is spent, and whoever's instant has come is replenished; nothing else moves.
use Prim.Native.Nat.{ℕ, ◌<◌, ◌≤◌}
use mathlib.Core.Path.{◌≡◌, refl, sym, ap, ◌∙◌}
use mathlib.Core.Logic.{⊎_elim}
use mathlib.Core.Bool.{Bool, false}
use native.Mathlib.Omega.{arith}
use native.Mathlib.Decide.{dec_lt}
use lib.ListN.{length}
use borrow.Author.Tests.{eq-eqb, ne_eqb}
use Rattle.terms.proofs.Over.{list_length, list_at, some_in}
use Rattle.terms.proofs.Tests.{not_both, true_or_false, either, by_test}
use Rattle.quantity.specs.declared.Instant.{Instant}
use Rattle.quantity.specs.declared.Length.{Length}
use Rattle.timing.specs.declared.Figures.{Figures}
use Rattle.timing.specs.declared.Life.{Life}
use Rattle.timing.specs.declared.State.TheVariants.{Ready, Spent}
use Rattle.timing.specs.declared.Lock.{Lock}
use Rattle.timing.specs.declared.Lock.TheVariants.{Free, On}
use Rattle.timing.specs.Timing.{begun, in_state, replenished, settled, due, woken}
use Rattle.timing.specs.Timing.Laws.{replenished_state, settled_spent, settled_renewed, settled_left, settled_holds, woken_spent, woken_ready, woken_not_due}
use Rattle.admission.specs.Admission.{slots}
use Rattle.board.specs.declared.Board.{Board}
use Rattle.board.specs.Board.{figures_at, life_at}
use Rattle.board.specs.Run.{any_due, woken_at, roused}
use Rattle.board.specs.Events.{run_out}

-- who has run out without a lock is spent; every other stays
module _ (y : Life) (s : Bool) where
  pub run_out_lem : y.state ≡ Ready s Free → y.left.0 ≡ 0 → run_out y ≡ in_state y Spent
  unfolding run_out
  run_out_lem e z = simp (e, eq-eqb _ _ z)

  pub run_on : y.state ≡ Ready s Free → 0 < y.left.0 → run_out y ≡ y
  unfolding run_out
  run_on e h = let ne : y.left.0 ≡ 0 → ⊥ = λ z. omega arith in simp (e, ne_eqb _ _ ne)

  pub run_held : (r : ℕ) (k : Length) → y.state ≡ Ready s (On r k) → run_out y ≡ y
  unfolding run_out
  run_held r k e = simp e

  -- the spent rule and then the instants that have come, as one
  pub settled_woken : (f : Figures) (now : Instant) (k : Lock) → y.state ≡ Ready s k → woken f (settled f y now) now ≡ woken f (run_out y) now
  settled_woken f now (On r k) e = ap (λ (x : Life). woken f x now) (settled_holds f y now s r k e ∙ sym (run_held r k e))
  settled_woken f now Free e = go (dec_lt 0 y.left.0) (dec_lt now.0 y.deadline.0)
    where
      go : Dec (0 < y.left.0) → Dec (now.0 < y.deadline.0) → woken f (settled f y now) now ≡ woken f (run_out y) now
      go (yes h) c = ap (λ (x : Life). woken f x now) (settled_left f y now s e h ∙ sym (run_on e h))
      go (no z) (yes p) =
          let q : y.left.0 ≡ 0 = omega arith in
          ap (λ (x : Life). woken f x now) (settled_spent f y now s e q p ∙ sym (run_out_lem e q))
      go (no z) (no p) =
          let q : y.left.0 ≡ 0 = omega arith in
          let d : y.deadline.0 ≤ now.0 = omega arith in
          let g = replenished f y.deadline in
          ap (λ (x : Life). woken f x now) (settled_renewed f y now s e q d) ∙ woken_ready f g now false Free (replenished_state f y.deadline)
          ∙ sym (ap (λ (x : Life). woken f x now) (run_out_lem e q) ∙ woken_spent f (in_state y Spent) now refl d)

-- the lives after the instants that have come are answered, whether the code went over the slots or not
none_due : (c : Board) (j : ℕ) → j < slots → any_due c ≡ false → due (life_at c j) c.clock ≡ false
unfolding any_due
none_due c j h e =
    ⊎_elim (λ d. absurd (not_both (some_in (λ i. due (life_at c i) c.clock) slots j h d) e)) (λ d. d) (true_or_false (due (life_at c j) c.clock))

pub roused_life : (c : Board) (j : ℕ) → j < slots → life_at (roused c) j ≡ woken (figures_at c j) (life_at c j) c.clock
unfolding roused
roused_life c j h =
    by_test (λ (d : Board). life_at d j ≡ woken (figures_at c j) (life_at c j) c.clock) (any_due c) (λ e. list_at (woken_at c) slots j begun h)
    (λ e. sym (woken_not_due (figures_at c j) (life_at c j) c.clock (none_due c j h e)))

-- and nothing else moves
pub roused_keeps : (c : Board) → length c.lives ≡ slots
    → ((roused c).frame ≡ c.frame) × ((roused c).running ≡ c.running) × ((roused c).table ≡ c.table) × ((roused c).clock ≡ c.clock)
    × ((roused c).locked ≡ c.locked) × ((roused c).closed ≡ c.closed) × (length (roused c).lives ≡ slots)
unfolding roused
roused_keeps c e =
    either (λ (d : Board). (d.frame ≡ c.frame) × (d.running ≡ c.running) × (d.table ≡ c.table) × (d.clock ≡ c.clock) × (d.locked ≡ c.locked)
    × (d.closed ≡ c.closed) × (length d.lives ≡ slots)) (any_due c) (refl, refl, refl, refl, refl, refl, list_length (woken_at c) slots)
    (refl, refl, refl, refl, refl, refl, e)
