-- An unlock on a started board is a step of the argument: the lock is given back, and who has run out is spent or replenished from its deadline.
use Prim.Native.Nat.{ℕ, ◌<◌, ◌≤◌}
use mathlib.Core.Path.{◌≡◌, refl, sym, ap, subst, ◌∙◌}
use mathlib.Core.Bool.{Bool, true, false, not}
use mathlib.Core.List.{List, [], ◌++◌}
use native.Mathlib.Omega.{arith}
use native.Mathlib.Decide.{dec_lt}
use lib.Dec.{eqb}
use borrow.Author.Tests.{lt-ltb, le-ltb, eq-eqb, ne_eqb}
use Rattle.terms.specs.Words.{pick}
use Rattle.resources.specs.Resources.{without}
use Rattle.resources.proofs.Laws.{without_same, without_other, without_range}
use Rattle.terms.proofs.Tests.{by_test}
use Rattle.events.specs.Events.{Event}
use Rattle.timing.specs.declared.Figures.{Figures}
use Rattle.timing.specs.declared.Life.{Life}
use Rattle.timing.specs.declared.Lock.TheVariants.{Free, On}
use Rattle.timing.specs.declared.State.{State}
use Rattle.timing.specs.declared.State.TheVariants.{Idle, Ready, Suspended, Spent, Stopped}
use Rattle.timing.specs.Timing.{in_state, replenished, settled, due}
use Rattle.timing.specs.Timing.Laws.{settled_spent, settled_renewed, settled_left}
use Rattle.quantity.specs.declared.Length.{Length}
use Rattle.admission.specs.Admission.{slots, slot_of}
use Rattle.refusals.specs.Refusals as refusals
use Rattle.refusals.specs.declared.Refusal.{Refusal}
use Rattle.refusals.specs.declared.Refusal.TheVariants.{WrongPhase, NotInTable, NotNamed, HoldsNone, ServerStopped}
use Rattle.board.specs.declared.Board.{Board}
use Rattle.board.specs.declared.Outcome.{Outcome}
use Rattle.board.specs.Board.{life_at, number_of, with_sets, named, is_slot}
use Rattle.board.specs.Calls.{refuse, unlocking, unlock_with, unlock_ready, unlock_in, unlocks}
use Rattle.board.specs.Events.{run_out, renewal}
use Rattle.board.proofs.Checked.{by_standing}
use Rattle.guarantee.specs.Step.{drops}
use Rattle.guarantee.specs.Step as steps
use Rattle.promise.proofs.Lawful.{Kept}
use Rattle.promise.proofs.Look.{view_in, view_by}
use Rattle.promise.proofs.Bound.{Bound, still, served, figures_are, renewed_view, renewed_date, moved}

module _ (n l : ℕ) (t : List Figures) (w : Kept n l t) (b : Board) (es : List Event) (B : Bound n l t w b es) (i : ℕ) where
  abbrev x : Life
  x = life_at b i

  -- what an unlock tells
  abbrev tells : List Event
  tells = renewal i (run_out (in_state x (Ready true Free))) b.clock

  abbrev Unlocks : Outcome → Type 0
  Unlocks o = Bound n l t w o.board (es ++ pick (eqb (number_of o.answer) 0) tells [])

  refused : (why : Refusal) → eqb (refusals.number_of why) 0 ≡ false → Unlocks (refuse b why)
  refused why e = rw e (still n l t w b es B)

  module _ (slot : i < slots) (server : i < n) (s : Bool) (r : ℕ) (k : Length) (e : x.state ≡ Ready s (On r k)) where
    abbrev f : Figures
    f = slot_of t i

    -- without its lock
    abbrev y : Life
    y = in_state x (Ready s Free)

    abbrev ends : Life → Type 0
    ends z = Bound n l t w (with_sets b i z (without b.locked r) b.closed) (es ++ tells)

    some_left : 0 < x.left.0 → ends (settled f y b.clock)
    unfolding renewal run_out due
    some_left h =
        let ne : x.left.0 ≡ 0 → ⊥ = λ z. omega arith in
        subst ends (sym (settled_left f y b.clock s refl h))
        (moved n l t w b es B i slot y (without b.locked r) b.closed (drops r) _ _ tells (view_by x (Ready s (On r k)) e) refl
        (steps.unlocks h, rw (ne_eqb _ _ ne) refl) (without_same b.locked r, λ j ne. without_other b.locked r j ne) (without_range b.locked r B.locked) B.closed (B.dates i))

    none_left : x.left.0 ≡ 0 → b.clock.0 < x.deadline.0 → ends (settled f y b.clock)
    unfolding renewal run_out due
    none_left z h =
        subst ends (sym (settled_spent f y b.clock s refl z h))
        (moved n l t w b es B i slot (in_state y Spent) (without b.locked r) b.closed (drops r) _ _ tells
        (view_by x (Ready s (On r k)) e ∙ ap (λ (q : ℕ). view_in (Ready s (On r k)) q x.deadline.0) z)
        (ap (λ (q : ℕ). view_in Spent q x.deadline.0) z)
        (steps.unlocks_spent h, rw (eq-eqb _ _ z, lt-ltb _ _ h) refl) (without_same b.locked r, λ j ne. without_other b.locked r j ne) (without_range b.locked r B.locked) B.closed (B.dates i))

    renewed : x.left.0 ≡ 0 → x.deadline.0 ≤ b.clock.0 → ends (settled f y b.clock)
    unfolding renewal run_out due
    renewed z h =
        subst ends (sym (settled_renewed f y b.clock s refl z h))
        (moved n l t w b es B i slot (replenished f x.deadline) (without b.locked r) b.closed (drops r) _ _ tells
        (view_by x (Ready s (On r k)) e ∙ ap (λ (q : ℕ). view_in (Ready s (On r k)) q x.deadline.0) z)
        (renewed_view n l t w i server x.deadline (omega (arith, h, B.clock)))
        (steps.unlocks_renewed h, rw (eq-eqb _ _ z, le-ltb _ _ h) refl) (without_same b.locked r, λ j ne. without_other b.locked r j ne) (without_range b.locked r B.locked) B.closed
        (renewed_date n l t w i server x.deadline b.clock.0 h B.clock))

    unlock_given : Unlocks (unlocking b i s r)
    unfolding unlocking
    unlock_given = subst (λ (g : Figures). ends (settled g y b.clock)) (sym (figures_are n l t w b es B i))
        (go (dec_lt 0 x.left.0) (dec_lt b.clock.0 x.deadline.0))
      where
        go : Dec (0 < x.left.0) → Dec (b.clock.0 < x.deadline.0) → ends (settled f y b.clock)
        go (yes h) c = some_left h
        go (no z) (yes k) = none_left (omega arith) k
        go (no z) (no k) = renewed (omega arith) (omega arith)

  module _ (slot : i < slots) (server : i < n) where
    unlock_in_lem : (s : State) → x.state ≡ s → Unlocks (unlock_in s b i)
    unfolding unlock_in unlock_ready unlock_with
    unlock_in_lem (Ready s Free) e = by_test Unlocks (not (is_slot (named b) i)) (λ z. refused NotNamed refl) (λ z. refused HoldsNone refl)
    unlock_in_lem (Ready s (On r k)) e =
        by_test Unlocks (not (is_slot (named b) i)) (λ z. refused NotNamed refl) (λ z. unlock_given slot server s r k e)
    unlock_in_lem Idle e = refused NotNamed refl
    unlock_in_lem (Suspended t) e = refused NotNamed refl
    unlock_in_lem Spent e = refused NotNamed refl
    unlock_in_lem Stopped e = refused NotNamed refl

  pub unlock_bound : Unlocks (unlocks b i)
  unfolding unlocks
  unlock_bound = by_standing Unlocks b i _ (refused WrongPhase refl) (refused NotInTable refl) (refused ServerStopped refl)
      (λ slot here. unlock_in_lem slot (served n l t w b es B i here) x.state refl)
