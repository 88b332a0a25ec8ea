-- An arrival on a started board is a step of the argument: suspended until tr, or replenished from now.
use Prim.Native.Nat.{ℕ, ◌<◌, ◌≤◌}
use mathlib.Core.Path.{◌≡◌, refl, sym, subst}
use mathlib.Core.Bool.{false}
use mathlib.Core.List.{List, [], ◌∷◌, ◌++◌}
use native.Mathlib.Omega.{arith}
use native.Mathlib.Decide.{dec_lt}
use lib.Dec.{eqb}
use Rattle.terms.specs.Words.{pick}
use Rattle.events.specs.Events.{Event, Replenished}
use Rattle.timing.specs.declared.Figures.{Figures}
use Rattle.timing.specs.declared.Life.{Life}
use Rattle.timing.specs.declared.Ruled.{Ruled}
use Rattle.timing.specs.declared.State.{State}
use Rattle.timing.specs.declared.State.TheVariants.{Idle, Ready, Suspended, Spent, Stopped}
use Rattle.timing.specs.Timing.{tr, in_state, replenished, arrived}
use Rattle.timing.specs.Timing.Laws.{arrived_later, arrived_now}
use Rattle.admission.specs.Admission.{slots, slot_of}
use Rattle.refusals.specs.Refusals as refusals
use Rattle.refusals.specs.declared.Refusal.{Refusal}
use Rattle.refusals.specs.declared.Refusal.TheVariants.{WrongPhase, NotInTable, NotIdle, ServerStopped}
use Rattle.board.specs.declared.Board.{Board}
use Rattle.board.specs.declared.Outcome.{Outcome}
use Rattle.board.specs.Board.{life_at, number_of, out, with_life}
use Rattle.board.specs.Calls.{refuse, answer_to, arrived_in, arrives}
use Rattle.board.proofs.Checked.{by_standing}
use Rattle.guarantee.specs.Step as steps
use Rattle.promise.proofs.Lawful.{Kept}
use Rattle.promise.proofs.Look.{view_by}
use Rattle.promise.proofs.Bound.{Bound, still, served, figures_are, tr_same, renewed_view, renewed_date, lived}

module _ (n l : ℕ) (t : List Figures) (w : Kept n l t) (b : Board) (es : List Event) (B : Bound n l t w b es) (i : ℕ) where
  -- what an arrival's outcome says, by its number
  abbrev Arrives : Outcome → Type 0
  Arrives o = Bound n l t w o.board (es ++ pick (eqb (number_of o.answer) 0) (Replenished i b.clock.0 ∷ []) [])

  refused : (why : Refusal) → eqb (refusals.number_of why) 0 ≡ false → Arrives (refuse b why)
  refused why e = rw e (still n l t w b es B)

  module _ (slot : i < slots) (server : i < n) (e : (life_at b i).state ≡ Idle) where
    abbrev x : Life
    x = life_at b i

    abbrev ruled : Ruled → Type 0
    ruled o = Arrives (out (with_life b i o.life) (answer_to o.ruling))

    later : b.clock.0 < (tr (slot_of t i) x).0 → ruled (arrived (slot_of t i) x b.clock)
    later h =
        subst ruled (sym (arrived_later (slot_of t i) x b.clock h))
        (lived n l t w b es B i slot (in_state x (Suspended (tr (slot_of t i) x))) _ _ [] (view_by x Idle e) refl
        (rw (tr_same n l t w i server x) (steps.arrives_later {q = x.left.0} {z = 0} {d = x.deadline.0} (server, refl) (omega (arith, h, tr_same n l t w i server x))), refl)
        (B.dates i))

    now : (tr (slot_of t i) x).0 ≤ b.clock.0 → ruled (arrived (slot_of t i) x b.clock)
    now h =
        subst ruled (sym (arrived_now (slot_of t i) x b.clock h))
        (lived n l t w b es B i slot (replenished (slot_of t i) b.clock) _ _ _ (view_by x Idle e) (renewed_view n l t w i server b.clock B.clock)
        (steps.arrives {q = x.left.0} {z = 0} {d = x.deadline.0} (server, refl) (omega (arith, h, tr_same n l t w i server x)), refl)
        (renewed_date n l t w i server b.clock b.clock.0 (omega arith) B.clock))

    arrives_idle : Arrives (arrived_in Idle b i)
    unfolding arrived_in
    arrives_idle = subst (λ (f : Figures). ruled (arrived f x b.clock)) (sym (figures_are n l t w b es B i)) (go (dec_lt b.clock.0 (tr (slot_of t i) x).0))
      where
        go : Dec (b.clock.0 < (tr (slot_of t i) x).0) → ruled (arrived (slot_of t i) x b.clock)
        go (yes h) = later h
        go (no z) = now (omega arith)

  arrives_in : (i < slots) → (i < n) → (s : State) → (life_at b i).state ≡ s → Arrives (arrived_in s b i)
  unfolding arrived_in
  arrives_in slot server Idle e = arrives_idle slot server e
  arrives_in slot server (Ready s k) e = refused NotIdle refl
  arrives_in slot server (Suspended t) e = refused NotIdle refl
  arrives_in slot server Spent e = refused NotIdle refl
  arrives_in slot server Stopped e = refused NotIdle refl

  pub arrive_bound : Arrives (arrives b i)
  unfolding arrives
  arrive_bound = by_standing Arrives b i _ (refused WrongPhase refl) (refused NotInTable refl) (refused ServerStopped refl)
      (λ slot here. arrives_in slot (served n l t w b es B i here) (life_at b i).state refl)
