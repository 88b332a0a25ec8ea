-- A done on a started board is a step of the argument: the server becomes idle and keeps its budget and deadline.
use Prim.Native.Nat.{ℕ, ◌<◌}
use mathlib.Core.Path.{◌≡◌, refl}
use mathlib.Core.Bool.{not}
use mathlib.Core.List.{List, [], ◌++◌}
use Rattle.terms.proofs.Tests.{either}
use Rattle.events.specs.Events.{Event}
use Rattle.timing.specs.declared.Figures.{Figures}
use Rattle.timing.specs.declared.Lock.{Lock}
use Rattle.timing.specs.declared.Lock.TheVariants.{Free, On}
use Rattle.timing.specs.declared.State.{State}
use Rattle.timing.specs.declared.State.TheVariants.{Idle, Ready, Suspended, Spent, Stopped}
use Rattle.timing.specs.Timing.{in_state}
use Rattle.admission.specs.Admission.{slots}
use Rattle.refusals.specs.declared.Refusal.{Refusal}
use Rattle.refusals.specs.declared.Refusal.TheVariants.{WrongPhase, NotInTable, NotNamed, HoldsLock, ServerStopped}
use Rattle.board.specs.declared.Board.{Board}
use Rattle.board.specs.declared.Outcome.{Outcome}
use Rattle.board.specs.Board.{life_at, named, is_slot}
use Rattle.board.specs.Calls.{refuse, rested, done_with, done_ready, done_in, done_by}
use Rattle.board.proofs.Checked.{by_standing}
use Rattle.guarantee.specs.Step as steps
use Rattle.promise.proofs.Lawful.{Kept}
use Rattle.promise.proofs.Look.{view_by}
use Rattle.promise.proofs.Bound.{Bound, still, lived}

module _ (n l : ℕ) (t : List Figures) (w : Kept n l t) (b : Board) (es : List Event) (B : Bound n l t w b es) (i : ℕ) where
  -- nothing happens in it
  abbrev Rests : Outcome → Type 0
  Rests o = Bound n l t w o.board (es ++ [])

  refused : (why : Refusal) → Rests (refuse b why)
  refused why = still n l t w b es B

  module _ (slot : i < slots) where
    done_with_lem : (s : _) (k : Lock) → (life_at b i).state ≡ Ready s k → Rests (done_with k b i)
    unfolding done_with rested
    done_with_lem s Free e =
        lived n l t w b es B i slot (in_state (life_at b i) Idle) _ _ [] (view_by (life_at b i) (Ready s Free) e) refl (steps.done, refl) (B.dates i)
    done_with_lem s (On r k) e = refused HoldsLock

    done_in_lem : (s : State) → (life_at b i).state ≡ s → Rests (done_in s b i)
    unfolding done_in done_ready rested
    done_in_lem (Ready s k) e = either Rests (not (is_slot (named b) i)) (refused NotNamed) (done_with_lem s k e)
    done_in_lem Spent e =
        lived n l t w b es B i slot (in_state (life_at b i) Idle) _ _ [] (view_by (life_at b i) Spent e) refl (steps.done_spent, refl) (B.dates i)
    done_in_lem Idle e = refused NotNamed
    done_in_lem (Suspended t) e = refused NotNamed
    done_in_lem Stopped e = refused NotNamed

  pub done_bound : Rests (done_by b i)
  unfolding done_by
  done_bound = by_standing Rests b i _ (refused WrongPhase) (refused NotInTable) (refused ServerStopped) (λ slot here. done_in_lem slot (life_at b i).state refl)
