-- A run on a started board is its ticks, each a step of the argument; who holds for too long is stopped by another.
use Prim.Native.Nat.{ℕ, zero, suc, ◌+◌, ◌<◌, ◌≤◌}
use mathlib.Core.Path.{◌≡◌, refl, sym, ap, subst}
use mathlib.Core.Bool.{Bool, true, false, not, ◌&&◌}
use mathlib.Core.List.{List, [], ◌++◌, append_assoc}
use native.Mathlib.Omega.{arith}
use lib.Dec.{eqb, leb, ltb}
use borrow.Author.Tests.{eqb-true}
use Rattle.terms.specs.Words.{pick}
use Rattle.terms.proofs.Tests.{not_both, either}
use Rattle.quantity.specs.declared.Length.{Length}
use Rattle.quantity.specs.Quantity.{longest_run, clock_end}
use Rattle.resources.specs.Resources.{with, without}
use Rattle.resources.proofs.Laws.{with_range, without_same, without_other, without_range}
use Rattle.events.specs.Events.{Event}
use Rattle.timing.specs.declared.Figures.{Figures}
use Rattle.timing.specs.declared.Lock.TheVariants.{Free, On}
use Rattle.timing.specs.declared.State.{State}
use Rattle.timing.specs.declared.State.TheVariants.{Idle, Ready, Suspended, Spent, Stopped}
use Rattle.timing.specs.Timing.{hold, in_state}
use Rattle.refusals.specs.declared.Refusal.{Refusal}
use Rattle.refusals.specs.declared.Refusal.TheVariants.{WrongPhase, RunOutOfRange, PastClockEnd}
use Rattle.board.specs.declared.Board.{Board}
use Rattle.board.specs.declared.Outcome.{Outcome}
use Rattle.std.specs.Prelude.{Option, Some, None}
use Rattle.board.specs.Board.{figures_at, life_at, number_of, value_of, named}
use Rattle.board.specs.Calls.{refuse}
use Rattle.board.specs.Run.{ticked_to, ticked_by, ticked, passes, stopping, run_with, run_in, run_by, runs}
use Rattle.board.specs.Machine.{single}
use Rattle.board.specs.Events.{tick_told, ticks_told}
use Rattle.board.proofs.Named.{named_below}
use Rattle.board.proofs.Running.{ticked_clock, run_is_ticks}
use Rattle.board.proofs.Ones.{Within, checked, within_run}
use Rattle.guarantee.specs.Step.{drops}
use Rattle.guarantee.specs.Step as steps
use Rattle.promise.proofs.Lawful.{Kept}
use Rattle.promise.proofs.Look.{view_by}
use Rattle.promise.proofs.Bound.{Bound, still, figures_are, moved}
use Rattle.promise.proofs.Ticking.{pause_bound, tick_bound}

module _ (n l : ℕ) (t : List Figures) (w : Kept n l t) where
  -- one tick
  one_bound : (b : Board) (es : List Event) → Bound n l t w b es → b.clock.0 + 1 ≤ clock_end → Within b
      → Bound n l t w (ticked b).board (es ++ tick_told b (named b))
  unfolding ticked ticked_by ticked_to tick_told Within
  one_bound b es B room h = go (named b) refl
    where
      go : (c : Option ℕ) → named b ≡ c → Bound n l t w (ticked_by b c).board (es ++ tick_told b c)
      go None e = pause_bound n l t w b es B room e
      go (Some m) e =
          tick_bound n l t w b es B room m e (λ s r k q. omega (arith, h m s r k e q, ap (λ (f : Figures). (hold f r).0) (figures_are n l t w b es B m)))

  -- as many ticks as pass while nobody holds for too long
  pub ticks_bound : (k : ℕ) (b : Board) (es : List Event) → Bound n l t w b es → b.clock.0 + k ≤ clock_end → ((j : ℕ) → j < k → Within (single b j))
      → Bound n l t w (single b k) (es ++ ticks_told b k)
  unfolding single ticks_told
  ticks_bound zero b es B room h = still n l t w b es B
  ticks_bound (suc k) b es B room h =
      let e = ticked_clock b (omega arith) in
      subst (λ (x : List Event). Bound n l t w (single (ticked b).board k) x) (append_assoc es (tick_told b (named b)) (ticks_told (ticked b).board k))
      (ticks_bound k (ticked b).board (es ++ tick_told b (named b)) (one_bound b es B (omega arith) (h 0 (omega arith))) (omega arith)
      (λ j l. h (suc j) (omega arith)))

  module _ (b : Board) (es : List Event) (B : Bound n l t w b es) (k : ℕ) where
    -- what a run's outcome says, by its number
    abbrev Runs : Outcome → Type 0
    Runs o = Bound n l t w o.board (es ++ pick (eqb (number_of o.answer) 0) (ticks_told b (value_of o.answer)) [])

    -- every board inside a run, up to its count
    pub inside_run : number_of (runs b k).answer ≡ 0 → (j : ℕ) → j ≤ value_of (runs b k).answer → Bound n l t w (single b j) (es ++ ticks_told b j)
    inside_run z j h =
        let room = (checked b k z).in_time in
        let count = (run_is_ticks b k z).at_most in
        ticks_bound j b es B (omega arith) (λ i l. within_run b k z i (omega arith))

    -- an outcome that is not answered 0
    abbrev Else : Outcome → Type 0
    Else o = eqb (number_of o.answer) 0 ≡ false → Bound n l t w o.board (es ++ [])

    refused : (why : Refusal) → Else (refuse b why)
    refused why e = still n l t w b es B

    passed : Else (passes b k)
    unfolding passes
    passed e = absurd (not_both refl e)

    stopped : (m : ℕ) → named b ≡ Some m → (s : Bool) (r : ℕ) (h : Length) → (life_at b m).state ≡ Ready s (On r h) → Else (stopping b m r)
    unfolding stopping
    stopped m name s r h e _ =
        moved n l t w b es B m (named_below b m name) (in_state (life_at b m) Stopped) (without b.locked r) (with b.closed r) (drops r) _ _ []
        (view_by (life_at b m) (Ready s (On r h)) e) refl (steps.overheld, refl)
        (without_same b.locked r, λ j ne. without_other b.locked r j ne) (without_range b.locked r B.locked) (with_range b.closed r B.closed)
        (B.dates m)

    run_in_lem : (m : ℕ) → named b ≡ Some m → (s : State) → (life_at b m).state ≡ s → Else (run_in s b m k)
    unfolding run_in run_with
    run_in_lem m name (Ready s Free) e = passed
    run_in_lem m name (Ready s (On r h)) e = either Else (leb (hold (figures_at b m) r).0 h.0) (stopped m name s r h e) passed
    run_in_lem m name Idle e = passed
    run_in_lem m name (Suspended i) e = passed
    run_in_lem m name Spent e = passed
    run_in_lem m name Stopped e = passed

    run_by_lem : (c : Option ℕ) → named b ≡ c → Else (run_by b c k)
    unfolding run_by
    run_by_lem None e = passed
    run_by_lem (Some m) e = run_in_lem m e (life_at b m).state refl

    run_else : Else (runs b k)
    unfolding runs
    run_else =
        either Else (not b.running) (refused WrongPhase) (either Else (not (leb 1 k && leb k longest_run)) (refused RunOutOfRange)
        (either Else (ltb clock_end (b.clock.0 + k)) (refused PastClockEnd) (run_by_lem (named b) refl)))

    pub run_bound : Runs (runs b k)
    run_bound = go (eqb (number_of (runs b k).answer) 0) refl
      where
        go : (x : Bool) → eqb (number_of (runs b k).answer) 0 ≡ x → Runs (runs b k)
        go true e =
            let z = eqb-true _ _ e in
            rw e (subst (λ (c : Board). Bound n l t w c (es ++ ticks_told b (value_of (runs b k).answer))) (sym (run_is_ticks b k z).singly)
            (inside_run z (value_of (runs b k).answer) (omega arith)))
        go false e = rw e (run_else e)
