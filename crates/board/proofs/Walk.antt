-- Every way through a call of a server or a run ends in a refusal, one other life, other sets, or ticks: what holds of these holds of the call.
use Prim.Native.Nat.{ℕ, ◌+◌, ◌≤◌}
use mathlib.Core.Path.{◌≡◌, refl}
use mathlib.Core.Logic.{◌⊎◌, inl, inr}
use native.Mathlib.Omega.{arith}
use mathlib.Core.Bool.{Bool, not, ◌&&◌}
use lib.Dec.{ltb, leb, eqb}
use Rattle.terms.proofs.Tests.{either}
use Rattle.quantity.specs.Quantity.{longest_run, clock_end}
use Rattle.resources.specs.Resources.{has}
use Rattle.timing.specs.declared.Ruled.{Ruled}
use Rattle.timing.specs.declared.Ruling.{Ruling}
use Rattle.timing.specs.declared.Ruling.TheVariants as ruling
use Rattle.timing.specs.declared.State.{State}
use Rattle.timing.specs.declared.State.TheVariants.{Idle, Ready, Suspended, Spent, Stopped}
use Rattle.timing.specs.declared.Lock.{Lock}
use Rattle.timing.specs.declared.Lock.TheVariants.{Free, On}
use Rattle.timing.specs.Timing.{hold, arrived}
use Rattle.refusals.specs.declared.Refusal.{Refusal}
use Rattle.refusals.specs.declared.Refusal.TheVariants.{WrongPhase, NotInTable, ServerStopped, NotNamed, NotUsed, HoldsLock, HoldsNone, ResourceClosed, ResourceLocked, NotIdle, RunOutOfRange, PastClockEnd}
use Rattle.board.specs.declared.Board.{Board}
use Rattle.board.specs.declared.Outcome.{Outcome}
use Rattle.board.specs.declared.Answer.{Answer}
use Rattle.timing.specs.declared.Life.{Life}
use Rattle.resources.specs.declared.Set.{Set}
use Rattle.std.specs.Prelude.{Option, Some, None}
use Rattle.board.specs.Board.{figures_at, life_at, with_life, with_sets, out, number_of, named, is_slot}
use Rattle.board.specs.Calls.{refuse, standing, checked, answer_to, arrived_in, arrives, rested, done_with, done_ready, done_in, done_by, locking, lock_free, lock_with, lock_ready, lock_in, locks, unlocking, unlock_with, unlock_ready, unlock_in, unlocks}
use Rattle.board.specs.Run.{passes, stopping, run_with, run_in, run_by, runs}
use Rattle.board.proofs.Checked.{by_standing}

-- an answer that is no refusal
abbrev pub Served : Answer → Type 0
Served a = (number_of a ≡ 0) ⊎ (20 ≤ number_of a)

ruled : (o : Ruling) → Served (answer_to o)
ruled ruling.Done = inl refl
ruled (ruling.Suspended t) = inr (omega arith)
ruled ruling.Renewed = inr (omega arith)

module _ (b : Board) (P : Outcome → Type 0) (refused : (why : Refusal) → P (refuse b why))
    (alive : (i : ℕ) (l : Life) (a : Answer) → Served a → P (out (with_life b i l) a))
    (sets : (i : ℕ) (l : Life) (s c : Set) (a : Answer) → Served a → P (out (with_sets b i l s c) a)) (pass_of : (n : ℕ) → P (passes b n)) where
  arrive_in : (s : State) (i : ℕ) → P (arrived_in s b i)
  unfolding arrived_in
  arrive_in Idle i = alive i _ _ (ruled (arrived (figures_at b i) (life_at b i) b.clock).ruling)
  arrive_in (Ready s k) i = refused NotIdle
  arrive_in (Suspended t) i = refused NotIdle
  arrive_in Spent i = refused NotIdle
  arrive_in Stopped i = refused NotIdle

  done_with_lem : (k : Lock) (i : ℕ) → P (done_with k b i)
  unfolding done_with rested
  done_with_lem Free i = alive i _ _ (inl refl)
  done_with_lem (On r n) i = refused HoldsLock

  done_in_lem : (s : State) (i : ℕ) → P (done_in s b i)
  unfolding done_in done_ready rested
  done_in_lem (Ready s k) i = either P (not (is_slot (named b) i)) (refused NotNamed) (done_with_lem k i)
  done_in_lem Spent i = alive i _ _ (inl refl)
  done_in_lem Idle i = refused NotNamed
  done_in_lem (Suspended t) i = refused NotNamed
  done_in_lem Stopped i = refused NotNamed

  lock_by : (i r : ℕ) (o : Ruled) → P (locking b i r o)
  unfolding locking
  lock_by i r o = sets i _ _ _ _ (ruled o.ruling)

  lock_free_lem : (i r : ℕ) → P (lock_free b i r)
  unfolding lock_free
  lock_free_lem i r =
      either P (eqb (hold (figures_at b i) r).0 0) (refused NotUsed)
      (either P (has b.closed r) (refused ResourceClosed) (either P (has b.locked r) (refused ResourceLocked) (lock_by i r _)))

  lock_with_lem : (k : Lock) (i r : ℕ) → P (lock_with k b i r)
  unfolding lock_with
  lock_with_lem (On q n) i r = refused HoldsLock
  lock_with_lem Free i r = lock_free_lem i r

  lock_in_lem : (s : State) (i r : ℕ) → P (lock_in s b i r)
  unfolding lock_in lock_ready
  lock_in_lem (Ready s k) i r = either P (not (is_slot (named b) i)) (refused NotNamed) (lock_with_lem k i r)
  lock_in_lem Idle i r = refused NotNamed
  lock_in_lem (Suspended t) i r = refused NotNamed
  lock_in_lem Spent i r = refused NotNamed
  lock_in_lem Stopped i r = refused NotNamed

  unlock_with_lem : (s : Bool) (k : Lock) (i : ℕ) → P (unlock_with s k b i)
  unfolding unlock_with unlocking
  unlock_with_lem s Free i = refused HoldsNone
  unlock_with_lem s (On r n) i = sets i _ _ _ _ (inl refl)

  unlock_in_lem : (s : State) (i : ℕ) → P (unlock_in s b i)
  unfolding unlock_in unlock_ready
  unlock_in_lem (Ready s k) i = either P (not (is_slot (named b) i)) (refused NotNamed) (unlock_with_lem s k i)
  unlock_in_lem Idle i = refused NotNamed
  unlock_in_lem (Suspended t) i = refused NotNamed
  unlock_in_lem Spent i = refused NotNamed
  unlock_in_lem Stopped i = refused NotNamed

  stop_of : (m r : ℕ) → P (stopping b m r)
  unfolding stopping
  stop_of m r = sets m _ _ _ _ (inr (omega arith))

  run_with_lem : (k : Lock) (m n : ℕ) → P (run_with k b m n)
  unfolding run_with
  run_with_lem Free m n = pass_of n
  run_with_lem (On r k) m n = either P (leb (hold (figures_at b m) r).0 k.0) (stop_of m r) (pass_of n)

  run_in_lem : (s : State) (m n : ℕ) → P (run_in s b m n)
  unfolding run_in
  run_in_lem (Ready s k) m n = run_with_lem k m n
  run_in_lem Idle m n = pass_of n
  run_in_lem (Suspended t) m n = pass_of n
  run_in_lem Spent m n = pass_of n
  run_in_lem Stopped m n = pass_of n

  run_by_lem : (c : Option ℕ) (n : ℕ) → P (run_by b c n)
  unfolding run_by
  run_by_lem None n = pass_of n
  run_by_lem (Some m) n = run_in_lem _ m n

  -- the checks that the calls of a server share
  in_slot : (i : ℕ) (call : ℕ → Outcome) → P (call i) → P (checked b (standing b i) call)
  in_slot i call h = by_standing P b i call (refused WrongPhase) (refused NotInTable) (refused ServerStopped) (λ slot server. h)

  -- what holds of every way out of arrive holds of arrive
  pub arrive_ends : (i : ℕ) → P (arrives b i)
  unfolding arrives
  arrive_ends i = in_slot i _ (arrive_in (life_at b i).state i)

  -- what holds of every way out of done holds of done
  pub done_ends : (i : ℕ) → P (done_by b i)
  unfolding done_by
  done_ends i = in_slot i _ (done_in_lem (life_at b i).state i)

  -- what holds of every way out of lock holds of lock
  pub lock_ends : (i r : ℕ) → P (locks b i r)
  unfolding locks
  lock_ends i r = in_slot i _ (lock_in_lem (life_at b i).state i r)

  -- what holds of every way out of unlock holds of unlock
  pub unlock_ends : (i : ℕ) → P (unlocks b i)
  unfolding unlocks
  unlock_ends i = in_slot i _ (unlock_in_lem (life_at b i).state i)

  -- what holds of every way out of run holds of run
  pub run_ends : (n : ℕ) → P (runs b n)
  unfolding runs
  run_ends n =
      either P (not b.running) (refused WrongPhase)
      (either P (not (leb 1 n && leb n longest_run)) (refused RunOutOfRange)
      (either P (ltb clock_end (b.clock.0 + n)) (refused PastClockEnd) (run_by_lem (named b) n)))

-- the same for what holds with every answer
module _ (b : Board) (P : Outcome → Type 0) (refused : (why : Refusal) → P (refuse b why)) (alive : (i : ℕ) (l : Life) (a : Answer) → P (out (with_life b i l) a))
    (sets : (i : ℕ) (l : Life) (s c : Set) (a : Answer) → P (out (with_sets b i l s c) a)) (pass_of : (n : ℕ) → P (passes b n)) where
  -- what holds of every way out of arrive holds of arrive
  pub arrive_walk : (i : ℕ) → P (arrives b i)
  arrive_walk = arrive_ends b P refused (λ i l a s. alive i l a) (λ i l u c a s. sets i l u c a) pass_of

  -- what holds of every way out of done holds of done
  pub done_walk : (i : ℕ) → P (done_by b i)
  done_walk = done_ends b P refused (λ i l a s. alive i l a) (λ i l u c a s. sets i l u c a) pass_of

  -- what holds of every way out of lock holds of lock
  pub lock_walk : (i r : ℕ) → P (locks b i r)
  lock_walk = lock_ends b P refused (λ i l a s. alive i l a) (λ i l u c a s. sets i l u c a) pass_of

  -- what holds of every way out of unlock holds of unlock
  pub unlock_walk : (i : ℕ) → P (unlocks b i)
  unlock_walk = unlock_ends b P refused (λ i l a s. alive i l a) (λ i l u c a s. sets i l u c a) pass_of

  -- what holds of every way out of run holds of run
  pub run_walk : (n : ℕ) → P (runs b n)
  run_walk = run_ends b P refused (λ i l a s. alive i l a) (λ i l u c a s. sets i l u c a) pass_of
