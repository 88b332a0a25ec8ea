-- What happens in a call, in the order in which it happens: the ticks of servers, and their replenishments with their starts.
use Rattle.std.specs.Prelude.{ℕ, zero, suc, Bool, true, List, [], ◌∷◌, ◌++◌, eqb, Option, Some, None}
use Rattle.terms.specs.Words.{pick}
use Rattle.quantity.specs.declared.Instant.{Instant}
use Rattle.quantity.specs.Quantity.{ticks, later}
use Rattle.events.specs.Events.{Event, Ran, Replenished}
use Rattle.timing.specs.declared.Life.{Life}
use Rattle.timing.specs.declared.State.{State}
use Rattle.timing.specs.declared.State.TheVariants.{Idle, Ready, Suspended, Spent, Stopped}
use Rattle.timing.specs.declared.Lock.TheVariants.{Free, On}
use Rattle.timing.specs.Timing.{in_state, tr, due, ran}
use Rattle.admission.specs.Admission.{slots}
use Rattle.board.specs.declared.Board.{Board}
use Rattle.board.specs.Board.{figures_at, life_at, number_of, value_of, named}
use Rattle.board.specs.Run.{ticked}
use Rattle.board.specs.Machine.{Call, Open, Admit, Start, Arrive, Done, Lock, Unlock, Run, made}

-- a ready server with q = 0 and no lock is spent, and waits for its deadline
abbrev pub run_out_in : State → Life → Life
run_out_in (Ready started Free) l = pick (eqb l.left.0 0) (in_state l Spent) l
run_out_in (Ready started (On r n)) l = l
run_out_in Idle l = l
run_out_in (Suspended t) l = l
run_out_in Spent l = l
run_out_in Stopped l = l

unfoldable pub run_out : Life → Life
run_out l = run_out_in l.state l

-- the instant that a server waits for: tr of a suspended one, d of a spent one
abbrev pub awaited_in : State → Life → Instant
awaited_in (Suspended t) l = t
awaited_in Spent l = l.deadline
awaited_in Idle l = l.deadline
awaited_in (Ready started lock) l = l.deadline
awaited_in Stopped l = l.deadline

-- slot i is replenished from the instant that it waits for, if this has come
unfoldable pub renewal : ℕ → Life → Instant → List Event
renewal i l now = pick (due l now) (Replenished i (awaited_in l.state l).0 ∷ []) []

-- the replenishments of the slots below n, in the order of the slots
unfoldable pub renewals : (ℕ → Life) → Instant → ℕ → List Event
renewals lives now zero = []
renewals lives now (suc n) = renewals lives now n ++ renewal n (lives n) now

-- the lives after m has run and the clock has moved, before anybody is replenished
abbrev pub ran_lives : Board → ℕ → ℕ → Life
ran_lives b m i = pick (eqb i m) (run_out (ran (life_at b m))) (life_at b i)

-- one tick: who is named runs, then servers whose instant has come are replenished
unfoldable pub tick_told : Board → Option ℕ → List Event
tick_told b None = renewals (life_at b) (later b.clock (ticks 1)) slots
tick_told b (Some m) = Ran m ∷ renewals (ran_lives b m) (later b.clock (ticks 1)) slots

-- n single ticks
unfoldable pub ticks_told : Board → ℕ → List Event
ticks_told b zero = []
ticks_told b (suc n) = tick_told b (named b) ++ ticks_told (ticked b).board n

-- a call, by what it answers: an arrival answered 0 replenishes from now, a lock answered 21 from tr, an unlock answered 0 perhaps
-- from d, and a run answered 0 is as many single ticks as it answers; nothing happens in any other call
abbrev pub answered : Board → Call → ℕ → Bool
answered b c n = eqb (number_of (made b c).answer) n

unfoldable pub told : Board → Call → List Event
told b (Open frame) = []
told b (Admit p q hs) = []
told b Start = []
told b (Arrive i) = pick (answered b (Arrive i) 0) (Replenished i b.clock.0 ∷ []) []
told b (Done i) = []
told b (Lock i r) = pick (answered b (Lock i r) 21) (Replenished i (tr (figures_at b i) (life_at b i)).0 ∷ []) []
told b (Unlock i) = pick (answered b (Unlock i) 0) (renewal i (run_out (in_state (life_at b i) (Ready true Free))) b.clock) []
told b (Run n) = pick (answered b (Run n) 0) (ticks_told b (value_of (made b (Run n)).answer)) []
