-- Running (document 01, "Running"): one tick, and run n as that many single ticks up to the first event.
use Rattle.std.specs.Prelude.{ℕ, zero, suc, ◌+◌, Bool, true, false, not, ◌&&◌, set, ltb, leb, eqb, Option, Some, None}
use Rattle.terms.specs.Words.{pick, some, list}
use Rattle.quantity.specs.declared.Length.{Length}
use Rattle.quantity.specs.Quantity.{ticks, later, longest_run, clock_end}
use Rattle.resources.specs.Resources.{with, without}
use Rattle.timing.specs.declared.Figures.{Figures}
use Rattle.timing.specs.declared.Life.{Life}
use Rattle.timing.specs.declared.State.{State}
use Rattle.timing.specs.declared.State.TheVariants.{Idle, Ready, Suspended, Spent, Stopped}
use Rattle.timing.specs.declared.Lock.{Lock}
use Rattle.timing.specs.declared.Lock.TheVariants.{Free, On}
use Rattle.timing.specs.Timing.{in_state, hold, settled, due, woken, ran}
use Rattle.admission.specs.Admission.{slots}
use Rattle.refusals.specs.declared.Refusal.TheVariants.{WrongPhase, RunOutOfRange, PastClockEnd}
use Rattle.board.specs.declared.Board.{Board}
use Rattle.board.specs.declared.Outcome.{Outcome}
use Rattle.board.specs.declared.Answer.TheVariants as answer
use Rattle.board.specs.declared.Reason.{Reason}
use Rattle.board.specs.declared.Reason.TheVariants.{Whole, Changed, Reached}
use Rattle.board.specs.declared.Ticked.{Ticked}
use Rattle.board.specs.declared.Ran.{Ran}
use Rattle.board.specs.Board.{figures_at, life_at, next, with_sets, out, named}
use Rattle.board.specs.Calls.{refuse}

-- somebody's instant has come
unfoldable pub any_due : Board → Bool
any_due b = some (λ i. due (life_at b i) b.clock) slots

-- servers whose instant has come are replenished
abbrev pub woken_at : Board → ℕ → Life
woken_at b i = woken (figures_at b i) (life_at b i) b.clock

unfoldable pub roused : Board → Board
roused b = pick (any_due b) (next b (list (woken_at b) slots) b.clock b.locked b.closed) b

-- the named server's tick: 1 from its q, 1 to its held count if it holds, started; the clock moves by 1; then it may be spent
unfoldable pub worked : Board → ℕ → Board
worked b m =
    next b (set b.lives m (settled (figures_at b m) (ran (life_at b m)) (later b.clock (ticks 1)))) (later b.clock (ticks 1)) b.locked
    b.closed

-- with nobody named only the clock moves
unfoldable pub paused : Board → Board
paused b = next b b.lives (later b.clock (ticks 1)) b.locked b.closed

-- what a tick of m ends: its budget without a lock (spent, perhaps replenished at once), or its hold is reached
unfoldable pub reached_with : Lock → Figures → Length → Reason
reached_with Free f left = pick (eqb left.0 0) Changed Whole
reached_with (On r n) f left = pick (eqb (hold f r).0 n.0) Reached Whole

abbrev pub reached_in : State → Figures → Length → Reason
reached_in (Ready s k) f left = reached_with k f left
reached_in Idle f left = Whole
reached_in (Suspended t) f left = Whole
reached_in Spent f left = Whole
reached_in Stopped f left = Whole

unfoldable pub reached : Board → ℕ → Reason
reached b m = reached_in (ran (life_at b m)).state (figures_at b m) (ran (life_at b m)).left

-- one tick: the board after it, and whether it ends a run and why; a replenishment is a change too
unfoldable pub ticked_to : Board → Reason → Ticked
ticked_to b why = record { board = roused b; reason = pick (any_due b) Changed why }

unfoldable pub ticked_by : Board → Option ℕ → Ticked
ticked_by b None = ticked_to (paused b) Whole
ticked_by b (Some m) = ticked_to (worked b m) (reached b m)

unfoldable pub ticked : Board → Ticked
ticked b = ticked_by b (named b)

-- k ticks have passed: as many more as are left, up to the first event
abbrev pub goes_on : Reason → Bool
goes_on Whole = true
goes_on Changed = false
goes_on Reached = false

unfoldable pub ran_from : Board → ℕ → ℕ → Ran
ran_from b k zero = record { board = b; ticks = k; reason = Whole }
ran_from b k (suc n) =
    pick (goes_on (ticked b).reason) (ran_from (ticked b).board (k + 1) n)
    (record { board = (ticked b).board; ticks = k + 1; reason = (ticked b).reason })

unfoldable pub passes : Board → ℕ → Outcome
passes b n = out (ran_from b 0 n).board (answer.Done (ran_from b 0 n).ticks)

-- the named server holds r and has run H(r) ticks since it locked: it is stopped with q and d kept, r is closed for good and unlocked
unfoldable pub stopping : Board → ℕ → ℕ → Outcome
stopping b m r = out (with_sets b m (in_state (life_at b m) Stopped) (without b.locked r) (with b.closed r)) answer.Overheld

unfoldable pub run_with : Lock → Board → ℕ → ℕ → Outcome
run_with Free b m n = passes b n
run_with (On r k) b m n = pick (leb (hold (figures_at b m) r).0 k.0) (stopping b m r) (passes b n)

unfoldable pub run_in : State → Board → ℕ → ℕ → Outcome
run_in (Ready s k) b m n = run_with k b m n
run_in Idle b m n = passes b n
run_in (Suspended t) b m n = passes b n
run_in Spent b m n = passes b n
run_in Stopped b m n = passes b n

unfoldable pub run_by : Board → Option ℕ → ℕ → Outcome
run_by b None n = passes b n
run_by b (Some m) n = run_in (life_at b m).state b m n

-- run: 1, 17, 18
unfoldable pub runs : Board → ℕ → Outcome
runs b n =
    pick (not b.running) (refuse b WrongPhase)
    (pick (not (leb 1 n && leb n longest_run)) (refuse b RunOutOfRange)
    (pick (ltb clock_end (b.clock.0 + n)) (refuse b PastClockEnd) (run_by b (named b) n)))
