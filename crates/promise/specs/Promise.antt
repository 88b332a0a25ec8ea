-- Promise 3, sentence by sentence: what holds of every history (proofs/Promise.antt shows that it does).
use Rattle.std.specs.Prelude.{ℕ, ◌+◌, ◌*◌, ◌<◌, ◌≤◌, ◌≡◌, ◌≢◌, true, List, ◌∷◌, ◌++◌}
use Rattle.events.specs.Events.{Event, Replenished, ticks, last_start, left_after, deadline_after}
use Rattle.timing.specs.Timing.{is_ready, is_stopped}
use Rattle.admission.specs.Admission.{in_table, period_of, budget_of}
use Rattle.board.specs.declared.Board.{Board}
use Rattle.board.specs.Board.{life_at, number_of, value_of}
use Rattle.board.specs.Run.{runs}
use Rattle.board.specs.Machine.{single}
use Rattle.promise.specs.History.{History}

-- server i: if it is ready with budget left, now is before its deadline
abbrev pub InTime : Board → ℕ → Type 0
InTime b i = is_ready (life_at b i).state ≡ true → 0 < (life_at b i).left.0 → b.clock.0 < (life_at b i).deadline.0

-- No ready server with budget left reaches its deadline: after every history, ..
abbrev pub Deadline : Type 0
Deadline = (b : Board) (es : List Event) → History b es → (i : ℕ) → InTime b i

-- .. and after every single tick inside a run: k of the ticks that it answers
abbrev pub DeadlineInside : Type 0
DeadlineInside = (b : Board) (es : List Event) → History b es → (n : ℕ) → number_of (runs b n).answer ≡ 0 → (k : ℕ) → k ≤ value_of (runs b n).answer
    → (i : ℕ) → InTime (single b k) i

-- The events account for what the board keeps: a tick took 1 from the server's budget, a replenishment with start s gave it the whole of it
-- and a deadline a period after s (that a run tells each of its ticks is `Counts`, Runs.antt)
abbrev pub Accounts : Type 0
Accounts = (b : Board) (es : List Event) → History b es → (i : ℕ) → in_table b.table i ≡ true
    → ((life_at b i).left.0 ≡ left_after i (budget_of b.table i) 0 es) × ((life_at b i).deadline.0 ≡ deadline_after i (period_of b.table i) 0 es)

-- server i, over consecutive replenishments: es are the events up to now, or up to any earlier event (rest is what came after);
-- among them is a replenishment of i with start s, and what came after it, in which the last replenishment of i has start
-- last_start i s after (s itself if there is none) and so the deadline last_start i s after + P. The ticks of i since then, counted from
-- the events, times P, are at most Q times the length from s to that deadline. (Q * s stands on the left, so nothing is subtracted.)
abbrev pub Within : Board → List Event → ℕ → Type 0
Within b es i =
    (before : List Event) (s : ℕ) (after rest : List Event) → es ≡ (before ++ Replenished i s ∷ after) ++ rest
    → ticks i after * period_of b.table i + budget_of b.table i * s ≤ budget_of b.table i * (last_start i s after + period_of b.table i)

-- Ticks run times period never exceeds budget times the length from the first replenishment's start to the last one's deadline
abbrev pub Share : Type 0
Share = (b : Board) (es : List Event) → History b es → (i : ℕ) → in_table b.table i ≡ true → Within b es i

-- An overholder harms neither for the others: j was stopped because it held a lock for too long, and every other server keeps both.
-- (A special case, to be cited: `Deadline`, `DeadlineInside` and `Share` make no exception for a board with a stopped server, nor for one
-- that has had its hold and is not stopped yet.)
abbrev pub Overholders : Type 0
Overholders = (b : Board) (es : List Event) → History b es → (j : ℕ) → is_stopped (life_at b j).state ≡ true
    → (i : ℕ) → i ≢ j → in_table b.table i ≡ true → InTime b i × Within b es i
