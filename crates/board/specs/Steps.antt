-- The steps in which the code goes over the slots and through a run; proofs/ show that they come to the definitions.
use Rattle.quantity.specs.declared.Length.{Length}
use Rattle.std.specs.Prelude.{◌≡◌, ℕ, zero, suc, Bool, false, not, List, get_or, Option, Some, None}
use Rattle.terms.specs.Words.{pick}
use Rattle.quantity.specs.declared.Instant.{Instant}
use Rattle.quantity.specs.Quantity.{before}
use Rattle.board.specs.declared.Board.{Board}
use Rattle.board.specs.declared.Best.{Best}
use Rattle.timing.specs.declared.Figures.{Figures}
use Rattle.timing.specs.declared.Life.{Life}
use Rattle.timing.specs.declared.State.{State}
use Rattle.timing.specs.declared.State.TheVariants.{Idle, Ready, Suspended, Spent, Stopped}
use Rattle.timing.specs.Timing.{begun}
use Rattle.board.specs.declared.Reason.{Reason}
use Rattle.board.specs.declared.Reason.TheVariants.{Changed}
use Rattle.board.specs.declared.Ran.{Ran}
use Rattle.board.specs.Board.{life_at, stands_in, stands, uses_in, lesser, lower, ceiling_of}
use Rattle.board.specs.Run.{reached_in, goes_on, roused}

-- the best so far, if there is one, is not after a server with deadline d in a later slot
unfoldable pub keeps : Option Best → Instant → Bool
keeps None d = false
keeps (Some p) d = not (before d p.deadline)

unfoldable pub better_of : Board → Bool → Option Best → ℕ → Option Best
better_of b started p i =
    pick (not (stands b started i)) p
    (pick (keeps p (life_at b i).deadline) p (Some (record { slot = i; deadline = (life_at b i).deadline })))

-- what a call of a test gives, at a state, is whether it is ready, or started
abbrev pub Tests : (State → Bool → Type 0) → Bool → Type 0
Tests gives started = (x : State) (y : Bool) → gives x y → y ≡ stands_in x started

-- the best of the slots below n
unfoldable pub best_of : Board → Bool → ℕ → Option Best
best_of b started zero = None
best_of b started (suc n) = better_of b started (best_of b started n) n

abbrev pub chosen : Option Best → Option ℕ
chosen None = None
chosen (Some p) = Some p.slot

-- the ceiling of one user, and one step of the walk over the locked number
unfoldable pub user_ceiling : Figures → ℕ → Option Length
user_ceiling f r = pick (uses_in f r) (Some f.period) None

unfoldable pub ceiling_step : Board → Option Length → Bool → ℕ → Option Length
ceiling_step b c locked r = lower c (pick locked (ceiling_of b r) None)

-- what a server waits for: tr of a suspended one, d of a spent one
abbrev pub wait_in : State → Life → Option Instant
wait_in (Suspended t) l = Some t
wait_in Spent l = Some l.deadline
wait_in Idle l = None
wait_in (Ready started lock) l = None
wait_in Stopped l = None

-- the earlier of two instants that somebody waits for, and whether it has come
abbrev pub earlier : Option Instant → Option Instant → Option Instant
earlier = lesser before

abbrev pub has_come : Option Instant → Instant → Bool
has_come None now = false
has_come (Some t) now = not (before now t)

-- the first that any of the slots below n waits for
unfoldable pub wait_of : List Life → ℕ → Option Instant
wait_of lives zero = None
wait_of lives (suc n) = earlier (wait_of lives n) (wait_in (get_or lives n begun).state (get_or lives n begun))

-- why a run ends with a tick that leaves life l, while the others wait for w
unfoldable pub ended_by : Life → Figures → Option Instant → Instant → Reason
ended_by l f w now = pick (has_come w now) Changed (reached_in l.state f l.left)

-- a run that came to b, before the replenishments of the tick that ended it
unfoldable pub ran_to : Board → ℕ → Reason → Ran
ran_to b k why = record { board = pick (goes_on why) b (roused b); ticks = k; reason = why }
