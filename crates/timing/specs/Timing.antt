-- One server: what was admitted, and its life (document 01, "A server's life").
pub mod Laws
pub mod Text
use Rattle.std.specs.Prelude.{ℕ, ◌-◌, ◌*◌, ◌/◌, ◌<◌, ◌≤◌, Bool, true, false, not, get_or, ltb, eqb}
use Rattle.terms.specs.Words.{pick, largest}
use Rattle.quantity.specs.declared.Instant.{Instant}
use Rattle.quantity.specs.declared.Length.{Length}
use Rattle.quantity.specs.Quantity.{at, ticks, later, before, below, longer, shorter, longest_period}
use Rattle.timing.specs.declared.Figures.{Figures}
use Rattle.timing.specs.declared.Life.{Life}
use Rattle.timing.specs.declared.Ruled.{Ruled}
use Rattle.timing.specs.declared.State.{State}
use Rattle.timing.specs.declared.State.TheVariants.{Idle, Ready, Suspended, Spent, Stopped}
use Rattle.timing.specs.declared.Lock.{Lock}
use Rattle.timing.specs.declared.Lock.TheVariants.{Free, On}
use Rattle.timing.specs.declared.Ruling.TheVariants as ruling

-- a slot is in the table exactly if its period is not 0
abbrev pub present : Figures → Bool
present f = not (eqb f.period.0 0)

-- H(r), 0 meaning that the server doesn't use r; resources are 0 to 7
unfoldable pub hold : Figures → ℕ → Length
hold f r = pick (ltb r 8) (get_or f.holds r (ticks 0)) (ticks 0)

-- the ranges of document 01, "Numbers": P is 1 to 1,000,000, Q is 1 to P, each H(r) is 0 to Q
pub record Ranged (f : Figures) : Type 0 where
  pub period_low : 0 < f.period.0
  pub period_high : f.period.0 ≤ longest_period
  pub budget_low : 0 < f.budget.0
  pub budget_high : f.budget.0 ≤ f.period.0
  pub holds_high : (r : ℕ) → (hold f r).0 ≤ f.budget.0

-- the largest of its holds
pub largest_hold : Figures → Length
largest_hold f = ticks (largest (λ r. (hold f r).0) 8)

-- ready; ready and started; stopped
abbrev pub is_ready : State → Bool
is_ready (Ready started lock) = true
is_ready Idle = false
is_ready (Suspended t) = false
is_ready Spent = false
is_ready Stopped = false

abbrev pub is_started : State → Bool
is_started (Ready started lock) = started
is_started Idle = false
is_started (Suspended t) = false
is_started Spent = false
is_started Stopped = false

abbrev pub is_stopped : State → Bool
is_stopped Stopped = true
is_stopped Idle = false
is_stopped (Ready started lock) = false
is_stopped (Suspended t) = false
is_stopped Spent = false

-- at start all are idle with budget q = 0 and deadline d = 0
abbrev pub begun : Life
begun = record { state = Idle; left = ticks 0; deadline = at 0 }

-- the same budget and deadline in another state
abbrev pub in_state : Life → State → Life
in_state l to = record { state = to; left = l.left; deadline = l.deadline }

-- the replenishment instant: tr = d - floor (q * P / Q)
pub tr : Figures → Life → Instant
tr f l = at (l.deadline.0 - l.left.0 * f.period.0 / f.budget.0)

-- replenish from s: q = Q, d = s + P, ready, and its started mark cleared
pub replenished : Figures → Instant → Life
replenished f s = record { state = Ready false Free; left = f.budget; deadline = later s f.period }

-- suspended until t
abbrev pub waits : Life → Instant → Ruled
waits l t = record { life = in_state l (Suspended t); ruling = ruling.Suspended t }

-- arrive, server idle: if now < tr, suspended until tr; otherwise replenish from now
pub arrived : Figures → Life → Instant → Ruled
arrived f l now = pick (before now (tr f l)) (waits l (tr f l)) (record { life = replenished f now; ruling = ruling.Done })

-- lock with q >= the largest of its holds: granted. Otherwise, if now < tr, suspended until tr; if not, replenish from tr
-- (not from now) and the answer is "renewed"
unfoldable pub lacking : Figures → Life → Instant → Ruled
lacking f l now = pick (before now (tr f l)) (waits l (tr f l)) (record { life = replenished f (tr f l); ruling = ruling.Renewed })

pub asked : Figures → Life → ℕ → Instant → Ruled
asked f l r now =
    pick (not (below l.left (largest_hold f))) (record { life = in_state l (Ready true (On r (ticks 0))); ruling = ruling.Done })
    (lacking f l now)

-- when now reaches the instant t that a server waits for, replenish from t
unfoldable pub comes : Figures → Life → Instant → Instant → Life
comes f l t now = pick (before now t) l (replenished f t)

-- a ready server with q = 0 and no lock becomes spent at once, until its deadline; if now is already at or past d, it is replenished in the same step
unfoldable pub ended : Figures → Life → Instant → Life
ended f l now = pick (eqb l.left.0 0) (comes f (in_state l Spent) l.deadline now) l

abbrev pub settled_in : State → Figures → Life → Instant → Life
settled_in (Ready started Free) f l now = ended f l now
settled_in (Ready started (On r n)) f l now = l
settled_in Idle f l now = l
settled_in (Suspended t) f l now = l
settled_in Spent f l now = l
settled_in Stopped f l now = l

pub settled : Figures → Life → Instant → Life
settled f l now = settled_in l.state f l now

-- when now reaches tr of a suspended server, replenish from tr; when now reaches d of a spent one, replenish from d
abbrev pub woken_in : State → Figures → Life → Instant → Life
woken_in (Suspended t) f l now = comes f l t now
woken_in Spent f l now = comes f l l.deadline now
woken_in Idle f l now = l
woken_in (Ready started lock) f l now = l
woken_in Stopped f l now = l

-- its instant has come
abbrev pub due_in : State → Life → Instant → Bool
due_in (Suspended t) l now = not (before now t)
due_in Spent l now = not (before now l.deadline)
due_in Idle l now = false
due_in (Ready started lock) l now = false
due_in Stopped l now = false

unfoldable pub due : Life → Instant → Bool
due l now = due_in l.state l now

pub woken : Figures → Life → Instant → Life
woken f l now = woken_in l.state f l now

-- a tick takes 1 from the named server's q, adds 1 to its held count if it holds, and marks it started; who isn't ready doesn't run
abbrev pub held_on : Lock → Lock
held_on Free = Free
held_on (On r n) = On r (longer n (ticks 1))

abbrev pub ran_in : State → Life → Life
ran_in (Ready started lock) l = record { state = Ready true (held_on lock); left = shorter l.left (ticks 1); deadline = l.deadline }
ran_in Idle l = l
ran_in (Suspended t) l = l
ran_in Spent l = l
ran_in Stopped l = l

pub ran : Life → Life
ran l = ran_in l.state l
