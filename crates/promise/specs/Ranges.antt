-- Document 01's ranges ("Numbers") of a board, and that no sum on it is cut at the end of its type, nor tr at 0.
use Rattle.std.specs.Prelude.{ℕ, ◌+◌, ◌*◌, ◌/◌, ◌^◌, ◌<◌, ◌≤◌, ◌≡◌, Bool, true, List}
use Rattle.quantity.specs.declared.Instant.{Instant}
use Rattle.quantity.specs.declared.Length.{Length}
use Rattle.quantity.specs.Quantity.{at, ticks, later, longer, largest_frame, clock_end}
use Rattle.resources.specs.Resources.{resources}
use Rattle.events.specs.Events.{Event}
use Rattle.timing.specs.declared.State.TheVariants.{Ready, Suspended, Spent}
use Rattle.timing.specs.declared.Lock.TheVariants.{On}
use Rattle.timing.specs.Timing.{Ranged, hold, tr}
use Rattle.admission.specs.Admission.{slots, in_table, period_of, budget_of}
use Rattle.board.specs.declared.Board.{Board}
use Rattle.board.specs.Board.{figures_at, life_at}
use Rattle.promise.specs.History.{History}

pub record InRange (b : Board) : Type 0 where
  -- the frame is 1 to 1,000,000,000, and the clock runs from 0 to 1,000,000,000,000
  pub frame_low : 1 ≤ b.frame.0
  pub frame_high : b.frame.0 ≤ largest_frame
  pub clock_high : b.clock.0 ≤ clock_end
  -- the locked and the closed resources are each one number of eight bits
  pub locked_high : b.locked.0 < 2 ^ resources
  pub closed_high : b.closed.0 < 2 ^ resources
  -- a server stands in a slot, its figures are in their ranges, and its period divides the frame
  pub slot : (i : ℕ) → in_table b.table i ≡ true → i < slots
  pub figures : (i : ℕ) → in_table b.table i ≡ true → Ranged (figures_at b i)
  pub divides : (i : ℕ) → in_table b.table i ≡ true → b.frame.0 / period_of b.table i * period_of b.table i ≡ b.frame.0
  -- what is left of a budget is at most the budget, and a deadline at most a period away
  pub left_high : (i : ℕ) → in_table b.table i ≡ true → (life_at b i).left.0 ≤ budget_of b.table i
  pub deadline_high : (i : ℕ) → (life_at b i).deadline.0 ≤ b.clock.0 + period_of b.table i
  -- who waits, waits for a later instant; who is spent has nothing left
  pub until_later : (i : ℕ) (t : Instant) → (life_at b i).state ≡ Suspended t → b.clock.0 < t.0
  pub spent_later : (i : ℕ) → (life_at b i).state ≡ Spent → ((life_at b i).left.0 ≡ 0) × (b.clock.0 < (life_at b i).deadline.0)
  -- nobody has run longer with a lock than its hold
  pub held_high : (i : ℕ) (s : Bool) (r : ℕ) (k : Length) → (life_at b i).state ≡ Ready s (On r k) → k.0 ≤ (hold (figures_at b i) r).0

-- every sum of document 01 is exact: the clock's tick, a replenishment's deadline and a held count; and so is tr
-- (that a tick finds a budget to take 1 from says `Takes`, Runs.antt)
pub record Exact (b : Board) : Type 0 where
  pub tick : later b.clock (ticks 1) ≡ at (b.clock.0 + 1)
  pub deadline : (i : ℕ) → in_table b.table i ≡ true → (s : Instant) → s.0 ≤ clock_end → later s (figures_at b i).period ≡ at (s.0 + period_of b.table i)
  pub held : (i : ℕ) (s : Bool) (r : ℕ) (k : Length) → (life_at b i).state ≡ Ready s (On r k) → longer k (ticks 1) ≡ ticks (k.0 + 1)
  pub instant : (i : ℕ) → in_table b.table i ≡ true
      → (tr (figures_at b i) (life_at b i)).0 + (life_at b i).left.0 * period_of b.table i / budget_of b.table i ≡ (life_at b i).deadline.0

-- boards that calls lead to keep the ranges and cut nothing
abbrev pub KeepsRanges : Type 0
KeepsRanges = (b : Board) (es : List Event) → History b es → InRange b × Exact b
