-- The board, and who runs (document 01, "The board and what it leaves out", "Who runs", "Answer numbers").
use Rattle.std.specs.Prelude.{ℕ, zero, suc, Bool, true, false, not, ◌&&◌, ◌||◌, List, get_or, set, ltb, eqb, Option, Some, None}
use Rattle.terms.specs.Words.{pick, every}
use Rattle.quantity.specs.declared.Instant.{Instant}
use Rattle.quantity.specs.declared.Length.{Length}
use Rattle.quantity.specs.Quantity.{below}
use Rattle.resources.specs.declared.Set.{Set}
use Rattle.resources.specs.Resources.{has}
use Rattle.timing.specs.declared.Figures.{Figures}
use Rattle.timing.specs.declared.Life.{Life}
use Rattle.timing.specs.declared.State.{State}
use Rattle.timing.specs.Timing.{begun, present, is_ready, is_started, hold}
use Rattle.admission.specs.Admission.{slots, slot_of}
use Rattle.refusals.specs.Refusals as refusals
use Rattle.board.specs.declared.Board.{Board}
use Rattle.board.specs.declared.Outcome.{Outcome}
use Rattle.board.specs.declared.Answer.{Answer}
use Rattle.board.specs.declared.Answer.TheVariants as answer

-- what was admitted to a slot, and its life
abbrev pub figures_at : Board → ℕ → Figures
figures_at b i = slot_of b.table i

abbrev pub life_at : Board → ℕ → Life
life_at b i = get_or b.lives i begun

-- the next board: the same frame, phase and table, with other lives, clock and sets
abbrev pub next : Board → List Life → Instant → Set → Set → Board
next b lives clock locked closed = record {
  frame = b.frame;
  running = b.running;
  table = b.table;
  lives = lives;
  clock = clock;
  locked = locked;
  closed = closed;
}

-- the board with another life in slot i
unfoldable pub with_life : Board → ℕ → Life → Board
with_life b i l = next b (set b.lives i l) b.clock b.locked b.closed

-- the board with another life in slot i and other sets
unfoldable pub with_sets : Board → ℕ → Life → Set → Set → Board
with_sets b i l locked closed = next b (set b.lives i l) b.clock locked closed

abbrev pub out : Board → Answer → Outcome
out b a = record { board = b; answer = a }

-- each answer's number and value
abbrev pub number_of : Answer → ℕ
number_of (answer.Done v) = 0
number_of (answer.Refused why) = refusals.number_of why
number_of (answer.Suspended t) = 20
number_of answer.Renewed = 21
number_of answer.Overheld = 22

abbrev pub value_of : Answer → ℕ
value_of (answer.Done v) = v
value_of (answer.Refused why) = 0
value_of (answer.Suspended t) = t.0
value_of answer.Renewed = 0
value_of answer.Overheld = 0

-- the first number below n that passes a test, or nobody
abbrev pub or_else : Option ℕ → Option ℕ → Option ℕ
or_else (Some i) c = Some i
or_else None c = c

unfoldable pub seek : (ℕ → Bool) → ℕ → Option ℕ
seek f zero = None
seek f (suc n) = or_else (seek f n) (pick (f n) (Some n) None)

-- a ready server, or a started one
abbrev pub stands_in : State → Bool → Bool
stands_in s started = pick started (is_started s) (is_ready s)

abbrev pub stands : Board → Bool → ℕ → Bool
stands b started i = stands_in (life_at b i).state started

-- order ready servers by d, then by slot
abbrev pub precedes : Board → ℕ → ℕ → Bool
precedes b i j = ltb (life_at b i).deadline.0 (life_at b j).deadline.0 || (eqb (life_at b i).deadline.0 (life_at b j).deadline.0 && ltb i j)

-- slot i is the first of the ready servers (of the started ones): it is one of them, and before every other
abbrev pub is_first : Board → Bool → ℕ → Bool
is_first b started i = stands b started i && every (λ j. not (stands b started j) || (eqb j i || precedes b i j)) slots

unfoldable pub first : Board → Bool → Option ℕ
first b started = seek (is_first b started) slots

-- the lesser of two by an order, where what is absent is the greatest
abbrev pub lesser : {A : Type 0} → (A → A → Bool) → Option A → Option A → Option A
lesser less None d = d
lesser less (Some p) None = Some p
lesser less (Some p) (Some q) = Some (pick (less q p) q p)

-- the lower of two ceilings
abbrev pub lower : Option Length → Option Length → Option Length
lower = lesser below

-- the lowest of f 0, f 1, .., f (n - 1)
unfoldable pub lowest : (ℕ → Option Length) → ℕ → Option Length
lowest f zero = None
lowest f (suc n) = lower (lowest f n) (f n)

-- server x uses resource r
abbrev pub uses_in : Figures → ℕ → Bool
uses_in f r = present f && ltb 0 (hold f r).0

abbrev pub uses : Board → ℕ → ℕ → Bool
uses b x r = uses_in (figures_at b x) r

-- a resource's ceiling is the least period among servers that use it
unfoldable pub ceiling_of : Board → ℕ → Option Length
ceiling_of b r = lowest (λ x. pick (uses b x r) (Some (figures_at b x).period) None) slots

-- the board's ceiling is the least of the locked ones, and there is none if nothing is locked
unfoldable pub ceiling : Board → Option Length
ceiling b = lowest (λ r. pick (has b.locked r) (ceiling_of b r) None) 8

-- there is no ceiling, or the period is below it
abbrev pub clears : Length → Option Length → Bool
clears p None = true
clears p (Some c) = below p c

-- the first is named if it is started, or there is no ceiling, or its P is below the ceiling; otherwise the first of the started
-- ready servers is named; with none ready nobody is named
unfoldable pub may_go : Board → ℕ → Bool
may_go b f = is_started (life_at b f).state || clears (figures_at b f).period (ceiling b)

unfoldable pub named_by : Board → Option ℕ → Option ℕ
named_by b None = None
named_by b (Some f) = pick (may_go b f) (Some f) (first b true)

unfoldable pub named : Board → Option ℕ
named b = named_by b (first b false)

-- slot i is named
abbrev pub is_slot : Option ℕ → ℕ → Bool
is_slot None i = false
is_slot (Some j) i = eqb j i
