-- The calls, each with its checks in document 01's order.
use Rattle.std.specs.Prelude.{ℕ, Bool, true, false, not, ◌&&◌, List, replicate, leb, eqb, Option, Some, None, Result, Ok, Err}
use Rattle.terms.specs.Words.{pick}
use Rattle.quantity.specs.declared.Length.{Length}
use Rattle.quantity.specs.Quantity.{at, ticks, length_of, largest_frame}
use Rattle.resources.specs.declared.Set.{Set}
use Rattle.resources.specs.Resources.{has, with, without}
use Rattle.timing.specs.declared.Figures.{Figures}
use Rattle.timing.specs.declared.Ruled.{Ruled}
use Rattle.timing.specs.declared.Ruling.{Ruling}
use Rattle.timing.specs.declared.Ruling.TheVariants as ruling
use Rattle.timing.specs.declared.State.{State}
use Rattle.timing.specs.declared.State.TheVariants.{Idle, Ready, Suspended, Spent, Stopped}
use Rattle.timing.specs.declared.Lock.{Lock}
use Rattle.timing.specs.declared.Lock.TheVariants.{Free, On}
use Rattle.timing.specs.Timing.{begun, in_state, is_stopped, hold, arrived, asked, settled}
use Rattle.refusals.specs.declared.Refusal.{Refusal}
use Rattle.refusals.specs.declared.Refusal.TheVariants.{WrongPhase, TableFull, FrameOutOfRange, NotInTable, NotNamed, NotUsed, HoldsLock, HoldsNone, ResourceClosed, ResourceLocked, NotIdle, ServerStopped}
use Rattle.admission.specs.Admission.{slots, in_table, nobody, placed, judged}
use Rattle.board.specs.declared.Board.{Board}
use Rattle.board.specs.declared.Outcome.{Outcome}
use Rattle.board.specs.declared.Answer.{Answer}
use Rattle.board.specs.declared.Answer.TheVariants as answer
use Rattle.board.specs.Board.{figures_at, life_at, with_life, with_sets, out, seek, named, is_slot}

abbrev pub refuse : Board → Refusal → Outcome
refuse b why = out b (answer.Refused why)

abbrev pub empty : Set
empty = record { 0 = 0 }

-- a board with a frame and nothing else: commissioning, clock 0, empty table, nothing locked or closed
unfoldable pub fresh : Length → Board
fresh frame = record {
  frame = frame;
  running = false;
  table = replicate slots nobody;
  lives = replicate slots begun;
  clock = at 0;
  locked = empty;
  closed = empty;
}

-- no frame yet
abbrev pub blank : Board
blank = fresh (ticks 0)

-- opening a board with a frame: 3; it is allowed at any time and begins afresh
unfoldable pub opened : Board → ℕ → Outcome
opened b frame = pick (leb 1 frame && leb frame largest_frame) (out (fresh (length_of frame)) (answer.Done 0)) (refuse b FrameOutOfRange)

-- 1: in commissioning, with a frame
unfoldable pub commissioning : Board → Bool
commissioning b = not b.running && not (eqb b.frame.0 0)

-- the lowest slot that is not in the table
unfoldable pub vacancy : List Figures → Option ℕ
vacancy t = seek (λ i. not (in_table t i)) slots

-- admit: 1, 2, 4, 5, 6, 7
abbrev pub with_table : Board → List Figures → Board
with_table b t = record {
  frame = b.frame;
  running = b.running;
  table = t;
  lives = b.lives;
  clock = b.clock;
  locked = b.locked;
  closed = b.closed;
}

unfoldable pub admitted_as : Board → ℕ → Result Figures Refusal → Outcome
admitted_as b i (Ok f) = out (with_table b (placed b.table i f)) (answer.Done i)
admitted_as b i (Err why) = refuse b why

unfoldable pub admitted_in : Board → Option ℕ → ℕ → ℕ → List ℕ → Outcome
admitted_in b None p q hs = refuse b TableFull
admitted_in b (Some i) p q hs = admitted_as b i (judged b.table i b.frame.0 p q hs)

unfoldable pub admitted : Board → ℕ → ℕ → List ℕ → Outcome
admitted b p q hs = pick (not (commissioning b)) (refuse b WrongPhase) (admitted_in b (vacancy b.table) p q hs)

-- start: 1; at start all are idle with budget q = 0 and deadline d = 0
unfoldable pub started : Board → Outcome
started b =
    pick (not (commissioning b)) (refuse b WrongPhase)
    (out (record {
      frame = b.frame;
      running = true;
      table = b.table;
      lives = replicate slots begun;
      clock = at 0;
      locked = empty;
      closed = empty;
    }) (answer.Done 0))

-- the checks that the calls of a server share: 1, 8, 16; the slot if they pass
unfoldable pub standing : Board → ℕ → Result ℕ Refusal
standing b i =
    pick (not b.running) (Err WrongPhase)
    (pick (leb slots i) (Err NotInTable)
    (pick (not (in_table b.table i)) (Err NotInTable)
    (pick (is_stopped (life_at b i).state) (Err ServerStopped) (Ok i))))

-- the refusal, or what is done in the slot
abbrev pub checked : Board → Result ℕ Refusal → (ℕ → Outcome) → Outcome
checked b (Err why) call = refuse b why
checked b (Ok i) call = call i

-- the rule's answer: done or granted, suspended with tr, renewed
abbrev pub answer_to : Ruling → Answer
answer_to ruling.Done = answer.Done 0
answer_to (ruling.Suspended t) = answer.Suspended t
answer_to ruling.Renewed = answer.Renewed

-- arrive: 1, 8, 16, 15
unfoldable pub arrived_in : State → Board → ℕ → Outcome
arrived_in Idle b i =
    out (with_life b i (arrived (figures_at b i) (life_at b i) b.clock).life) (answer_to (arrived (figures_at b i) (life_at b i) b.clock).ruling)
arrived_in (Ready s k) b i = refuse b NotIdle
arrived_in (Suspended t) b i = refuse b NotIdle
arrived_in Spent b i = refuse b NotIdle
arrived_in Stopped b i = refuse b NotIdle

unfoldable pub arrives : Board → ℕ → Outcome
arrives b i = checked b (standing b i) (λ i. arrived_in (life_at b i).state b i)

-- done: 1, 8, 16, 9 (not for a spent server), 11; it becomes idle and keeps q and d
unfoldable pub rested : Board → ℕ → Outcome
rested b i = out (with_life b i (in_state (life_at b i) Idle)) (answer.Done 0)

unfoldable pub done_with : Lock → Board → ℕ → Outcome
done_with Free b i = rested b i
done_with (On r n) b i = refuse b HoldsLock

unfoldable pub done_ready : Lock → Board → ℕ → Outcome
done_ready k b i = pick (not (is_slot (named b) i)) (refuse b NotNamed) (done_with k b i)

unfoldable pub done_in : State → Board → ℕ → Outcome
done_in (Ready s k) b i = done_ready k b i
done_in Spent b i = rested b i
done_in Idle b i = refuse b NotNamed
done_in (Suspended t) b i = refuse b NotNamed
done_in Stopped b i = refuse b NotNamed

unfoldable pub done_by : Board → ℕ → Outcome
done_by b i = checked b (standing b i) (λ i. done_in (life_at b i).state b i)

-- lock: 1, 8, 16, 9, 11, 10, 13, 14, then the budget; a granted lock sets bit r
abbrev pub granted : Ruling → Bool
granted ruling.Done = true
granted (ruling.Suspended t) = false
granted ruling.Renewed = false

unfoldable pub locked_by : Set → ℕ → Ruling → Set
locked_by s r o = pick (granted o) (with s r) s

unfoldable pub locking : Board → ℕ → ℕ → Ruled → Outcome
locking b i r o = out (with_sets b i o.life (locked_by b.locked r o.ruling) b.closed) (answer_to o.ruling)

unfoldable pub lock_free : Board → ℕ → ℕ → Outcome
lock_free b i r =
    pick (eqb (hold (figures_at b i) r).0 0) (refuse b NotUsed)
    (pick (has b.closed r) (refuse b ResourceClosed)
    (pick (has b.locked r) (refuse b ResourceLocked)
    (locking b i r (asked (figures_at b i) (life_at b i) r b.clock))))

unfoldable pub lock_with : Lock → Board → ℕ → ℕ → Outcome
lock_with (On q n) b i r = refuse b HoldsLock
lock_with Free b i r = lock_free b i r

unfoldable pub lock_ready : Lock → Board → ℕ → ℕ → Outcome
lock_ready k b i r = pick (not (is_slot (named b) i)) (refuse b NotNamed) (lock_with k b i r)

unfoldable pub lock_in : State → Board → ℕ → ℕ → Outcome
lock_in (Ready s k) b i r = lock_ready k b i r
lock_in Idle b i r = refuse b NotNamed
lock_in (Suspended t) b i r = refuse b NotNamed
lock_in Spent b i r = refuse b NotNamed
lock_in Stopped b i r = refuse b NotNamed

unfoldable pub locks : Board → ℕ → ℕ → Outcome
locks b i r = checked b (standing b i) (λ i. lock_in (life_at b i).state b i r)

-- unlock: 1, 8, 16, 9, 12; bit r is cleared, and a server with q = 0 becomes spent at once
unfoldable pub unlocking : Board → ℕ → Bool → ℕ → Outcome
unlocking b i s r =
    out (with_sets b i (settled (figures_at b i) (in_state (life_at b i) (Ready s Free)) b.clock) (without b.locked r) b.closed) (answer.Done 0)

unfoldable pub unlock_with : Bool → Lock → Board → ℕ → Outcome
unlock_with s Free b i = refuse b HoldsNone
unlock_with s (On r n) b i = unlocking b i s r

unfoldable pub unlock_ready : Bool → Lock → Board → ℕ → Outcome
unlock_ready s k b i = pick (not (is_slot (named b) i)) (refuse b NotNamed) (unlock_with s k b i)

unfoldable pub unlock_in : State → Board → ℕ → Outcome
unlock_in (Ready s k) b i = unlock_ready s k b i
unlock_in Idle b i = refuse b NotNamed
unlock_in (Suspended t) b i = refuse b NotNamed
unlock_in Spent b i = refuse b NotNamed
unlock_in Stopped b i = refuse b NotNamed

unfoldable pub unlocks : Board → ℕ → Outcome
unlocks b i = checked b (standing b i) (λ i. unlock_in (life_at b i).state b i)
