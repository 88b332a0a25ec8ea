-- The board runs its servers: promise 3 is not kept by standing still (proofs/Runs.antt shows each statement).
use Rattle.std.specs.Prelude.{ℕ, ◌+◌, ◌-◌, ◌<◌, ◌≤◌, ◌≡◌, ◌≢◌, Bool, true, false, List, ◌∷◌, Some, None}
use Rattle.terms.specs.Words.{when}
use Rattle.quantity.specs.declared.Instant.{Instant}
use Rattle.quantity.specs.declared.Length.{Length}
use Rattle.quantity.specs.Quantity.{longest_run, clock_end}
use Rattle.events.specs.Events.{Event, Ran, ticks}
use Rattle.timing.specs.declared.State.TheVariants.{Ready, Suspended, Spent}
use Rattle.timing.specs.declared.Lock.TheVariants.{Free, On}
use Rattle.timing.specs.Timing.{is_ready, hold, ran}
use Rattle.board.specs.declared.Board.{Board}
use Rattle.board.specs.declared.Answer.TheVariants as answer
use Rattle.board.specs.Board.{figures_at, life_at, out, number_of, value_of, named, is_slot}
use Rattle.board.specs.Calls.{locks}
use Rattle.board.specs.Run.{runs}
use Rattle.board.specs.Machine.{Run, single}
use Rattle.board.specs.Events.{told}
use Rattle.promise.specs.History.{History}

-- After every history nobody is named exactly if none is ready, ..
abbrev pub NobodyNamed : Type 0
NobodyNamed = (b : Board) (es : List Event) → History b es
    → (named b ≡ None → (j : ℕ) → is_ready (life_at b j).state ≡ false) × (((j : ℕ) → is_ready (life_at b j).state ≡ false) → named b ≡ None)

-- .. so with a server ready a server is named, and this one is ready
abbrev pub SomebodyRuns : Type 0
SomebodyRuns = (b : Board) (es : List Event) → History b es → (j : ℕ) → is_ready (life_at b j).state ≡ true
    → (m : ℕ) × (named b ≡ Some m) × (is_ready (life_at b m).state ≡ true)

-- On any running board with somebody named, before the clock's end, a tick passes, unless that server has run all of its hold since it locked
abbrev pub Passes : Type 0
Passes = (b : Board) (m : ℕ) → b.running ≡ true → b.clock.0 + 1 ≤ clock_end → named b ≡ Some m
    → ((s : Bool) (r : ℕ) (h : Length) → (life_at b m).state ≡ Ready s (On r h) → h.0 < (hold (figures_at b m) r).0)
    → runs b 1 ≡ out (single b 1) (answer.Done 1)

-- m's tick: it has budget left, the tick takes 1 from it, this stands on the board after it (unless it was the last one: then m may be
-- replenished at once), and what is told of the run begins with the tick of m
abbrev pub Taken : Board → ℕ → Type 0
Taken b m =
    (0 < (life_at b m).left.0)
    × ((ran (life_at b m)).left.0 + 1 ≡ (life_at b m).left.0)
    × (1 < (life_at b m).left.0 → (life_at (runs b 1).board m).left.0 + 1 ≡ (life_at b m).left.0)
    × ((rest : List Event) × (told b (Run 1) ≡ Ran m ∷ rest))

-- After every history, where a tick passes with m named, it is m's
abbrev pub Takes : Type 0
Takes = (b : Board) (es : List Event) → History b es → (m : ℕ) → named b ≡ Some m → number_of (runs b 1).answer ≡ 0 → Taken b m

-- Nothing ends a run of n with m named before its last tick: m, if it holds nothing, has n ticks of budget; if it holds r, its hold of r leaves n
-- (while it holds, its budget ends no run); and nobody's instant comes earlier. An event in the last tick ends nothing that is not over: so ≤, not <.
pub record Undisturbed (b : Board) (m n : ℕ) : Type 0 where
  pub name : named b ≡ Some m
  pub budget : (s : Bool) → (life_at b m).state ≡ Ready s Free → n ≤ (life_at b m).left.0
  pub holding : (s : Bool) (r : ℕ) (h : Length) → (life_at b m).state ≡ Ready s (On r h) → h.0 + n ≤ (hold (figures_at b m) r).0
  pub suspended : (i : ℕ) (t : Instant) → (life_at b i).state ≡ Suspended t → b.clock.0 + n ≤ t.0
  pub spent : (i : ℕ) → (life_at b i).state ≡ Spent → b.clock.0 + n ≤ (life_at b i).deadline.0

-- Such a run answers n, on any running board: n single ticks, ..
abbrev pub AnswersAll : Type 0
AnswersAll = (b : Board) (m n : ℕ) → b.running ≡ true → 1 ≤ n → n ≤ longest_run → b.clock.0 + n ≤ clock_end → Undisturbed b m n
    → runs b n ≡ out (single b n) (answer.Done n)

-- .. before each of which m is named, and after k of which k are gone from its budget (or all of it, on a board that no history leads to
-- and that holds with less left than its hold)
abbrev pub EachTakes : Type 0
EachTakes = (b : Board) (m n : ℕ) → Undisturbed b m n → (k : ℕ) → k < n
    → (named (single b k) ≡ Some m) × ((life_at (single b k) m).left.0 ≡ (life_at b m).left.0 - k)

-- Ticks are counted from the calls: a run answered 0 tells as many ticks of the named server as it answers, and none of any other;
-- with nobody named it tells none
abbrev pub Counts : Type 0
Counts = (b : Board) (n : ℕ) → number_of (runs b n).answer ≡ 0 → (j : ℕ)
    → ticks j (told b (Run n)) ≡ when (is_slot (named b) j) (value_of (runs b n).answer)

-- Nobody finds a lock taken: no history leads to the answer 14
abbrev pub NeverTaken : Type 0
NeverTaken = (b : Board) (es : List Event) → History b es → (i r : ℕ) → number_of (locks b i r).answer ≢ 14
