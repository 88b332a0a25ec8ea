-- A history is no empty thing: document 01's whole case on our board, tick by tick and call by call, and what happened in it in its order.
use Prim.Native.Nat.{ℕ}
use mathlib.Core.Path.{◌≡◌, refl, subst}
use mathlib.Core.Bool.{Bool, true, false}
use mathlib.Core.List.{List, [], ◌∷◌, ◌++◌}
use lib.ListN.{replicate}
use Rattle.terms.specs.Words.{sum, largest, every, some, list}
use Rattle.quantity.specs.Quantity.{at, ticks, length_of, later, longer, shorter}
use Rattle.resources.specs.Resources.{bit, has, with, without, set_bit, clear_bit}
use Rattle.timing.specs.declared.Figures.{Figures}
use Rattle.timing.specs.declared.Life.{Life}
use Rattle.timing.specs.declared.State.TheVariants.{Ready, Suspended}
use Rattle.timing.specs.declared.Lock.TheVariants.{Free, On}
use Rattle.timing.specs.Timing.{begun, hold, due, ended, comes, lacking}
use Rattle.timing.specs.Timing.Text.{tr_is, replenished_is, arrived_is, asked_is, settled_is, woken_is, ran_is, largest_hold_is}
use Rattle.admission.specs.Admission.{slots, figures_of, placed, period_fits, budget_fits, holds_fit, nobody}
use Rattle.admission.specs.Admission.Text.{load_is, used_is, longest_wait_is, passes_is, judged_is}
use Rattle.board.specs.declared.Board.{Board}
use Rattle.std.specs.Prelude.{Some}
use Rattle.board.specs.declared.Reason.{Reason}
use Rattle.board.specs.declared.Reason.TheVariants.{Whole, Changed, Reached}
use Rattle.board.specs.declared.Answer.{Answer}
use Rattle.board.specs.declared.Answer.TheVariants as answer
use Rattle.board.specs.Board.{with_life, with_sets, out, seek, first, lowest, ceiling_of, ceiling, may_go, named_by, named}
use Rattle.board.specs.Calls.{empty, fresh, with_table, opened, blank, commissioning, vacancy, admitted_as, admitted_in, admitted, started, standing, arrived_in, arrives, locked_by, locking, lock_free, lock_with, lock_ready, lock_in, locks, unlocking, unlock_with, unlock_ready, unlock_in, unlocks}
use Rattle.board.specs.Run.{any_due, roused, worked, reached_with, reached, ticked_to, ticked_by, ticked, ran_from, passes, run_with, run_in, run_by, runs}
use Rattle.board.specs.Machine.{Call, Admit, Start, Arrive, Lock, Unlock, Run, made}
use Rattle.board.specs.Events.{told, ran_lives, tick_told, ticks_told, renewal, renewals, run_out}
use Rattle.events.specs.Events.{Event, Ran, Replenished}
use Rattle.promise.specs.History.{History, opening, after, happened}
use Rattle.promise.proofs.Calls.{any_calls}

-- holds of resource 0 alone
abbrev holds : ℕ → List ℕ
holds h = h ∷ 0 ∷ 0 ∷ 0 ∷ 0 ∷ 0 ∷ 0 ∷ 0 ∷ []

-- the table with slot 0, and with slots 0 and 1; the board in commissioning with a table
abbrev one : List Figures
one = figures_of 10 4 (holds 2) ∷ replicate 15 nobody

abbrev two : List Figures
two = figures_of 10 4 (holds 2) ∷ figures_of 30 9 (holds 3) ∷ replicate 14 nobody

abbrev bare : List Figures → Board
bare t = with_table (fresh (ticks 60)) t

-- the started board: its clock, slot 0, slot 1, and the locked resources
abbrev board : ℕ → Life → Life → ℕ → Board
board now x y locked = record {
  frame = ticks 60;
  running = true;
  table = two;
  lives = x ∷ y ∷ replicate 14 begun;
  clock = at now;
  locked = record { 0 = locked };
  closed = empty;
}

-- a ready server, slot 0 that waits for 8, slot 1 that has held resource 0 for n ticks
abbrev ready : Bool → ℕ → ℕ → Life
ready started q d = record { state = Ready started Free; left = ticks q; deadline = at d }

abbrev waiting : Life
waiting = record { state = Suspended (at 8); left = ticks 1; deadline = at 10 }

abbrev holding : ℕ → ℕ → Life
holding n q = record { state = Ready true (On 0 (ticks n)); left = ticks q; deadline = at 33 }

-- one tick: the board after it, why it ends a run, and what happens in it
abbrev Ticks : Board → Board → Reason → List Event → Type 0
Ticks b b' why es = (ticked b ≡ record { board = b'; reason = why }) × (tick_told b (named b) ≡ es)

tick_of : (b b₁ b₂ : Board) (m : ℕ) (w₁ w : Reason) (es : List Event) → named b ≡ Some m → worked b m ≡ b₁ → reached b m ≡ w₁
    → ticked_to b₁ w₁ ≡ record { board = b₂; reason = w } → renewals (ran_lives b m) (later b.clock (ticks 1)) slots ≡ es → Ticks b b₂ w (Ran m ∷ es)
unfolding ticked ticked_by tick_told
tick_of b b₁ b₂ m w₁ w es n k r t e = (simp (n, k, r, t), simp (n, e))

-- a tick after which nobody is replenished
plain : (b b' : Board) (m : ℕ) (w : Reason) → named b ≡ Some m → worked b m ≡ b' → reached b m ≡ w
    → ticked_to b' w ≡ record { board = b'; reason = w } → renewals (ran_lives b m) (later b.clock (ticks 1)) slots ≡ [] → Ticks b b' w (Ran m ∷ [])
plain b b' m w n k r t e = tick_of b b' b' m w w [] n k r t e

-- the ticks of the three runs
ticks_are :
    Ticks (board 0 (ready false 4 10) begun 0) (board 1 (ready true 3 10) begun 0) Whole (Ran 0 ∷ [])
    × Ticks (board 1 (ready true 3 10) begun 0) (board 2 (ready true 2 10) begun 0) Whole (Ran 0 ∷ [])
    × Ticks (board 2 (ready true 2 10) begun 0) (board 3 (ready true 1 10) begun 0) Whole (Ran 0 ∷ [])
    × Ticks (board 3 waiting (holding 0 9) 1) (board 4 waiting (holding 1 8) 1) Whole (Ran 1 ∷ [])
    × Ticks (board 4 waiting (holding 1 8) 1) (board 5 waiting (holding 2 7) 1) Whole (Ran 1 ∷ [])
    × Ticks (board 5 waiting (holding 2 7) 1) (board 6 waiting (holding 3 6) 1) Reached (Ran 1 ∷ [])
    × Ticks (board 6 waiting (ready true 6 33) 0) (board 7 waiting (ready true 5 33) 0) Whole (Ran 1 ∷ [])
    × Ticks (board 7 waiting (ready true 5 33) 0) (board 8 (ready false 4 18) (ready true 4 33) 0) Changed (Ran 1 ∷ Replenished 0 8 ∷ [])
unfolding seek first lowest ceiling_of ceiling may_go named_by named every some has bit hold figures_of length_of list ticked_to reached reached_with worked roused any_due due later shorter longer ended comes renewal renewals run_out
ticks_are = (
  plain _ _ _ _ refl (simp (ran_is, settled_is) refl) (simp ran_is refl) refl (simp ran_is refl),
  plain _ _ _ _ refl (simp (ran_is, settled_is) refl) (simp ran_is refl) refl (simp ran_is refl),
  plain _ _ _ _ refl (simp (ran_is, settled_is) refl) (simp ran_is refl) refl (simp ran_is refl),
  plain _ _ _ _ refl (simp (ran_is, settled_is) refl) (simp ran_is refl) refl (simp ran_is refl),
  plain _ _ _ _ refl (simp (ran_is, settled_is) refl) (simp ran_is refl) refl (simp ran_is refl),
  plain _ _ _ _ refl (simp (ran_is, settled_is) refl) (simp ran_is refl) refl (simp ran_is refl),
  plain _ _ _ _ refl (simp (ran_is, settled_is) refl) (simp ran_is refl) refl (simp ran_is refl),
  tick_of _ (board 8 waiting (ready true 4 33) 0) _ _ Whole _ _ refl (simp (ran_is, settled_is) refl) (simp ran_is refl)
      (simp (woken_is, replenished_is) refl) (simp ran_is refl),
)

-- one call: the board after it, the answer, and what happens in it
abbrev Makes : Board → Call → Board → Answer → List Event → Type 0
Makes b c b' a es = (made b c ≡ out b' a) × (told b c ≡ es)

-- the calls, in their order
calls_are :
    Makes (bare (replicate 16 nobody)) (Admit 10 4 (holds 2)) (bare one) (answer.Done 0) []
    × Makes (bare one) (Admit 30 9 (holds 3)) (bare two) (answer.Done 1) []
    × Makes (bare two) Start (board 0 begun begun 0) (answer.Done 0) []
    × Makes (board 0 begun begun 0) (Arrive 0) (board 0 (ready false 4 10) begun 0) (answer.Done 0) (Replenished 0 0 ∷ [])
    × Makes (board 0 (ready false 4 10) begun 0) (Run 3) (board 3 (ready true 1 10) begun 0) (answer.Done 3) (Ran 0 ∷ Ran 0 ∷ Ran 0 ∷ [])
    × Makes (board 3 (ready true 1 10) begun 0) (Lock 0 0) (board 3 waiting begun 0) (answer.Suspended (at 8)) []
    × Makes (board 3 waiting begun 0) (Arrive 1) (board 3 waiting (ready false 9 33) 0) (answer.Done 0) (Replenished 1 3 ∷ [])
    × Makes (board 3 waiting (ready false 9 33) 0) (Lock 1 0) (board 3 waiting (holding 0 9) 1) (answer.Done 0) []
    × Makes (board 3 waiting (holding 0 9) 1) (Run 5) (board 6 waiting (holding 3 6) 1) (answer.Done 3) (Ran 1 ∷ Ran 1 ∷ Ran 1 ∷ [])
    × Makes (board 6 waiting (holding 3 6) 1) (Unlock 1) (board 6 waiting (ready true 6 33) 0) (answer.Done 0) []
    × Makes (board 6 waiting (ready true 6 33) 0) (Run 5) (board 8 (ready false 4 18) (ready true 4 33) 0) (answer.Done 2) (Ran 1 ∷ Ran 1 ∷ Replenished 0 8 ∷ [])
unfolding seek first lowest ceiling_of ceiling may_go named_by named every some has bit hold figures_of length_of list commissioning vacancy sum largest placed period_fits budget_fits holds_fit fresh standing with_life with_sets later with without set_bit clear_bit made admitted admitted_in admitted_as started arrives arrived_in locks lock_in lock_ready lock_with lock_free locking locked_by lacking unlocks unlock_in unlock_ready unlock_with unlocking ended runs run_by run_in run_with passes ran_from told ticks_told renewal run_out due
calls_are = (
  (simp (judged_is, passes_is, load_is, longest_wait_is) refl, refl),
  (simp (judged_is, passes_is, load_is, longest_wait_is, used_is) refl, refl),
  (refl, refl),
  (simp (arrived_is, tr_is, replenished_is) refl, simp (arrived_is, tr_is, replenished_is) refl),
  (
    simp (ticks_are.0.0, ticks_are.1.0, ticks_are.2.0) refl,
    simp (ticks_are.0.0, ticks_are.0.1, ticks_are.1.0, ticks_are.1.1, ticks_are.2.0, ticks_are.2.1) refl,
  ),
  (simp (asked_is, largest_hold_is, tr_is) refl, simp (asked_is, largest_hold_is, tr_is) refl),
  (simp (arrived_is, tr_is, replenished_is) refl, simp (arrived_is, tr_is, replenished_is) refl),
  (simp (asked_is, largest_hold_is) refl, simp (asked_is, largest_hold_is) refl),
  (
    simp (ticks_are.3.0, ticks_are.4.0, ticks_are.5.0) refl,
    simp (ticks_are.3.0, ticks_are.3.1, ticks_are.4.0, ticks_are.4.1, ticks_are.5.0, ticks_are.5.1) refl,
  ),
  (simp settled_is refl, refl),
  (
    simp (ticks_are.6.0, ticks_are.7.0) refl,
    simp (ticks_are.6.0, ticks_are.6.1, ticks_are.7.0, ticks_are.7.1) refl,
  ),
)

-- calls one after another: the board after them, and what happened in them
abbrev Leads : Board → List Call → Board → List Event → Type 0
Leads b cs b' es = (after b cs ≡ b') × (happened b cs ≡ es)

none : (b : Board) → Leads b [] b []
unfolding after happened
none b = (refl, refl)

go_on : (b : Board) (c : Call) (cs : List Call) {b₁ b₂ : Board} {a : Answer} {es fs : List Event}
    → Makes b c b₁ a es → Leads b₁ cs b₂ fs → Leads b (c ∷ cs) b₂ (es ++ fs)
unfolding after happened
go_on b c cs (m, t) (l, h) = (simp (m, l), simp (m, t, h))

-- document 01's lines after F 60, and what happens in them
abbrev calls : List Call
calls = Admit 10 4 (holds 2) ∷ Admit 30 9 (holds 3) ∷ Start ∷ Arrive 0 ∷ Run 3 ∷ Lock 0 0 ∷ Arrive 1 ∷ Lock 1 0 ∷ Run 5 ∷ Unlock 1 ∷ Run 5 ∷ []

abbrev events : List Event
events = Replenished 0 0 ∷ Ran 0 ∷ Ran 0 ∷ Ran 0 ∷ Replenished 1 3 ∷ Ran 1 ∷ Ran 1 ∷ Ran 1 ∷ Ran 1 ∷ Ran 1 ∷ Replenished 0 8 ∷ []

pub whole_case : Leads (opened blank 60).board calls (board 8 (ready false 4 18) (ready true 4 33) 0) events
unfolding opened fresh length_of
whole_case =
    go_on _ _ _ calls_are.0 (go_on _ _ _ calls_are.1 (go_on _ _ _ calls_are.2 (go_on _ _ _ calls_are.3
    (go_on _ _ _ calls_are.4 (go_on _ _ _ calls_are.5 (go_on _ _ _ calls_are.6 (go_on _ _ _ calls_are.7
    (go_on _ _ _ calls_are.8 (go_on _ _ _ calls_are.9 (go_on _ _ _ calls_are.10 (none _)))))))))))

pub whole_case_is_a_history : History (board 8 (ready false 4 18) (ready true 4 33) 0) events
unfolding opened
whole_case_is_a_history =
    subst (λ (b : Board). History b events) whole_case.0
    (subst (λ (es : List Event). History (after (opened blank 60).board calls) es) whole_case.1
    (any_calls (opened blank 60).board [] (opening blank 60 refl) calls
    (refl, (refl, (refl, (refl, (refl, (refl, (refl, (refl, (refl, (refl, (refl, tt)))))))))))))
