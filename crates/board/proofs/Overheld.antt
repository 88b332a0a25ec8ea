-- A run answered 22 stops the named server and passes no tick: the one way through a run's tests that answers so.
use Prim.Native.Nat.{ℕ, ◌+◌, ◌<◌, ◌≤◌}
use mathlib.Core.Path.{◌≡◌, refl, ap, ◌∙◌}
use mathlib.Core.Logic.{◌≢◌}
use mathlib.Core.Bool.{Bool, true, false, not, ◌&&◌}
use native.Mathlib.Omega.{arith}
use lib.Dec.{leb, ltb}
use lib.Seq.{get_or-set_same, get_or-set_other}
use borrow.Author.Tests.{leb-true, le-leb, le-ltb}
use Rattle.terms.specs.Words.{pick}
use Rattle.terms.proofs.Tests.{either, and_in}
use Rattle.quantity.specs.declared.Length.{Length}
use Rattle.quantity.specs.Quantity.{longest_run, clock_end}
use Rattle.resources.specs.Resources.{resources, has, with, without}
use Rattle.resources.proofs.Laws.{with_same, with_other, without_same, without_other}
use Rattle.timing.specs.declared.Life.{Life}
use Rattle.timing.specs.declared.State.{State}
use Rattle.timing.specs.declared.State.TheVariants.{Idle, Ready, Suspended, Spent, Stopped}
use Rattle.timing.specs.declared.Lock.{Lock}
use Rattle.timing.specs.declared.Lock.TheVariants.{Free, On}
use Rattle.timing.specs.Timing.{begun, in_state, is_ready, hold}
use Rattle.board.specs.declared.Board.{Board}
use Rattle.board.specs.declared.Outcome.{Outcome}
use Rattle.board.specs.declared.Answer.TheVariants as answer
use Rattle.std.specs.Prelude.{Option, Some, None}
use Rattle.board.specs.Board.{figures_at, life_at, with_sets, number_of, named}
use Rattle.board.specs.Run.{passes, stopping, run_with, run_in, run_by, runs}
use Rattle.board.proofs.Stays.{slot_inside}

-- the named server who holds a resource and has held it for its hold, and the outcome o in which it is stopped
pub record Overheld (b : Board) (o : Outcome) : Type 0 where
  pub who : ℕ
  pub started : Bool
  pub resource : ℕ
  pub held : Length
  pub is_named : named b ≡ Some who
  pub holding : (life_at b who).state ≡ Ready started (On resource held)
  pub full : (hold (figures_at b who) resource).0 ≤ held.0
  pub answer_is : o.answer ≡ answer.Overheld
  pub board_is : o.board ≡ with_sets b who (in_state (life_at b who) Stopped) (without b.locked resource) (with b.closed resource)

module _ (b : Board) (n : ℕ) where
  abbrev Stops : Outcome → Type 0
  Stops o = number_of o.answer ≡ 22 → Overheld b o

  pass_of : Stops (passes b n)
  unfolding passes
  pass_of z = absurd (omega arith)

  run_with_lem : (m : ℕ) (s : Bool) (l : Lock) → named b ≡ Some m → (life_at b m).state ≡ Ready s l → Stops (run_with l b m n)
  unfolding run_with stopping
  run_with_lem m s Free e q = pass_of
  run_with_lem m s (On r k) e q = go (leb (hold (figures_at b m) r).0 k.0) refl
    where
      go : (t : Bool) → leb (hold (figures_at b m) r).0 k.0 ≡ t → Stops (pick t (stopping b m r) (passes b n))
      go false f = pass_of
      go true f = λ z. record {
        who = m;
        started = s;
        resource = r;
        held = k;
        is_named = e;
        holding = q;
        full = leb-true _ _ f;
        answer_is = refl;
        board_is = refl;
      }

  run_in_lem : (m : ℕ) (s : State) → named b ≡ Some m → (life_at b m).state ≡ s → Stops (run_in s b m n)
  unfolding run_in
  run_in_lem m (Ready s l) e q = run_with_lem m s l e q
  run_in_lem m Idle e q = pass_of
  run_in_lem m (Suspended t) e q = pass_of
  run_in_lem m Spent e q = pass_of
  run_in_lem m Stopped e q = pass_of

  run_by_lem : (c : Option ℕ) → named b ≡ c → Stops (run_by b c n)
  unfolding run_by
  run_by_lem None e = pass_of
  run_by_lem (Some m) e = run_in_lem m (life_at b m).state e refl

  -- what a run answered 22 says
  pub overheld : number_of (runs b n).answer ≡ 22 → Overheld b (runs b n)
  unfolding runs
  overheld =
      either Stops (not b.running) (λ z. absurd (omega arith))
      (either Stops (not (leb 1 n && leb n longest_run)) (λ z. absurd (omega arith))
      (either Stops (ltb clock_end (b.clock.0 + n)) (λ z. absurd (omega arith)) (run_by_lem (named b) refl)))

  -- and the other way round: a run that passes its checks on such a board stops the named server
  pub stops : b.running ≡ true → 1 ≤ n → n ≤ longest_run → b.clock.0 + n ≤ clock_end → (m : ℕ) (s : Bool) (r : ℕ) (k : Length) → named b ≡ Some m
      → (life_at b m).state ≡ Ready s (On r k) → (hold (figures_at b m) r).0 ≤ k.0 → runs b n ≡ stopping b m r
  unfolding runs run_by run_in run_with
  stops on low high time m s r k e q full =
      let inside = and_in (leb 1 n) (leb n longest_run) (le-leb _ _ low) (le-leb _ _ high) in
      simp (on, inside, le-ltb _ _ time, e, q, le-leb _ _ full)

module _ (b : Board) (o : Outcome) (h : Overheld b o) where
  -- no tick passes
  pub same_clock : o.board.clock ≡ b.clock
  unfolding with_sets
  same_clock = ap (λ (c : Board). c.clock) h.board_is

  -- the frame stays
  pub same_frame : o.board.frame ≡ b.frame
  unfolding with_sets
  same_frame = ap (λ (c : Board). c.frame) h.board_is

  -- the board is running as it was
  pub same_running : o.board.running ≡ b.running
  unfolding with_sets
  same_running = ap (λ (c : Board). c.running) h.board_is

  -- the table stays
  pub same_table : o.board.table ≡ b.table
  unfolding with_sets
  same_table = ap (λ (c : Board). c.table) h.board_is

  -- every other life is as it was
  pub other_life : (j : ℕ) → j ≢ h.who → life_at o.board j ≡ life_at b j
  unfolding with_sets
  other_life j ne = ap (λ (c : Board). life_at c j) h.board_is ∙ get_or-set_other b.lives h.who j _ begun ne

  -- the named server's life is as it was but stopped
  pub stopped_life : life_at o.board h.who ≡ in_state (life_at b h.who) Stopped
  unfolding with_sets
  stopped_life =
      ap (λ (c : Board). life_at c h.who) h.board_is ∙ get_or-set_same b.lives h.who _ begun (slot_inside b h.who (ap is_ready h.holding))

  -- it is stopped
  pub stopped_state : (life_at o.board h.who).state ≡ Stopped
  stopped_state = ap (λ (l : Life). l.state) stopped_life

  -- its budget is kept
  pub kept_budget : (life_at o.board h.who).left ≡ (life_at b h.who).left
  kept_budget = ap (λ (l : Life). l.left) stopped_life

  -- its deadline is kept
  pub kept_deadline : (life_at o.board h.who).deadline ≡ (life_at b h.who).deadline
  kept_deadline = ap (λ (l : Life). l.deadline) stopped_life

  -- its resource is unlocked
  pub unlocked : has o.board.locked h.resource ≡ false
  unfolding with_sets
  unlocked = ap (λ (c : Board). has c.locked h.resource) h.board_is ∙ without_same b.locked h.resource

  -- every other resource is locked as it was
  pub other_locked : (j : ℕ) → j ≢ h.resource → has o.board.locked j ≡ has b.locked j
  unfolding with_sets
  other_locked j ne = ap (λ (c : Board). has c.locked j) h.board_is ∙ without_other b.locked h.resource j ne

  -- its resource is closed
  pub now_closed : h.resource < resources → has o.board.closed h.resource ≡ true
  unfolding with_sets
  now_closed l = ap (λ (c : Board). has c.closed h.resource) h.board_is ∙ with_same b.closed h.resource l

  -- every other resource is closed as it was
  pub other_closed : (j : ℕ) → j ≢ h.resource → has o.board.closed j ≡ has b.closed j
  unfolding with_sets
  other_closed j ne = ap (λ (c : Board). has c.closed j) h.board_is ∙ with_other b.closed h.resource j ne
