-- A run is as many runs of one: nobody's name changes while it goes on, and the named server's held count stays below its hold.
use Prim.Native.Nat.{ℕ, zero, suc, ◌+◌, ◌<◌, ◌≤◌}
use mathlib.Core.Path.{◌≡◌, refl, sym, ap, subst, ◌∙◌}
use mathlib.Core.Bool.{Bool, true, false, not, ◌&&◌}
use native.Mathlib.Omega.{arith}
use lib.Dec.{leb, ltb, eqb}
use borrow.Author.Tests.{leb-true, leb-false, le-leb, lt-leb, le-ltb, ltb-false, eqb-false, not-false}
use Rattle.terms.specs.Words.{pick}
use Rattle.terms.proofs.Tests.{either, and_in, and_left, and_right}
use Rattle.quantity.specs.declared.Length.{Length}
use Rattle.quantity.specs.Quantity.{ticks, shorter, longer, longest_run, clock_end}
use Rattle.timing.specs.declared.Life.{Life}
use Rattle.timing.specs.declared.State.{State}
use Rattle.timing.specs.declared.State.TheVariants.{Idle, Ready, Suspended, Spent, Stopped}
use Rattle.timing.specs.declared.Lock.{Lock}
use Rattle.timing.specs.declared.Lock.TheVariants.{Free, On}
use Rattle.timing.specs.Timing.{hold, held_on}
use Rattle.refusals.specs.declared.Refusal.TheVariants.{WrongPhase, RunOutOfRange, PastClockEnd}
use Rattle.board.specs.declared.Board.{Board}
use Rattle.board.specs.declared.Outcome.{Outcome}
use Rattle.board.specs.declared.Answer.TheVariants as answer
use Rattle.std.specs.Prelude.{Option, Some, None}
use Rattle.board.specs.Board.{figures_at, life_at, out, number_of, value_of, named}
use Rattle.board.specs.Calls.{refuse}
use Rattle.board.specs.Run.{any_due, roused, worked, paused, reached_with, ticked_to, ticked_by, ticked, goes_on, ran_from, passes, stopping, run_with, run_in, run_by, runs}
use Rattle.board.specs.Machine.{single}
use Rattle.board.proofs.Running.{single_more, single_clock, one_tick, count_at_most, count_at_least, run_is_ticks}
use Rattle.board.proofs.Stays.{ran_on, name_stays, goes_held}

-- the named server, if it holds, has run less than its hold
unfoldable pub Within : Board → Type 0
Within b = (m : ℕ) (s : Bool) (r : ℕ) (k : Length) → named b ≡ Some m → (life_at b m).state ≡ Ready s (On r k) → k.0 < (hold (figures_at b m) r).0

module _ (b : Board) (n : ℕ) where
  -- a run that is past its checks and answered 0 stopped nobody
  with_within : (m : ℕ) (l : Lock) → number_of (run_with l b m n).answer ≡ 0 → (r : ℕ) (k : Length) → l ≡ On r k → k.0 < (hold (figures_at b m) r).0
  unfolding run_with stopping
  with_within m l z r k e = go (leb (hold (figures_at b m) r).0 k.0) refl (ap (λ (x : Lock). number_of (run_with x b m n).answer) (sym e) ∙ z)
    where
      go : (t : Bool) → leb (hold (figures_at b m) r).0 k.0 ≡ t → number_of (run_with (On r k) b m n).answer ≡ 0 → k.0 < (hold (figures_at b m) r).0
      go false q z = leb-false _ _ q
      go true q z = let w : ◌≡◌ {A = ℕ} 22 0 = simp q at z in absurd (omega arith)

  by_within : number_of (run_by b (named b) n).answer ≡ 0 → Within b
  unfolding run_by run_in Within
  by_within z m s r k e q =
      with_within m (On r k)
      (ap (λ (x : State). number_of (run_in x b m n).answer) (sym q) ∙ ap (λ (c : Option ℕ). number_of (run_by b c n).answer) (sym e) ∙ z) r k refl

  -- and the other way round it is n ticks at most
  within_with : (m : ℕ) (l : Lock) → ((r : ℕ) (k : Length) → l ≡ On r k → k.0 < (hold (figures_at b m) r).0) → run_with l b m n ≡ passes b n
  unfolding run_with
  within_with m Free h = refl
  within_with m (On r k) h = simp (lt-leb _ _ (h r k refl))

  within_in : (m : ℕ) (s : State) → ((t : Bool) (r : ℕ) (k : Length) → s ≡ Ready t (On r k) → k.0 < (hold (figures_at b m) r).0)
      → run_in s b m n ≡ passes b n
  unfolding run_in
  within_in m (Ready t l) h = within_with m l (λ r k e. h t r k (ap (Ready t) e))
  within_in m Idle h = refl
  within_in m (Suspended t) h = refl
  within_in m Spent h = refl
  within_in m Stopped h = refl

  within_by : (c : Option ℕ) → named b ≡ c → Within b → run_by b c n ≡ passes b n
  unfolding run_by Within
  within_by None e w = refl
  within_by (Some m) e w = within_in m (life_at b m).state (λ t r k q. w m t r k e q)

  -- the checks of a run, and that it stops nobody
  pub record Checked : Type 0 where
    pub runs_on : b.running ≡ true
    pub low : 1 ≤ n
    pub high : n ≤ longest_run
    pub in_time : b.clock.0 + n ≤ clock_end
    pub within : Within b

  -- a run that is answered 0 passed them
  pub checked : number_of (runs b n).answer ≡ 0 → Checked
  unfolding runs
  checked z = go (not b.running) (not (leb 1 n && leb n longest_run)) (ltb clock_end (b.clock.0 + n)) refl refl refl z
    where
      go : (x y t : Bool) → not b.running ≡ x → not (leb 1 n && leb n longest_run) ≡ y → ltb clock_end (b.clock.0 + n) ≡ t
          → number_of (pick x (refuse b WrongPhase) (pick y (refuse b RunOutOfRange) (pick t (refuse b PastClockEnd) (run_by b (named b) n)))).answer ≡ 0 → Checked
      go true y t e f g z = absurd (omega arith)
      go false true t e f g z = absurd (omega arith)
      go false false true e f g z = absurd (omega arith)
      go false false false e f g z = record {
        runs_on = not-false _ e;
        low = leb-true _ _ (and_left (leb 1 n) (leb n longest_run) (not-false _ f));
        high = leb-true _ _ (and_right (leb 1 n) (leb n longest_run) (not-false _ f));
        in_time = ltb-false _ _ g;
        within = by_within z;
      }

-- a tick leaves the board running
roused_running : (b : Board) → (roused b).running ≡ b.running
unfolding roused
roused_running b = either (λ (c : Board). c.running ≡ b.running) (any_due b) refl refl

ticked_by_running : (b : Board) (c : Option ℕ) → (ticked_by b c).board.running ≡ b.running
unfolding ticked_by ticked_to paused worked
ticked_by_running b None = roused_running (paused b)
ticked_by_running b (Some m) = roused_running (worked b m)

-- n single ticks leave it running
pub single_running : (b : Board) (n : ℕ) → (single b n).running ≡ b.running
unfolding single ticked
single_running b zero = refl
single_running b (suc n) = single_running (ticked b).board n ∙ ticked_by_running b (named b)

-- one single tick more
pub single_next : (b : Board) (j : ℕ) → single b (j + 1) ≡ (ticked (single b j)).board
unfolding single
single_next b j = single_more b j 1

free_not : {r : ℕ} {k : Length} → Free ≡ On r k → ⊥
free_not q = let z : ◌≡◌ {A = ℕ} 0 1 = cc in omega arith

same_lock : {s t : Bool} {k l : Lock} → Ready s k ≡ Ready t l → k ≡ l
same_lock e = cc

held_on_on : (l : Lock) (r : ℕ) (k : Length) → held_on l ≡ On r k → (n : Length) × (l ≡ On r n) × (k ≡ longer n (ticks 1))
held_on_on Free r k e = absurd (free_not e)
held_on_on (On q n) r k e = (n, cc, cc)

-- the held count stays below the hold as long as a run goes on
pub within_stays : (b : Board) → goes_on (ticked b).reason ≡ true → Within b → Within (ticked b).board
unfolding Within reached_with worked longer
within_stays b g w m s r k e q =
    let named-too = sym (name_stays b g) ∙ e in
    let h = ran_on b g m named-too in
    let state = ap (λ (l : Life). l.state) (sym h.life_is) ∙ ap (λ (c : Board). (life_at c m).state) (sym h.board_is) ∙ q in
    let (n, was, now) = held_on_on h.lock r k (same_lock state) in
    let below = w m h.started r n named-too (h.was ∙ ap (Ready h.started) was) in
    let ends = ap (λ (l : Lock). goes_on (reached_with (held_on l) (figures_at b m) (shorter (life_at b m).left (ticks 1)))) (sym was) ∙ h.ends_nothing in
    let ne = eqb-false (hold (figures_at b m) r).0 (longer n (ticks 1)).0 (goes_held (eqb (hold (figures_at b m) r).0 (longer n (ticks 1)).0) ends) in
    let f : figures_at (ticked b).board m ≡ figures_at b m = ap (λ (c : Board). figures_at c m) h.board_is in
    let z : (longer n (ticks 1)).0 < (hold (figures_at b m) r).0 = omega arith in
    rw (f, now) z

-- a run that passes its checks and stops nobody is its ticks
pub run_passes : (b : Board) (n : ℕ) → Checked b n → runs b n ≡ passes b n
unfolding runs
run_passes b n h =
    let inside = and_in (leb 1 n) (leb n longest_run) (le-leb _ _ h.low) (le-leb _ _ h.high) in
    simp (h.runs_on, inside, le-ltb _ _ h.in_time) (within_by b n (named b) refl h.within)

-- a run of one is one tick
pub run_one : (b : Board) → Checked b 1 → runs b 1 ≡ out (ticked b).board (answer.Done 1)
unfolding passes
run_one b h =
    let q : (ran_from b 0 1).ticks ≡ 1 = omega (arith, count_at_most b 0 1, count_at_least b 0 1 (omega arith)) in
    run_passes b 1 h ∙ ap (λ (c : Board). out c (answer.Done (ran_from b 0 1).ticks)) (one_tick b 0) ∙ ap (λ (k : ℕ). out (ticked b).board (answer.Done k)) q

-- the board after as many runs of one
unfoldable pub ones : Board → ℕ → Board
ones b zero = b
ones b (suc k) = (runs (ones b k) 1).board

module _ (b : Board) (n : ℕ) (z : number_of (runs b n).answer ≡ 0) where
  abbrev value : ℕ
  value = value_of (runs b n).answer

  next_is : (j : ℕ) → single b (suc j) ≡ (ticked (single b j)).board
  next_is j = let q : suc j ≡ j + 1 = omega arith in ap (single b) q ∙ single_next b j

  -- the same server is named before each tick of a run, or nobody before each
  pub name_in_run : (j : ℕ) → j < value_of (runs b n).answer → named (single b j) ≡ named b
  unfolding single
  name_in_run zero l = refl
  name_in_run (suc j) l =
      ap named (next_is j) ∙ name_stays (single b j) ((run_is_ticks b n z).went_on j (omega arith)) ∙ name_in_run j (omega arith)

  -- and its held count is below its hold
  pub within_run : (j : ℕ) → j < value_of (runs b n).answer → Within (single b j)
  unfolding single
  within_run zero l = (checked b n z).within
  within_run (suc j) l =
      subst Within (sym (next_is j)) (within_stays (single b j) ((run_is_ticks b n z).went_on j (omega arith)) (within_run j (omega arith)))

  -- each tick of a run is a run of one
  pub run_is_runs : (j : ℕ) → j < value_of (runs b n).answer → runs (single b j) 1 ≡ out (single b (j + 1)) (answer.Done 1)
  run_is_runs j l =
      let h = checked b n z in
      let k = (run_is_ticks b n z).at_most in
      let clock = single_clock b j (omega (arith, h.in_time)) in
      run_one (single b j) (record {
        runs_on = single_running b j ∙ h.runs_on;
        low = omega arith;
        high = omega arith;
        in_time = omega (arith, h.in_time, clock);
        within = within_run j l;
      }) ∙ ap (λ (c : Board). out c (answer.Done 1)) (sym (single_next b j))

  ones_single : (j : ℕ) → j ≤ value_of (runs b n).answer → ones b j ≡ single b j
  unfolding ones single
  ones_single zero l = refl
  ones_single (suc j) l =
      let q : j + 1 ≡ suc j = omega arith in
      ap (λ (c : Board). (runs c 1).board) (ones_single j (omega arith)) ∙ ap (λ (o : Outcome). o.board) (run_is_runs j (omega arith)) ∙ ap (single b) q

  -- the run is as many runs of one as it answers, in its answer and its board
  pub run_is_ones : runs b n ≡ out (ones b (value_of (runs b n).answer)) (answer.Done (value_of (runs b n).answer))
  unfolding passes
  run_is_ones =
      let p = run_passes b n (checked b n z) in
      let k = run_is_ticks b n z in
      let s : (runs b n).board ≡ ones b value = k.singly ∙ sym (ones_single value (omega arith)) in
      let v : (ran_from b 0 n).ticks ≡ value = sym (ap (λ (o : Outcome). value_of o.answer) p) in
      p ∙ ap (λ (c : Board). out c (answer.Done (ran_from b 0 n).ticks)) (sym (ap (λ (o : Outcome). o.board) p) ∙ s)
      ∙ ap (λ (m : ℕ). out (ones b value) (answer.Done m)) v
