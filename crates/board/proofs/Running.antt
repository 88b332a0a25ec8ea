-- A run is its count of single ticks, each but the last without an event: by going from one tick to the next.
use Prim.Native.Nat.{ℕ, zero, suc, ◌+◌, ◌<◌, ◌≤◌}
use mathlib.Core.Path.{◌≡◌, refl, sym, ap, ◌∙◌}
use mathlib.Core.Bool.{Bool, true, false, not, ◌&&◌}
use native.Mathlib.Omega.{arith}
use lib.Dec.{ltb, leb}
use borrow.Author.Tests.{leb-true, ltb-false, not-false}
use Rattle.terms.proofs.Tests.{either, by_test, and_left}
use Rattle.quantity.specs.Quantity.{ticks, later, last_instant, longest_run, clock_end}
use Rattle.quantity.proofs.Laws.{later_exact}
use Rattle.timing.specs.declared.State.{State}
use Rattle.timing.specs.declared.State.TheVariants.{Idle, Ready, Suspended, Spent, Stopped}
use Rattle.timing.specs.declared.Lock.{Lock}
use Rattle.timing.specs.declared.Lock.TheVariants.{Free, On}
use Rattle.timing.specs.Timing.{hold}
use Rattle.board.specs.declared.Board.{Board}
use Rattle.board.specs.declared.Outcome.{Outcome}
use Rattle.board.specs.declared.Ran.{Ran}
use Rattle.board.specs.declared.Reason.TheVariants.{Whole}
use Rattle.std.specs.Prelude.{Option, Some, None}
use Rattle.board.specs.Board.{figures_at, number_of, value_of, named}
use Rattle.board.specs.Run.{any_due, roused, worked, paused, ticked_to, ticked_by, ticked, goes_on, ran_from, passes, stopping, run_with, run_in, run_by, runs}
use Rattle.board.specs.Machine.{single}
use Rattle.board.proofs.Ticks.{whole_if, ran_on, ran_event, ran_whole}

-- what r says of n ticks from b, of which k have passed before
pub record Passed (b : Board) (k n : ℕ) (r : Ran) : Type 0 where
  pub count : ℕ
  pub counted : r.ticks ≡ k + count
  pub at_most : count ≤ n
  pub at_least : 1 ≤ n → 1 ≤ count
  pub singly : r.board ≡ single b count
  pub went_on : (j : ℕ) → j + 1 < count → goes_on (ticked (single b j)).reason ≡ true
  pub last_is : (j : ℕ) → count ≡ j + 1 → r.reason ≡ (ticked (single b j)).reason
  pub short : count < n → goes_on r.reason ≡ false

pub passed : (b : Board) (k n : ℕ) → Passed b k n (ran_from b k n)
unfolding single
passed b k zero = rw (ran_whole b k) (record {
  count = 0;
  counted = omega arith;
  at_most = omega arith;
  at_least = λ h. h;
  singly = refl;
  went_on = λ j l. absurd (omega arith);
  last_is = λ j q. absurd (omega arith);
  short = λ l. absurd (omega arith);
})
passed b k (suc n) = go (goes_on (ticked b).reason) refl (passed (ticked b).board (k + 1) n)
  where
    go : (g : Bool) → goes_on (ticked b).reason ≡ g → Passed (ticked b).board (k + 1) n (ran_from (ticked b).board (k + 1) n)
        → Passed b k (suc n) (ran_from b k (suc n))
    go false e h = rw (ran_event b k n e) (record {
      count = 1;
      counted = refl;
      at_most = omega arith;
      at_least = λ l. omega arith;
      singly = refl;
      went_on = λ j l. absurd (omega arith);
      last_is = only;
      short = λ l. e;
    })
      where
        only : (j : ℕ) → 1 ≡ j + 1 → (ticked b).reason ≡ (ticked (single b j)).reason
        only zero q = refl
        only (suc j) q = absurd (omega arith)
    go true e h = rw (ran_on b k n e) (record {
      count = suc h.count;
      counted = omega (arith, h.counted);
      at_most = omega (arith, h.at_most);
      at_least = λ l. omega arith;
      singly = h.singly;
      went_on = went;
      last_is = last;
      short = λ l. h.short (omega arith);
    })
      where
        went : (j : ℕ) → j + 1 < suc h.count → goes_on (ticked (single b j)).reason ≡ true
        went zero l = e
        went (suc j) l = h.went_on j (omega arith)

        none_left : (m : ℕ) → (1 ≤ m → 1 ≤ h.count) → h.count ≡ 0 → (ran_from (ticked b).board (k + 1) m).reason ≡ Whole
        none_left zero f q = ap (λ (r : Ran). r.reason) (ran_whole (ticked b).board (k + 1))
        none_left (suc m) f q = absurd (omega (arith, f (omega arith)))

        last : (j : ℕ) → suc h.count ≡ j + 1 → (ran_from (ticked b).board (k + 1) n).reason ≡ (ticked (single b j)).reason
        last zero q = none_left n h.at_least (omega arith) ∙ sym (whole_if _ e)
        last (suc j) q = h.last_is j (omega arith)

-- ticks after ticks
pub single_more : (b : Board) (m n : ℕ) → single b (m + n) ≡ single (single b m) n
unfolding single
single_more b zero n = let q : 0 + n ≡ n = omega arith in ap (single b) q
single_more b (suc m) n = let q : suc m + n ≡ suc (m + n) = omega arith in ap (single b) q ∙ single_more (ticked b).board m n

-- a run of one is one tick
pub one_tick : (b : Board) (k : ℕ) → (ran_from b k 1).board ≡ (ticked b).board
unfolding single
one_tick b k =
    let h = passed b k 1 in
    let q : h.count ≡ 1 = omega (arith, h.at_most, h.at_least (omega arith)) in
    h.singly ∙ ap (single b) q

-- one tick moves the clock by one
roused_clock : (b : Board) → (roused b).clock ≡ b.clock
unfolding roused
roused_clock b = either (λ (c : Board). c.clock ≡ b.clock) (any_due b) refl refl

ticked_by_lem : (b : Board) (c : Option ℕ) → (ticked_by b c).board.clock ≡ later b.clock (ticks 1)
unfolding ticked_by ticked_to paused worked
ticked_by_lem b None = roused_clock (paused b)
ticked_by_lem b (Some m) = roused_clock (worked b m)

pub ticked_clock : (b : Board) → b.clock.0 + 1 ≤ last_instant → (ticked b).board.clock.0 ≡ b.clock.0 + 1
unfolding ticked
ticked_clock b h = ap (λ t. t.0) (ticked_by_lem b (named b) ∙ later_exact b.clock (ticks 1) h)

pub single_clock : (b : Board) (n : ℕ) → b.clock.0 + n ≤ last_instant → (single b n).clock.0 ≡ b.clock.0 + n
unfolding single
single_clock b zero h = omega arith
single_clock b (suc n) h =
    let e = ticked_clock b (omega arith) in
    single_clock (ticked b).board n (omega arith) ∙ omega arith

module _ (b : Board) (k n : ℕ) where
  -- the count is of this run's ticks: none more than asked, and one at least
  pub count_at_most : (ran_from b k n).ticks ≤ k + n
  count_at_most = let h = passed b k n in omega (arith, h.counted, h.at_most)

  pub count_at_least : 1 ≤ n → k + 1 ≤ (ran_from b k n).ticks
  count_at_least l = let h = passed b k n in omega (arith, h.counted, h.at_least l)

  -- the count is the clock's advance
  pub count_is_clock : b.clock.0 + n ≤ last_instant → (ran_from b k n).board.clock.0 + k ≡ b.clock.0 + (ran_from b k n).ticks
  count_is_clock l =
      let h = passed b k n in
      let e = ap (λ (c : Board). c.clock.0) h.singly ∙ single_clock b h.count (omega (arith, h.at_most)) in
      omega (arith, e, h.counted)

-- what an outcome says of a run of n that was not refused and stopped nobody
pub record Ran_so (b : Board) (n : ℕ) (o : Outcome) : Type 0 where
  pub at_most : value_of o.answer ≤ n
  pub at_least : 1 ≤ value_of o.answer
  pub singly : o.board ≡ single b (value_of o.answer)
  pub clock_is : o.board.clock.0 ≡ b.clock.0 + value_of o.answer
  pub went_on : (j : ℕ) → j + 1 < value_of o.answer → goes_on (ticked (single b j)).reason ≡ true
  pub ended : (j : ℕ) → value_of o.answer ≡ j + 1 → j + 1 < n → goes_on (ticked (single b j)).reason ≡ false

module _ (b : Board) (n : ℕ) (low : 1 ≤ n) (high : b.clock.0 + n ≤ clock_end) where
  -- answered with number 0
  abbrev Run_of : Outcome → Type 0
  Run_of o = number_of o.answer ≡ 0 → Ran_so b n o

  pass_of : Run_of (passes b n)
  unfolding passes
  pass_of z =
      let h = passed b 0 n in
      let q : (ran_from b 0 n).ticks ≡ h.count = omega (arith, h.counted) in
      let s : (ran_from b 0 n).board ≡ single b (ran_from b 0 n).ticks = h.singly ∙ ap (single b) (sym q) in
      record {
        at_most = omega (arith, count_at_most b 0 n);
        at_least = omega (arith, count_at_least b 0 n low);
        singly = s;
        clock_is = omega (arith, count_is_clock b 0 n (omega arith));
        went_on = λ j l. h.went_on j (omega arith);
        ended = λ j e l. ap goes_on (sym (h.last_is j (sym q ∙ e))) ∙ h.short (omega arith);
      }

  run_with_lem : (k : Lock) (m : ℕ) → Run_of (run_with k b m n)
  unfolding run_with stopping
  run_with_lem Free m = pass_of
  run_with_lem (On r k) m = either Run_of (leb (hold (figures_at b m) r).0 k.0) (λ z. absurd (omega arith)) pass_of

  run_in_lem : (s : State) (m : ℕ) → Run_of (run_in s b m n)
  unfolding run_in
  run_in_lem (Ready s k) m = run_with_lem k m
  run_in_lem Idle m = pass_of
  run_in_lem (Suspended t) m = pass_of
  run_in_lem Spent m = pass_of
  run_in_lem Stopped m = pass_of

  run_by_lem : (c : Option ℕ) → Run_of (run_by b c n)
  unfolding run_by
  run_by_lem None = pass_of
  run_by_lem (Some m) = run_in_lem _ m

pub run_is_ticks : (b : Board) (n : ℕ) → number_of (runs b n).answer ≡ 0 → Ran_so b n (runs b n)
unfolding runs
run_is_ticks b n =
    by_test Told (not b.running) (λ t z. absurd (omega arith)) (λ t.
    by_test Told (not (leb 1 n && leb n longest_run)) (λ u z. absurd (omega arith)) (λ u.
    by_test Told (ltb clock_end (b.clock.0 + n)) (λ v z. absurd (omega arith)) (λ v.
    run_by_lem b n (leb-true 1 n (and_left (leb 1 n) (leb n longest_run) (not-false _ u))) (ltb-false clock_end (b.clock.0 + n) v) (named b))))
  where
    Told : Outcome → Type 0
    Told o = number_of o.answer ≡ 0 → Ran_so b n o
