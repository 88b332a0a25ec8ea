-- Nobody's name changes while a run goes on: the named server gets its started mark, and the order and the ceiling stay.
use Prim.Native.Nat.{ℕ, ◌<◌, ◌≤◌}
use mathlib.Core.Path.{◌≡◌, refl, sym, ap, ◌∙◌}
use mathlib.Core.Logic.{inl, inr, ◌≢◌}
use mathlib.Core.Bool.{Bool, true, false}
use native.Mathlib.Omega.{arith}
use native.Mathlib.Decide.{ℕ_discrete, dec_le}
use lib.ListN.{length, get_or-eq_default}
use lib.Seq.{get_or-set_same, get_or-set_other}
use lib.Dec.{eqb}
use borrow.Author.Tests.{eqb-false}
use Rattle.terms.specs.Words.{pick}
use Rattle.terms.proofs.Tests.{not_both}
use Rattle.quantity.specs.declared.Instant.{Instant}
use Rattle.quantity.specs.Quantity.{ticks, later, shorter, longer}
use Rattle.timing.specs.declared.Life.{Life}
use Rattle.timing.specs.declared.State.{State}
use Rattle.timing.specs.declared.State.TheVariants.{Idle, Ready, Suspended, Spent, Stopped}
use Rattle.timing.specs.declared.Lock.{Lock}
use Rattle.timing.specs.declared.Lock.TheVariants.{Free, On}
use Rattle.timing.specs.Timing.{begun, is_ready, is_started, settled, held_on, ran}
use Rattle.timing.specs.Timing.Laws.{ran_ready, settled_left, settled_holds}
use Rattle.admission.specs.Admission.{slots}
use Rattle.board.specs.declared.Board.{Board}
use Rattle.std.specs.Prelude.{Option, Some, None}
use Rattle.board.specs.declared.Reason.{Reason}
use Rattle.board.specs.declared.Reason.TheVariants.{Whole, Changed, Reached}
use Rattle.board.specs.declared.Ticked.{Ticked}
use Rattle.board.specs.Board.{figures_at, life_at, next, stands, first, ceiling_of, ceiling, may_go, named_by, named}
use Rattle.board.specs.Run.{any_due, roused, worked, paused, reached_in, reached_with, reached, ticked_to, ticked_by, ticked, goes_on}
use Rattle.board.proofs.First.{Leads}
use Rattle.board.proofs.Named.{First_of, Goes, Held, Why, itself, instead, named_why, why_named, named_ready}

-- a ready server's mark and lock
pub ready_is : (s : State) → is_ready s ≡ true → (t : Bool) × (k : Lock) × (s ≡ Ready t k)
ready_is (Ready t k) e = (t, k, refl)
ready_is Idle e = absurd (not_both e refl)
ready_is (Suspended t) e = absurd (not_both e refl)
ready_is Spent e = absurd (not_both e refl)
ready_is Stopped e = absurd (not_both e refl)

-- a tick after which a run goes on replenishes nobody
quiet_by : (t : Bool) (c d : Board) (why : Reason) → goes_on (pick t Changed why) ≡ true → (pick t d c ≡ c) × (goes_on why ≡ true)
quiet_by true c d why h = absurd (not_both h refl)
quiet_by false c d why h = (refl, h)

pub quiet : (c : Board) (why : Reason) → goes_on (ticked_to c why).reason ≡ true → ((ticked_to c why).board ≡ c) × (goes_on why ≡ true)
unfolding ticked_to roused
quiet c why h = quiet_by (any_due c) c _ why h

-- a slot whose server is ready has a life
pub slot_inside : (b : Board) (m : ℕ) → is_ready (life_at b m).state ≡ true → m < length b.lives
slot_inside b m e = go (dec_le (length b.lives) m)
  where
    go : Dec (length b.lives ≤ m) → m < length b.lives
    go (no z) = omega arith
    go (yes h) = absurd (not_both e (ap (λ (l : Life). is_ready l.state) (get_or-eq_default b.lives begun h)))

-- the life of a ready server with lock k after a tick that ends nothing
abbrev pub ran_with : Life → Lock → Life
ran_with l k = record { state = Ready true (held_on k); left = shorter l.left (ticks 1); deadline = l.deadline }

-- a tick after which a run goes on left something of the budget
goes_left : (t : Bool) → goes_on (pick t Changed Whole) ≡ true → t ≡ false
goes_left true h = absurd (not_both h refl)
goes_left false h = refl

-- and did not reach the hold
pub goes_held : (t : Bool) → goes_on (pick t Reached Whole) ≡ true → t ≡ false
goes_held true h = absurd (not_both h refl)
goes_held false h = refl

module _ (b : Board) (m : ℕ) (t : Bool) (k : Lock) (e : (life_at b m).state ≡ Ready t k) (g : goes_on (reached b m) ≡ true) where
  reached_by : reached b m ≡ reached_with (held_on k) (figures_at b m) (shorter (life_at b m).left (ticks 1))
  unfolding reached
  reached_by = ap (λ (x : Life). reached_in x.state (figures_at b m) x.left) (ran_ready (life_at b m) t k e)

  settles : settled (figures_at b m) (ran (life_at b m)) (later b.clock (ticks 1)) ≡ ran_with (life_at b m) k
  unfolding reached_with
  settles = ap (λ (x : Life). settled (figures_at b m) x (later b.clock (ticks 1))) (ran_ready (life_at b m) t k e) ∙ go k (ap goes_on (sym reached_by) ∙ g)
    where
      go : (k : Lock) → goes_on (reached_with (held_on k) (figures_at b m) (shorter (life_at b m).left (ticks 1))) ≡ true
          → settled (figures_at b m) (ran_with (life_at b m) k) (later b.clock (ticks 1)) ≡ ran_with (life_at b m) k
      go Free h =
          let q = (shorter (life_at b m).left (ticks 1)).0 in
          let z : q ≡ 0 → ⊥ = eqb-false q 0 (goes_left (eqb q 0) h) in
          let p : 0 < q = omega arith in
          settled_left (figures_at b m) (ran_with (life_at b m) Free) (later b.clock (ticks 1)) true refl p
      go (On r n) h = settled_holds (figures_at b m) (ran_with (life_at b m) (On r n)) (later b.clock (ticks 1)) true r (longer n (ticks 1)) refl

-- what a tick does in which m runs and after which a run goes on
pub record Ran_on (b : Board) (m : ℕ) (d : Board) : Type 0 where
  pub started : Bool
  pub lock : Lock
  pub was : (life_at b m).state ≡ Ready started lock
  pub board_is : d ≡ worked b m
  pub life_is : life_at (worked b m) m ≡ ran_with (life_at b m) lock
  pub others : (j : ℕ) → j ≢ m → life_at (worked b m) j ≡ life_at b j
  pub ends_nothing : goes_on (reached_with (held_on lock) (figures_at b m) (shorter (life_at b m).left (ticks 1))) ≡ true

module _ (b : Board) (g : goes_on (ticked b).reason ≡ true) where
  ticked_to_lem : (c : Option ℕ) → named b ≡ c → ticked b ≡ ticked_by b c
  unfolding ticked
  ticked_to_lem c e = ap (ticked_by b) e

  -- with nobody named only the clock moves
  pub pauses : named b ≡ None → (ticked b).board ≡ paused b
  unfolding ticked_by
  pauses e =
      let q = ticked_to_lem None e in
      ap (λ (x : Ticked). x.board) q ∙ (quiet (paused b) Whole (ap (λ (x : Ticked). goes_on x.reason) (sym q) ∙ g)).0

  -- with m named only m's life and the clock move
  pub ran_on : (m : ℕ) → named b ≡ Some m → Ran_on b m (ticked b).board
  unfolding ticked_by worked
  ran_on m e =
      let q = ticked_to_lem (Some m) e in
      let (s, w) = quiet (worked b m) (reached b m) (ap (λ (x : Ticked). goes_on x.reason) (sym q) ∙ g) in
      let r = named_ready b m e in
      let (t, k, u) = ready_is (life_at b m).state r in
      record {
        started = t;
        lock = k;
        was = u;
        board_is = ap (λ (x : Ticked). x.board) q ∙ s;
        life_is = get_or-set_same b.lives m _ begun (slot_inside b m r) ∙ settles b m t k u w;
        others = λ j ne. get_or-set_other b.lives m j _ begun ne;
        ends_nothing = ap goes_on (sym (reached_by b m t k u w)) ∙ w;
      }

-- the board at another instant
abbrev pub moved : Board → Instant → Board
moved b t = next b b.lives t b.locked b.closed

-- the name does not depend on the clock
moved_by : (b : Board) (t : Instant) (c : Option ℕ) → named_by (moved b t) c ≡ named_by b c
unfolding named_by first may_go ceiling ceiling_of
moved_by b t None = refl
moved_by b t (Some f) = refl

pub moved_same : (b : Board) (t : Instant) → named (moved b t) ≡ named b
unfolding named first
moved_same b t = moved_by b t (first b false)

module _ (b : Board) (m : ℕ) (d : Board) (h : Ran_on b m d) where
  due_same : (j : ℕ) → (life_at (worked b m) j).deadline.0 ≡ (life_at b j).deadline.0
  due_same j = go (ℕ_discrete j m)
    where
      go : Dec (j ≡ m) → (life_at (worked b m) j).deadline.0 ≡ (life_at b j).deadline.0
      go (yes q) = rw q (ap (λ (l : Life). l.deadline.0) h.life_is)
      go (no ne) = ap (λ (l : Life). l.deadline.0) (h.others j ne)

  ready_same : (j : ℕ) → stands (worked b m) false j ≡ stands b false j
  ready_same j = go (ℕ_discrete j m)
    where
      go : Dec (j ≡ m) → is_ready (life_at (worked b m) j).state ≡ is_ready (life_at b j).state
      go (yes q) = rw q (ap (λ (l : Life). is_ready l.state) h.life_is ∙ sym (ap is_ready h.was))
      go (no ne) = ap (λ (l : Life). is_ready l.state) (h.others j ne)

  started_other : (j : ℕ) → j ≢ m → is_started (life_at (worked b m) j).state ≡ is_started (life_at b j).state
  started_other j ne = ap (λ (l : Life). is_started l.state) (h.others j ne)

  started_now : is_started (life_at (worked b m) m).state ≡ true
  started_now = ap (λ (l : Life). is_started l.state) h.life_is

  leads_same : (s : Bool) (i j : ℕ) → Leads b s i j → Leads (worked b m) s i j
  unfolding Leads
  leads_same s i j (inl l) = inl (omega (arith, due_same i, due_same j))
  leads_same s i j (inr (q, l)) = inr (due_same i ∙ q ∙ sym (due_same j), l)

  first_same : (f : ℕ) → First_of b false f → First_of (worked b m) false f
  first_same f w = record {
    below = w.below;
    one = ready_same f ∙ w.one;
    leads = λ j l y. leads_same false f j (w.leads j l (sym (ready_same j) ∙ y));
  }

  leads_itself : Leads (worked b m) true m m
  unfolding Leads
  leads_itself = inr (refl, omega arith)

  first_started : First_of b true m → First_of (worked b m) true m
  first_started w = record { below = w.below; one = started_now; leads = λ j l y. go (ℕ_discrete j m) l y }
    where
      go : {j : ℕ} → Dec (j ≡ m) → j < slots → stands (worked b m) true j ≡ true → Leads (worked b m) true m j
      go {j} (yes q) l y = rw q leads_itself
      go {j} (no ne) l y = leads_same true m j (w.leads j l (sym (started_other j ne) ∙ y))

  why_stays : Why b m → Why (worked b m) m
  unfolding Goes Held worked ceiling ceiling_of
  why_stays (itself w g) = itself (first_same m w) (inl started_now)
  why_stays (instead f w (x, y) z) =
      let ne : f ≡ m → ⊥ = λ q. not_both z.one (rw q at x) in
      instead f (first_same f w) (started_other f ne ∙ x, y) (first_started z)

-- after a tick that ends nothing the same server is named, or nobody again
pub name_stays : (b : Board) → goes_on (ticked b).reason ≡ true → named (ticked b).board ≡ named b
unfolding paused
name_stays b g = go (named b) refl
  where
    go : (c : Option ℕ) → named b ≡ c → named (ticked b).board ≡ named b
    go None e = ap named (pauses b g e) ∙ moved_same b (later b.clock (ticks 1))
    go (Some m) e =
        let h = ran_on b g m e in
        ap named h.board_is ∙ why_named (worked b m) m (why_stays b m (ticked b).board h (named_why b m e)) ∙ sym e
