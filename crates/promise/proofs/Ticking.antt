-- A tick on a started board is a step of the argument: the named server runs, then every instant that has come is answered.
use Prim.Native.Nat.{ℕ, suc, ◌+◌, ◌-◌, ◌<◌, ◌≤◌}
use mathlib.Core.Path.{◌≡◌, refl, sym, ap, ap₂, subst, subst₂, ◌∙◌}
use mathlib.Core.Logic.{◌≢◌}
use mathlib.Core.Bool.{Bool, true}
use mathlib.Core.List.{List, ◌∷◌, ◌++◌}
use native.Mathlib.Omega.{arith}
use native.Mathlib.Decide.{dec_lt, dec_le, ℕ_discrete}
use lib.ListN.{length, set, length-set}
use lib.Seq.{get_or-set_same, get_or-set_other}
use borrow.Author.Tests.{eq-eqb, ne_eqb}
use Rattle.terms.proofs.Tests.{not_both}
use Rattle.quantity.specs.declared.Instant.{Instant}
use Rattle.quantity.specs.declared.Length.{Length}
use Rattle.quantity.specs.Quantity.{ticks, later, shorter, longer, clock_end}
use Rattle.quantity.proofs.Laws.{later_exact, shorter_is, longer_exact}
use Rattle.resources.specs.declared.Set.{Set}
use Rattle.resources.specs.Resources.{has}
use Rattle.events.specs.Events.{Event, Ran}
use Rattle.timing.specs.declared.Figures.{Figures}
use Rattle.timing.specs.declared.Life.{Life}
use Rattle.timing.specs.declared.State.{State}
use Rattle.timing.specs.declared.State.TheVariants.{Idle, Ready, Suspended, Spent, Stopped}
use Rattle.timing.specs.declared.Lock.{Lock}
use Rattle.timing.specs.declared.Lock.TheVariants.{Free, On}
use Rattle.timing.specs.Timing.{begun, hold, is_ready, in_state, settled, woken, held_on, ran}
use Rattle.timing.specs.Timing.Laws.{woken_idle, ran_ready}
use Rattle.admission.specs.Admission.{slots, slot_of, period_of}
use Rattle.board.specs.declared.Board.{Board}
use Rattle.std.specs.Prelude.{Some, None}
use Rattle.board.specs.Board.{figures_at, life_at, next, named}
use Rattle.board.specs.Run.{roused, worked, paused}
use Rattle.board.specs.Events.{run_out, renewal, renewals, ran_lives}
use Rattle.board.proofs.Named.{named_below, named_ready}
use Rattle.guarantee.specs.Board.{View, ready, free}
use Rattle.guarantee.specs.Board as abstract
use Rattle.guarantee.specs.Step.{Ticks, works, ends, holds, Settled}
use Rattle.guarantee.specs.Invariant.{Local}
use Rattle.guarantee.proofs.Facts.{I5_free, I7}
use Rattle.guarantee.specs.Reached as reached
use Rattle.guarantee.specs.History.{history}
use Rattle.guarantee.proofs.Views.{in_table_lem}
use Rattle.guarantee.proofs.Use.{Telling, Quieting, in_order, ticks as ticks-of, pauses}
use Rattle.promise.proofs.Lawful.{Kept, lawful_table}
use Rattle.promise.proofs.Look.{view_in, view_of, look, view_by, ready_in, life_beyond}
use Rattle.promise.proofs.Naming.{names, names_nobody}
use Rattle.promise.proofs.Bound.{T, Bound, sound_bound, figures_are}
use Rattle.promise.proofs.Rousing.{run_out_lem, run_on, run_held, settled_woken, roused_life, roused_keeps}
use Rattle.promise.proofs.Waking.{renewals_in_order, renewals_beyond, Awaits, Wakes, wakes, no_renewal}

module _ (n l : ℕ) (t : List Figures) (w : Kept n l t) (b : Board) (es : List Event) (B : Bound n l t w b es) (room : b.clock.0 + 1 ≤ clock_end) where
  -- the clock after the tick
  abbrev now : Instant
  now = later b.clock (ticks 1)

  now_is : now.0 ≡ suc b.clock.0
  now_is = ap (λ (x : Instant). x.0) (later_exact b.clock (ticks 1) (omega arith)) ∙ omega arith

  -- between the ticks nobody's instant has come
  awaits : (j : ℕ) (x : Life) (s : State) → Local (T n l t w) b.clock.0 j (view_in s x.left.0 x.deadline.0)
      → Settled (T n l t w) b.clock.0 (view_in s x.left.0 x.deadline.0) → Awaits n l t w s x (suc b.clock.0) j
  awaits j x Idle a c = tt
  awaits j x (Ready s k) a c = tt
  awaits j x Stopped a c = tt
  awaits j x (Suspended k) a c = (a.0.0, c)
  awaits j x Spent a c = (a.0.0, c)

  before : (j : ℕ) → Awaits n l t w (life_at b j).state (life_at b j) now.0 j
  before j =
      let I = sound_bound n l t w b es B in
      rw now_is (awaits j (life_at b j) (life_at b j).state (I.inv.local j) (I.settled j))

  -- the board when the clock has moved, with these lives in the code, and what they come to, before anybody is replenished
  abbrev moment : List Life → Board
  moment lives = next b lives now b.locked b.closed

  record Half (lives : List Life) (x : ℕ → Life) : Type 0 where
    long : length lives ≡ slots
    waits : (j : ℕ) → Awaits n l t w (x j).state (x j) now.0 j
    dates : (j : ℕ) → (x j).deadline.0 ≤ now.0 + period_of t j
    after : (j : ℕ) → j < slots → woken (slot_of t j) (life_at (moment lives) j) now ≡ woken (slot_of t j) (x j) now
    beyond : (j : ℕ) → slots ≤ j → x j ≡ begun

  module _ (lives : List Life) (x : ℕ → Life) (h : Half lives x) where
    abbrev c : Board
    c = moment lives

    -- the argument's board between them
    abbrev half : abstract.State
    half = record { now = now.0; view = λ j. view_of (x j); locked = has b.locked }

    all_after : (j : ℕ) → life_at (roused c) j ≡ woken (slot_of t j) (x j) now
    all_after j = go (dec_le slots j)
      where
        go : Dec (slots ≤ j) → life_at (roused c) j ≡ woken (slot_of t j) (x j) now
        go (yes k) = life_beyond (roused c) j (roused_keeps c h.long).6 k ∙ sym (ap (λ (y : Life). woken (slot_of t j) y now) (h.beyond j k) ∙ woken_idle (slot_of t j) begun now refl)
        go (no z) =
            let k : j < slots = omega arith in
            roused_life c j k
            ∙ ap (λ (f : Figures). woken f (life_at c j) c.clock) (ap (λ (y : List Figures). slot_of y j) B.table)
            ∙ h.after j k

    clock_after : (roused c).clock.0 ≡ now.0
    clock_after = ap (λ (i : Instant). i.0) (roused_keeps c h.long).3

    wake : (j : ℕ) → Wakes n l t w j (x j) now
    wake j = wakes n l t w j (x j) now (x j).state refl (h.waits j) (omega (arith, now_is)) (h.dates j)

    each : (j : ℕ) → Quieting (T n l t w) now.0 j (view_of (x j)) ((look (roused c)).view j) (renewal j (x j) now)
    each j = subst (λ (v : View). Quieting (T n l t w) now.0 j (view_of (x j)) v (renewal j (x j) now)) (sym (ap view_of (all_after j))) (wake j).quiet

    all_settled : (j : ℕ) → Settled (T n l t w) (look (roused c)).now ((look (roused c)).view j)
    all_settled j = rw (clock_after, ap view_of (all_after j)) (wake j).settled

    bits_after : (r : ℕ) → has (roused c).locked r ≡ has b.locked r
    bits_after r = ap (λ (i : Set). has i r) (roused_keeps c h.long).4

    -- what the slots tell
    told_same : in_order (λ j. renewal j (x j) now) n ≡ renewals x now slots
    told_same =
        let e : n + (slots - n) ≡ slots = omega (arith, w.standing.few) in
        sym (renewals_in_order x now n)
        ∙ sym (renewals_beyond x now n (slots - n) (λ j k. no_renewal n l t w j (x j) now (x j).state refl (h.waits j) k)) ∙ ap (renewals x now) e

    bound_after : (fs : List Event) → Telling (T n l t w) (look b) (look (roused c)) fs → Bound n l t w (roused c) (es ++ fs)
    unfolding history
    bound_after fs (step, says) =
        let k = roused_keeps c h.long in
        record {
          frame = ap (λ (x : Length). x.0) k.0 ∙ B.frame;
          runs = k.1 ∙ B.runs;
          table = k.2 ∙ B.table;
          long = k.6;
          clock = omega (arith, clock_after, now_is);
          locked = rw k.4 B.locked;
          closed = rw k.5 B.closed;
          dates = λ j. rw (clock_after, all_after j) (wake j).date;
          reached = reached.next B.reached step;
          told = ap₂ (λ (p q : List Event). p ++ q) B.told says;
        }

  -- nobody is named: only the clock moves
  pub pause_bound : named b ≡ None → Bound n l t w (roused (paused b)) (es ++ renewals (life_at b) now slots)
  unfolding paused
  pause_bound e =
      let (step, says) = pauses (T n l t w) (look b) (half b.lives (life_at b) between) (look (roused (paused b))) (λ j. renewal j (life_at b j) now)
      (each b.lives (life_at b) between) now_is (λ r. refl) (clock_after b.lives (life_at b) between) (bits_after b.lives (life_at b) between)
      (all_settled b.lives (life_at b) between) (names_nobody n l t w b B.table B.long B.reached e) (λ j. refl) in
      bound_after b.lives (life_at b) between _ (step, says ∙ told_same b.lives (life_at b) between)
    where
      between : Half b.lives (life_at b)
      between = record {
        long = B.long;
        waits = before;
        dates = λ j. omega (arith, B.dates j, now_is);
        after = λ j h. refl;
        beyond = λ j h. life_beyond b j B.long h;
      }

  -- the named server's tick
  module _ (m : ℕ) (name : named b ≡ Some m) (server : m < n) where
    abbrev x : Life
    x = life_at b m

    -- what the tick leaves of it, before anybody is replenished
    abbrev z : Life
    z = run_out (ran x)

    record Tick : Type 0 where
      ticked : Ticks (T n l t w) m (view_of x) (view_of z)
      waiting : Awaits n l t w z.state z now.0 m
      dated : z.deadline.0 ≤ now.0 + period_of t m

    -- after the tick its life is y
    tick_of : (s : Bool) (k : Lock) → x.state ≡ Ready s k → (y : Life) → z ≡ y → y.deadline ≡ x.deadline
        → Ticks (T n l t w) m (view_in (Ready s k) x.left.0 x.deadline.0) (view_of y) → Awaits n l t w y.state y now.0 m → Tick
    tick_of s k e y q d r a = record {
      ticked = subst₂ (λ (u v : View). Ticks (T n l t w) m u v) (sym (view_by x (Ready s k) e)) (sym (ap view_of q)) r;
      waiting = rw q a;
      dated = rw (q, d) (omega (arith, B.dates m, now_is));
    }

    -- what runs leaves: the budget less 1, the held count more 1
    abbrev ran_as : Lock → Life
    ran_as k = record { state = Ready true (held_on k); left = shorter x.left (ticks 1); deadline = x.deadline }

    tick_free : (s : Bool) → x.state ≡ Ready s Free → Tick
    tick_free s e = go (dec_lt 0 (x.left.0 - 1))
      where
        is : ran x ≡ ran_as Free
        is = ran_ready x s Free e

        less : (shorter x.left (ticks 1)).0 ≡ x.left.0 - 1
        less = shorter_is x.left (ticks 1)

        view : (look b).view m ≡ ready x.left.0 0 x.deadline.0 s free
        view = view_by x (Ready s Free) e

        go : Dec (0 < x.left.0 - 1) → Tick
        go (yes h) =
            tick_of s Free e (ran_as Free) (ap run_out is ∙ run_on (ran_as Free) true refl (omega (arith, less))) refl
            (works (sym less) (omega (arith, less))) tt
        go (no y) =
            let none : (shorter x.left (ticks 1)).0 ≡ 0 = omega (arith, less) in
            let owes = I5_free (T n l t w) (lawful_table n l t w) (sound_bound n l t w b es B) m x.left.0 0 x.deadline.0 s view in
            let early = I7 (T n l t w) (lawful_table n l t w) (sound_bound n l t w b es B) m x.left.0 0 x.deadline.0 s free view owes in
            tick_of s Free e (in_state (ran_as Free) Spent) (ap run_out is ∙ run_out_lem (ran_as Free) true refl none) refl
            (ends (sym less) none) (server, omega (arith, early, now_is))

    tick_held : (s : Bool) (r : ℕ) (k : Length) → x.state ≡ Ready s (On r k) → k.0 < (hold (slot_of t m) r).0 → Tick
    tick_held s r k e h =
        tick_of s (On r k) e (ran_as (On r k)) (ap run_out (ran_ready x s (On r k) e) ∙ run_held (ran_as (On r k)) true r (longer k (ticks 1)) refl) refl
        (rw more (holds {r = r} {h = k.0} (sym (shorter_is x.left (ticks 1))) h)) tt
      where
        more : (longer k (ticks 1)).0 ≡ suc k.0
        more = let f = w.ranged m server in
            ap (λ (i : Length). i.0) (longer_exact k (ticks 1) (omega (arith, f.holds_high r, f.budget_high, f.period_high))) ∙ omega arith

    -- the lives between: m's, and the others as they were
    at_m : ran_lives b m m ≡ z
    at_m = rw (eq-eqb m m refl) refl

    at_other : (j : ℕ) → j ≢ m → ran_lives b m j ≡ life_at b j
    at_other j ne = rw (ne_eqb j m ne) refl

    -- what holds of m's and of the others' holds of all
    each_life : (P : ℕ → Life → Type 0) → P m z → ((j : ℕ) → P j (life_at b j)) → (j : ℕ) → P j (ran_lives b m j)
    each_life P p q j = go (ℕ_discrete j m)
      where
        go : Dec (j ≡ m) → P j (ran_lives b m j)
        go (yes e) = rw e (subst (P m) (sym at_m) p)
        go (no ne) = subst (P j) (sym (at_other j ne)) (q j)

    worked_after : (s : Bool) (k : Lock) → x.state ≡ Ready s k → m < slots → (j : ℕ) → j < slots
        → woken (slot_of t j) (life_at (worked b m) j) now ≡ woken (slot_of t j) (ran_lives b m j) now
    unfolding worked
    worked_after s k e slot j h = go (ℕ_discrete j m)
      where
        go : Dec (j ≡ m) → woken (slot_of t j) (life_at (worked b m) j) now ≡ woken (slot_of t j) (ran_lives b m j) now
        go (yes q) = rw q
            (ap (λ (y : Life). woken (slot_of t m) y now) (get_or-set_same b.lives m (settled (figures_at b m) (ran x) now) begun (omega (arith, B.long)))
            ∙ ap (λ (f : Figures). woken (slot_of t m) (settled f (ran x) now) now) (figures_are n l t w b es B m)
            ∙ settled_woken (ran x) true (slot_of t m) now (held_on k) (ap (λ (y : Life). y.state) (ran_ready x s k e))
            ∙ ap (λ (y : Life). woken (slot_of t m) y now) (sym at_m))
        go (no ne) = ap (λ (y : Life). woken (slot_of t j) y now)
            (get_or-set_other b.lives m j (settled (figures_at b m) (ran x) now) begun ne ∙ sym (at_other j ne))

    -- the lives as the code has them: m's settled at once
    abbrev worked_lives : List Life
    worked_lives = set b.lives m (settled (figures_at b m) (ran x) now)

    worked_between : Tick → (s : Bool) (k : Lock) → x.state ≡ Ready s k → m < slots → Half worked_lives (ran_lives b m)
    unfolding worked
    worked_between r s k e slot = record {
      long = length-set b.lives m (settled (figures_at b m) (ran x) now) ∙ B.long;
      waits = each_life (λ j y. Awaits n l t w y.state y now.0 j) r.waiting before;
      dates = each_life (λ j y. y.deadline.0 ≤ now.0 + period_of t j) r.dated (λ j. omega (arith, B.dates j, now_is));
      after = worked_after s k e slot;
      beyond = λ j h. at_other j (λ q. omega arith) ∙ life_beyond b j B.long h;
    }

    tick_by : Tick → (s : Bool) (k : Lock) → x.state ≡ Ready s k → m < slots → Bound n l t w (roused (worked b m)) (es ++ Ran m ∷ renewals (ran_lives b m) now slots)
    unfolding worked
    tick_by r s k e slot =
        let lives = worked_lives in
        let y = ran_lives b m in
        let (step, says) = ticks-of (T n l t w) (look b) (half lives y between) (look (roused (worked b m))) (λ j. renewal j (y j) now)
        (each lives y between) now_is (λ i. refl) (clock_after lives y between) (bits_after lives y between)
        (all_settled lives y between) m (names n l t w b B.table B.long m name) (subst (λ (q : Life). Ticks (T n l t w) m (view_of x) (view_of q)) (sym at_m) r.ticked)
        (λ j ne. ap view_of (at_other j ne)) in
        bound_after lives y between _ (step, says ∙ ap (λ (q : List Event). Ran m ∷ q) (told_same lives y between))
      where
        between : Half worked_lives (ran_lives b m)
        between = worked_between r s k e slot

  -- somebody is named, and does not hold for longer than it may
  pub tick_bound : (m : ℕ) → named b ≡ Some m → ((s : Bool) (r : ℕ) (k : Length) → (life_at b m).state ≡ Ready s (On r k) → k.0 < (hold (slot_of t m) r).0)
      → Bound n l t w (roused (worked b m)) (es ++ Ran m ∷ renewals (ran_lives b m) now slots)
  tick_bound m name within = go (life_at b m).state refl (named_ready b m name)
    where
      server : abstract.Ready ((look b).view m) → m < n
      server a = (in_table_lem (T n l t w) b.clock.0 m ((look b).view m) ((sound_bound n l t w b es B).inv.local m) a).0

      go : (s : State) → (life_at b m).state ≡ s → is_ready (life_at b m).state ≡ true → Bound n l t w (roused (worked b m)) (es ++ Ran m ∷ renewals (ran_lives b m) now slots)
      go (Ready s Free) e a =
          let i = server (ready_in _ _ (life_at b m).state a) in
          tick_by m name i (tick_free m name i s e) s Free e (named_below b m name)
      go (Ready s (On r k)) e a =
          let i = server (ready_in _ _ (life_at b m).state a) in
          tick_by m name i (tick_held m name i s r k e (within s r k e)) s (On r k) e (named_below b m name)
      go Idle e a = absurd (not_both a (rw e refl))
      go (Suspended k) e a = absurd (not_both a (rw e refl))
      go Spent e a = absurd (not_both a (rw e refl))
      go Stopped e a = absurd (not_both a (rw e refl))
