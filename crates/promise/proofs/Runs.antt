-- The named server has budget and its tick takes from it; a run goes on until an event falls, since each tick before leaves all as far from it.
use Prim.Native.Nat.{ℕ, zero, suc, ◌+◌, ◌-◌, ◌<◌, ◌≤◌}
use mathlib.Core.Path.{◌≡◌, refl, sym, ap, ◌∙◌}
use mathlib.Core.Logic.{◌≢◌, ⊎_elim}
use mathlib.Core.Bool.{Bool, true, false}
use mathlib.Core.List.{List, [], ◌∷◌, ◌++◌}
use native.Mathlib.Omega.{arith}
use native.Mathlib.Decide.{ℕ_discrete}
use lib.Dec.{eqb}
use lib.ListN.{get_or}
use lib.Seq.{get_or-set_same, get_or-set_other}
use borrow.Author.Tests.{lt-ltb, ne_eqb}
use Rattle.terms.specs.Words.{pick}
use Rattle.terms.proofs.Over.{some_out}
use Rattle.terms.proofs.Tests.{not_both, true_or_false}
use Rattle.quantity.specs.declared.Instant.{Instant}
use Rattle.quantity.specs.declared.Length.{Length}
use Rattle.quantity.specs.Quantity.{ticks, later, shorter, longer}
use Rattle.quantity.proofs.Laws.{later_is, shorter_is}
use Rattle.events.specs.Events.{Event, Ran}
use Rattle.timing.specs.declared.Figures.{Figures}
use Rattle.timing.specs.declared.Life.{Life}
use Rattle.timing.specs.declared.State.{State}
use Rattle.timing.specs.declared.State.TheVariants.{Idle, Ready, Suspended, Spent, Stopped}
use Rattle.timing.specs.declared.Lock.{Lock}
use Rattle.timing.specs.declared.Lock.TheVariants.{Free, On}
use Rattle.timing.specs.Timing.{begun, hold, is_ready, settled, due_in, due, held_on, ran, woken}
use Rattle.timing.specs.Timing.Laws.{settled_left, settled_holds, woken_ready, ran_ready}
use Rattle.admission.specs.Admission.{slots}
use Rattle.board.specs.declared.Board.{Board}
use Rattle.board.specs.declared.Outcome.{Outcome}
use Rattle.board.specs.declared.Answer.TheVariants as answer
use Rattle.std.specs.Prelude.{Option, Some, None}
use Rattle.board.specs.declared.Ran.{Ran as Counted}
use Rattle.board.specs.declared.Reason.TheVariants.{Changed}
use Rattle.board.specs.Board.{figures_at, life_at, out, number_of, value_of, named}
use Rattle.board.specs.Run.{any_due, worked, reached_with, reached_in, reached, ticked_to, ticked_by, ticked, goes_on, ran_from, passes, runs}
use Rattle.board.specs.Machine.{Run, made, single}
use Rattle.board.specs.Events.{told, ticks_told, tick_told, renewals, ran_lives}
use Rattle.board.proofs.Search.{same_slot}
use Rattle.board.proofs.Named.{named_below, named_ready, why_nobody, unready}
use Rattle.board.proofs.Stays.{slot_inside, ran_with, Ran_on, ran_on, name_stays, ready_is}
use Rattle.board.proofs.Ticks.{ran_whole}
use Rattle.board.proofs.Ticks.{ran_on as tick-on}
use Rattle.board.proofs.Running.{one_tick, count_at_most, count_at_least}
use Rattle.board.proofs.Ones.{Within, checked, run_one, run_passes}
use Rattle.guarantee.proofs.Facts.{I4, I5_free}
use Rattle.promise.specs.History.{History}
use Rattle.promise.specs.Runs.{NobodyNamed, SomebodyRuns, Passes, Taken, Takes, Undisturbed, AnswersAll, EachTakes}
use Rattle.promise.proofs.Lawful.{Kept, lawful_table}
use Rattle.promise.proofs.Look.{view_by, ready_in}
use Rattle.promise.proofs.Naming.{names_nobody}
use Rattle.promise.proofs.Bound.{T, Bound, sound_bound, figures_are}
use Rattle.promise.proofs.Rousing.{roused_life}
use Rattle.promise.proofs.Histories.{Stage, unstarted, running, stage, begun_at, run_early}

-- nobody is named exactly if none is ready
unready_after : (b : Board) (es : List Event) → History b es → named b ≡ None → (j : ℕ) → is_ready (life_at b j).state ≡ false
unready_after b es h e j = go (stage h)
  where
    go : Stage b es → is_ready (life_at b j).state ≡ false
    go (unstarted c z) = ap (λ (x : Life). is_ready x.state) (ap (λ (x : List Life). get_or x j begun) c.lives ∙ begun_at slots j)
    go (running n l t w B) =
        ⊎_elim (λ a. absurd (names_nobody n l t w b B.table B.long B.reached e j (ready_in _ _ (life_at b j).state a))) (λ a. a)
        (true_or_false (is_ready (life_at b j).state))

pub nobody_named : NobodyNamed
nobody_named b es h = (unready_after b es h, λ none. why_nobody b (unready (λ j l. none j)))

pub somebody_runs : SomebodyRuns
somebody_runs b es h j a = go (named b) refl
  where
    go : (c : Option ℕ) → named b ≡ c → (m : ℕ) × (named b ≡ Some m) × (is_ready (life_at b m).state ≡ true)
    go None e = absurd (not_both a (unready_after b es h e j))
    go (Some m) e = (m, e, named_ready b m e)

-- the named server has budget left: with no lock always, with one since its hold is not reached and the budget covers the rest of it
bound_left : (n l : ℕ) (t : List Figures) (w : Kept n l t) (b : Board) (es : List Event) → Bound n l t w b es → Within b → (m : ℕ) → named b ≡ Some m
    → (s : Bool) (k : Lock) → (life_at b m).state ≡ Ready s k → 0 < (life_at b m).left.0
unfolding Within
bound_left n l t w b es B h m name s Free e =
    I5_free (T n l t w) (lawful_table n l t w) (sound_bound n l t w b es B) m (life_at b m).left.0 0 (life_at b m).deadline.0 s (view_by (life_at b m) (Ready s Free) e)
bound_left n l t w b es B h m name s (On r k) e =
    let x = life_at b m in
    let (a, c, d, covers) = I4 (T n l t w) (lawful_table n l t w) (sound_bound n l t w b es B) m x.left.0 0 x.deadline.0 s r k.0 (view_by x (Ready s (On r k)) e) in
    omega (arith, covers, h m s r k name e, ap (λ (f : Figures). (hold f r).0) (figures_are n l t w b es B m))

-- a tick that passes with m named and ready
module _ (b : Board) (m : ℕ) (name : named b ≡ Some m) (s : Bool) (k : Lock) (e : (life_at b m).state ≡ Ready s k) where
  abbrev x : Life
  x = life_at b m

  one_less : (ran x).left.0 ≡ x.left.0 - 1
  one_less = ap (λ (y : Life). y.left.0) (ran_ready x s k e) ∙ shorter_is x.left (ticks 1)

  -- what is left stays, whether it holds or not
  settles : (k : Lock) → (k ≡ Free → 1 < x.left.0) → (now : Instant) → settled (figures_at b m) (ran_with x k) now ≡ ran_with x k
  settles Free h now = settled_left (figures_at b m) (ran_with x Free) now true refl (omega (arith, h refl, shorter_is x.left (ticks 1)))
  settles (On r i) h now = settled_holds (figures_at b m) (ran_with x (On r i)) now true r (longer i (ticks 1)) refl

  worked_life : (k ≡ Free → 1 < x.left.0) → life_at (worked b m) m ≡ ran_with x k
  unfolding worked
  worked_life h =
      get_or-set_same b.lives m _ begun (slot_inside b m (named_ready b m name))
      ∙ ap (λ (y : Life). settled (figures_at b m) y (later b.clock (ticks 1))) (ran_ready x s k e) ∙ settles k h (later b.clock (ticks 1))

  ticked_life : (k ≡ Free → 1 < x.left.0) → life_at (ticked b).board m ≡ ran_with x k
  unfolding ticked ticked_by ticked_to
  ticked_life h =
      let c = worked b m in
      ap (λ (q : Option ℕ). life_at (ticked_by b q).board m) name ∙ roused_life c m (named_below b m name)
      ∙ ap (λ (y : Life). woken (figures_at c m) y c.clock) (worked_life h) ∙ woken_ready (figures_at c m) (ran_with x k) c.clock true (held_on k) refl

-- who has held for less than it may is not stopped
not_stopped : (b : Board) (m : ℕ) → named b ≡ Some m
    → ((s : Bool) (r : ℕ) (h : Length) → (life_at b m).state ≡ Ready s (On r h) → h.0 < (hold (figures_at b m) r).0) → Within b
unfolding Within
not_stopped b m name less i s r h e q =
    let same = same_slot (sym e ∙ name) in
    rw same (less s r h (ap (λ (j : ℕ). (life_at b j).state) (sym same) ∙ q))

pub passes_one : Passes
unfolding single
passes_one b m on room name less =
    run_one b (record { runs_on = on; low = omega arith; high = omega arith; in_time = room; within = not_stopped b m name less })

told_one : (b : Board) (m : ℕ) → named b ≡ Some m → number_of (runs b 1).answer ≡ 0 → (rest : List Event) × (told b (Run 1) ≡ Ran m ∷ rest)
unfolding told made ticks_told tick_told
told_one b m name z = (
  renewals (ran_lives b m) (later b.clock (ticks 1)) slots ++ [],
  ap (λ (o : Outcome). pick (eqb (number_of o.answer) 0) (ticks_told b (value_of o.answer)) []) (run_one b (checked b 1 z))
      ∙ ap (λ (c : Option ℕ). tick_told b c ++ []) name,
)

pub takes : Takes
takes b es h m name z = go (stage h) (ready_is (life_at b m).state (named_ready b m name))
  where
    go : Stage b es → (s : Bool) × (k : Lock) × ((life_at b m).state ≡ Ready s k) → Taken b m
    go (unstarted c _) r = absurd (omega (arith, sym (ap (λ (o : Outcome). number_of o.answer) (run_early b c.phase 1)) ∙ z))
    go (running n l t w B) (s, k, e) =
        let ok = checked b 1 z in
        let left = bound_left n l t w b es B ok.within m name s k e in
        let after : 1 < (life_at b m).left.0 → (life_at (runs b 1).board m).left.0 ≡ (life_at b m).left.0 - 1 = λ p.
        ap (λ (o : Outcome). (life_at o.board m).left.0) (run_one b ok) ∙ ap (λ (y : Life). y.left.0) (ticked_life b m name s k e (λ f. p))
        ∙ shorter_is (life_at b m).left (ticks 1) in
        (left, omega (arith, left, one_less b m name s k e), λ p. omega (arith, left, after (omega (arith, p))), told_one b m name z)

-- whose instant is later is not due
not_due : (y : Life) (now : Instant) → ((t : Instant) → y.state ≡ Suspended t → now.0 < t.0) → (y.state ≡ Spent → now.0 < y.deadline.0)
    → due y now ≡ false
unfolding due
not_due y now f g = go y.state refl
  where
    go : (s : State) → y.state ≡ s → due_in s y now ≡ false
    go Idle e = refl
    go (Ready s k) e = refl
    go Stopped e = refl
    go (Suspended t) e = simp (lt-ltb _ _ (f t e))
    go Spent e = simp (lt-ltb _ _ (g e))

free_not : {r : ℕ} {h : Length} {t : Bool} (s : Bool) → Ready t (On r h) ≡ Ready s Free → ⊥
free_not s e = let z : ◌≡◌ {A = ℕ} 1 0 = cc in omega arith

same_lock : {s t : Bool} {q r : ℕ} {g h : Length} → Ready s (On q g) ≡ Ready t (On r h) → (q ≡ r) × (g ≡ h)
same_lock e = (cc, cc)

-- a tick with two or more to go: it ends nothing, and leaves everybody as far from an event
module _ (b : Board) (m n : ℕ) (u : Undisturbed b m (suc (suc n))) where
  module _ (s : Bool) (k : Lock) (e : (life_at b m).state ≡ Ready s k) where
    lasts : k ≡ Free → 1 < (life_at b m).left.0
    lasts f = omega (arith, u.budget s (e ∙ ap (Ready s) f))

    goes_reached : goes_on (reached b m) ≡ true
    unfolding reached reached_with longer shorter
    goes_reached = ap (λ (y : Life). goes_on (reached_in y.state (figures_at b m) y.left)) (ran_ready (life_at b m) s k e) ∙ go k e
      where
        go : (k : Lock) → (life_at b m).state ≡ Ready s k → goes_on (reached_with (held_on k) (figures_at b m) (shorter (life_at b m).left (ticks 1))) ≡ true
        go Free q =
            let ne : (life_at b m).left.0 - 1 ≡ 0 → ⊥ = λ z. omega (arith, u.budget s q) in
            simp (ne_eqb _ _ ne)
        go (On r h) q =
            let ne : (hold (figures_at b m) r).0 ≡ (longer h (ticks 1)).0 → ⊥ = λ z. omega (arith, u.holding s r h q) in
            simp (ne_eqb _ _ ne)

    none_comes : (j : ℕ) → due (life_at (worked b m) j) (worked b m).clock ≡ false
    unfolding worked due
    none_comes j = go (ℕ_discrete j m)
      where
        now_is : (later b.clock (ticks 1)).0 ≤ b.clock.0 + 1
        now_is = omega (arith, later_is b.clock (ticks 1))

        go : Dec (j ≡ m) → due (life_at (worked b m) j) (worked b m).clock ≡ false
        go (yes q) = rw q (ap (λ (y : Life). due y (worked b m).clock) (worked_life b m u.name s k e lasts))
        go (no ne) = ap (λ (y : Life). due y (worked b m).clock) (get_or-set_other b.lives m j _ begun ne)
            ∙ not_due (life_at b j) (worked b m).clock (λ t q. omega (arith, now_is, u.suspended j t q)) (λ q. omega (arith, now_is, u.spent j q))

  goes : goes_on (ticked b).reason ≡ true
  unfolding ticked ticked_by ticked_to any_due
  goes =
      let (s, k, e) = ready_is (life_at b m).state (named_ready b m u.name) in
      let quiet : any_due (worked b m) ≡ false = ⊎_elim (λ a. let (j, h, d) = some_out _ slots a in absurd (not_both d (none_comes s k e j))) (λ a. a) (true_or_false (any_due (worked b m))) in
      ap (λ (c : Option ℕ). goes_on (ticked_by b c).reason) u.name ∙ ap (λ (x : Bool). goes_on (pick x Changed (reached b m))) quiet ∙ goes_reached s k e

  -- the board after it
  abbrev d : Board
  d = (ticked b).board

  after : Ran_on b m d
  after = ran_on b goes m u.name

  life_is : life_at d m ≡ ran_with (life_at b m) after.lock
  life_is = ap (λ (c : Board). life_at c m) after.board_is ∙ after.life_is

  other_is : (j : ℕ) → j ≢ m → life_at d j ≡ life_at b j
  other_is j ne = ap (λ (c : Board). life_at c j) after.board_is ∙ after.others j ne

  figures_same : figures_at d m ≡ figures_at b m
  unfolding worked
  figures_same = ap (λ (c : Board). figures_at c m) after.board_is

  clock_is : d.clock.0 ≤ b.clock.0 + 1
  unfolding worked
  clock_is = omega (arith, ap (λ (c : Board). c.clock.0) after.board_is, later_is b.clock (ticks 1))

  budget_after : (k : Lock) → after.lock ≡ k → (s : Bool) → Ready true (held_on k) ≡ Ready s Free → suc n ≤ (life_at d m).left.0
  budget_after Free q s e =
      let l = u.budget after.started (after.was ∙ ap (Ready after.started) q) in
      omega (arith, l, ap (λ (y : Life). y.left.0) life_is ∙ shorter_is (life_at b m).left (ticks 1))
  budget_after (On r h) q s e = absurd (free_not s e)

  holding_after : (k : Lock) → after.lock ≡ k → (s : Bool) (r : ℕ) (h : Length) → Ready true (held_on k) ≡ Ready s (On r h)
      → h.0 + suc n ≤ (hold (figures_at d m) r).0
  unfolding longer
  holding_after Free q s r h e = absurd (free_not true (sym e))
  holding_after (On r' h') q s r h e =
      let l = u.holding after.started r' h' (after.was ∙ ap (Ready after.started) q) in
      let (a, c) = same_lock e in
      rw (figures_same, ← a, ← c) (omega (arith, l))

  -- nobody but m moved, and m does not wait
  waits_on : (j : ℕ) → is_ready (life_at d j).state ≡ false → life_at d j ≡ life_at b j
  waits_on j e = go (ℕ_discrete j m)
    where
      go : Dec (j ≡ m) → life_at d j ≡ life_at b j
      go (yes q) = absurd (not_both (ap (λ (y : Life). is_ready y.state) (ap (life_at d) q ∙ life_is)) e)
      go (no ne) = other_is j ne

  stays : Undisturbed d m (suc n)
  stays = record {
    name = name_stays b goes ∙ u.name;
    budget = λ s e. budget_after after.lock refl s (sym (ap (λ (y : Life). y.state) life_is) ∙ e);
    holding = λ s r h e. holding_after after.lock refl s r h (sym (ap (λ (y : Life). y.state) life_is) ∙ e);
    suspended = λ i t e.
        let q = waits_on i (ap is_ready e) in
        omega (arith, clock_is, u.suspended i t (sym (ap (λ (y : Life). y.state) q) ∙ e));
    spent = λ i e.
        let q = waits_on i (ap is_ready e) in
        omega (arith, clock_is, u.spent i (sym (ap (λ (y : Life). y.state) q) ∙ e), ap (λ (y : Life). y.deadline.0) q);
  }

  one_less_left : (life_at d m).left.0 ≡ (life_at b m).left.0 - 1
  one_less_left = ap (λ (y : Life). y.left.0) life_is ∙ shorter_is (life_at b m).left (ticks 1)

-- all n ticks pass
all_pass : (n : ℕ) (b : Board) (m k : ℕ) → Undisturbed b m n → ((ran_from b k n).board ≡ single b n) × ((ran_from b k n).ticks ≡ k + n)
unfolding single
all_pass zero b m k u = (ap (λ (r : Counted). r.board) (ran_whole b k), ap (λ (r : Counted). r.ticks) (ran_whole b k) ∙ omega arith)
all_pass (suc zero) b m k u = (one_tick b k, omega (arith, count_at_most b k 1, count_at_least b k 1 (omega arith)))
all_pass (suc (suc n)) b m k u =
    let e = tick-on b k (suc n) (goes b m n u) in
    let (p, q) = all_pass (suc n) (ticked b).board m (k + 1) (stays b m n u) in
    (ap (λ (r : Counted). r.board) e ∙ p, ap (λ (r : Counted). r.ticks) e ∙ q ∙ omega arith)

pub each_takes : EachTakes
unfolding single
each_takes b m n u zero l = (u.name, omega arith)
each_takes b m zero u (suc k) l = elim l [ ]
each_takes b m (suc zero) u (suc k) l = absurd (omega arith)
each_takes b m (suc (suc n)) u (suc k) l =
    let (p, q) = each_takes (ticked b).board m (suc n) (stays b m n u) k (omega arith) in
    (p, omega (arith, q, one_less_left b m n u))

pub answers_all : AnswersAll
unfolding passes
answers_all b m n on low high room u =
    let (p, q) = all_pass n b m 0 u in
    let c : (ran_from b 0 n).ticks ≡ n = q ∙ omega arith in
    let within = not_stopped b m u.name (λ s r h e. omega (arith, u.holding s r h e)) in
    run_passes b n (record { runs_on = on; low = low; high = high; in_time = room; within = within })
    ∙ ap (λ (x : Board). out x (answer.Done (ran_from b 0 n).ticks)) p ∙ ap (λ (x : ℕ). out (single b n) (answer.Done x)) c
