-- A run changes the named server's life and the clock alone, and everybody else waits for the same instant throughout.
use Prim.Native.Nat.{ℕ, zero, suc, ◌+◌, ◌<◌, ◌≤◌}
use mathlib.Core.Path.{◌≡◌, refl, sym, ap, ◌∙◌}
use mathlib.Core.Logic.{⊎_elim}
use mathlib.Core.Bool.{Bool, true, false, not, ◌||◌}
use mathlib.Core.List.{List}
use native.Mathlib.Omega.{arith}
use native.Mathlib.Numerals.{add-one}
use native.Mathlib.Decide.{ℕ_discrete, dec_le}
use lib.ListN.{length, get_or, set}
use lib.Seq.{get_or-set_same, get_or-set_other, set-set}
use borrow.Author.Tests.{not-true, lt-ltb, le-ltb, ltb-true, ltb-false}
use Rattle.terms.specs.Words.{pick, some}
use Rattle.terms.proofs.Over.{some_in, some_out}
use Rattle.terms.proofs.Tests.{not_both, same_test, or_right, or_left, or_out}
use Rattle.quantity.specs.declared.Instant.{Instant}
use Rattle.quantity.specs.Quantity.{ticks, later, before, shorter}
use Rattle.timing.specs.declared.Figures.{Figures}
use Rattle.timing.specs.declared.Life.{Life}
use Rattle.timing.specs.declared.State.{State}
use Rattle.timing.specs.declared.State.TheVariants.{Idle, Ready, Suspended, Spent, Stopped}
use Rattle.timing.specs.declared.Lock.{Lock}
use Rattle.timing.specs.declared.Lock.TheVariants.{Free, On}
use Rattle.timing.specs.Timing.{begun, is_ready, replenished, settled, due_in, due, ran}
use Rattle.timing.specs.Timing.Laws.{replenished_state, ran_ready, settled_left, settled_holds, settled_spent, settled_renewed}
use Rattle.admission.specs.Admission.{slots}
use Rattle.board.specs.declared.Board.{Board}
use Rattle.std.specs.Prelude.{Option, Some, None}
use Rattle.board.specs.declared.Reason.{Reason}
use Rattle.board.specs.declared.Reason.TheVariants.{Whole, Changed}
use Rattle.board.specs.declared.Ticked.{Ticked}
use Rattle.board.specs.Board.{figures_at, life_at, next, named}
use Rattle.board.specs.Run.{any_due, roused, worked, paused, reached_in, reached, ticked_to, ticked_by, ticked, goes_on, ran_from}
use Rattle.board.specs.Steps.{wait_in, earlier, has_come, wait_of, ended_by, ran_to}
use Rattle.board.proofs.Named.{named_ready}
use Rattle.board.proofs.Stays.{ready_is, quiet, slot_inside, ran_with, moved, moved_same, name_stays}
use Rattle.board.proofs.Ticks.{ran_on, ran_event, ran_whole}

-- what a server waits for has come exactly if it is due
come_in : (s : State) (l : Life) (t : Instant) → has_come (wait_in s l) t ≡ due_in s l t
come_in (Suspended s) l t = refl
come_in Spent l t = refl
come_in Idle l t = refl
come_in (Ready started k) l t = refl
come_in Stopped l t = refl

-- the earlier of two has come exactly if one of them has
come_earlier : (v w : Option Instant) (t : Instant) → has_come (earlier v w) t ≡ (has_come v t || has_come w t)
come_earlier None w t = refl
come_earlier (Some a) None t =
    same_test (not (before t a)) (not (before t a) || false) (λ h. or_left _ _ h) (λ h. ⊎_elim (λ u. u) (λ u. absurd (not_both u refl)) (or_out _ false h))
come_earlier (Some a) (Some b) t = go (before b a) refl
  where
    -- what the earlier of two instants has not passed the later has not
    past : (x y : Instant) → x.0 ≤ y.0 → not (before t y) ≡ true → not (before t x) ≡ true
    past x y l h = ap not (le-ltb t.0 x.0 (omega (arith, l, ltb-false t.0 y.0 (not-true _ h))))

    go : (p : Bool) → before b a ≡ p → not (before t (pick p b a)) ≡ (not (before t a) || not (before t b))
    go true q =
        same_test (not (before t b)) (not (before t a) || not (before t b)) (λ h. or_right (not (before t a)) _ h)
        (λ h. ⊎_elim (λ u. past b a (omega (arith, ltb-true b.0 a.0 q)) u) (λ u. u) (or_out _ _ h))
    go false q =
        same_test (not (before t a)) (not (before t a) || not (before t b)) (λ h. or_left _ _ h)
        (λ h. ⊎_elim (λ u. u) (λ u. past a b (ltb-false b.0 a.0 q) u) (or_out _ _ h))

-- what is waited for, from n to n + 1
pub wait_begin : (lives : List Life) → wait_of lives 0 ≡ None
unfolding wait_of
wait_begin lives = refl

pub wait_next : (lives : List Life) (n : ℕ) → wait_of lives (n + 1) ≡ earlier (wait_of lives n) (wait_in (get_or lives n begun).state (get_or lives n begun))
unfolding wait_of
wait_next lives n = rw add-one

-- somebody is due exactly if the first that anybody waits for has come
wait_due : (lives : List Life) (t : Instant) (n : ℕ) → some (λ i. due (get_or lives i begun) t) n ≡ has_come (wait_of lives n) t
unfolding some wait_of due
wait_due lives t zero = refl
wait_due lives t (suc n) =
    let l = get_or lives n begun in
    ap (λ (x : Bool). x || due l t) (wait_due lives t n) ∙ ap (λ (x : Bool). has_come (wait_of lives n) t || x) (sym (come_in l.state l t))
    ∙ sym (come_earlier (wait_of lives n) (wait_in l.state l) t)

-- a tick that leads from b to c: the run goes on from c, or ends there
module _ (b c : Board) (why : Reason) (e : ticked b ≡ ticked_to c why) where
  reason_is : (ticked b).reason ≡ pick (any_due c) Changed why
  unfolding ticked_to
  reason_is = ap (λ (x : Ticked). x.reason) e

  board_on : goes_on (pick (any_due c) Changed why) ≡ true → (ticked b).board ≡ c
  unfolding ticked_to
  board_on g = ap (λ (x : Ticked). x.board) e ∙ (quiet c why g).0

  turn_on : goes_on (pick (any_due c) Changed why) ≡ true → (k n : ℕ) → ran_from b k (suc n) ≡ ran_from c (k + 1) n
  turn_on g k n = ran_on b k n (ap goes_on reason_is ∙ g) ∙ ap (λ (d : Board). ran_from d (k + 1) n) (board_on g)

  turn_event : goes_on (pick (any_due c) Changed why) ≡ false → (k n : ℕ) → ran_from b k (suc n) ≡ ran_to c (k + 1) (pick (any_due c) Changed why)
  unfolding ticked_to ran_to
  turn_event g k n =
      ran_event b k n (ap goes_on reason_is ∙ g) ∙ ap (λ (x : Ticked). record { board = x.board; ticks = k + 1; reason = x.reason }) e
      ∙ ap (λ (x : Bool). record { board = pick x c (roused c); ticks = k + 1; reason = pick (any_due c) Changed why }) (sym g)

-- a run that ends with all its ticks
pub turn_whole : (b : Board) (k : ℕ) → ran_to b k Whole ≡ ran_from b k 0
unfolding ran_to
turn_whole b k = sym (ran_whole b k)

pub ends_same : {b c : Board} {j k : ℕ} {r s : Reason} → b ≡ c → j ≡ k → r ≡ s → ran_to b j r ≡ ran_to c k s
ends_same {b} {c} {j} {k} {r} {s} p q z = ap (λ (x : Board). ran_to x j r) p ∙ ap (λ (x : ℕ). ran_to c x r) q ∙ ap (λ (x : Reason). ran_to c k x) z

-- with nobody named
module _ (b : Board) (e : named b ≡ None) (t u : Instant) (w : Option Instant) (move : u ≡ later t (ticks 1)) (wait : w ≡ wait_of b.lives slots) where
  pauses_to : ticked (moved b t) ≡ ticked_to (moved b u) Whole
  unfolding ticked ticked_by paused
  pauses_to = ap (ticked_by (moved b t)) (moved_same b t ∙ e) ∙ ap (λ (x : Instant). ticked_to (moved b x) Whole) (sym move)

  due_is : any_due (moved b u) ≡ has_come w u
  unfolding any_due
  due_is = wait_due b.lives u slots ∙ ap (λ (x : Option Instant). has_come x u) (sym wait)

  pub pause_on : has_come w u ≡ false → (k n : ℕ) → ran_from (moved b t) k (suc n) ≡ ran_from (moved b u) (k + 1) n
  pause_on h = turn_on (moved b t) (moved b u) Whole pauses_to (ap (λ (x : Bool). goes_on (pick x Changed Whole)) (due_is ∙ h))

  pub pause_event : has_come w u ≡ true → (k n : ℕ) → ran_from (moved b t) k (suc n) ≡ ran_to (moved b u) (k + 1) Changed
  pause_event h k n =
      turn_event (moved b t) (moved b u) Whole pauses_to (ap (λ (x : Bool). goes_on (pick x Changed Whole)) (due_is ∙ h)) k n
      ∙ ap (λ (x : Bool). ran_to (moved b u) (k + 1) (pick x Changed Whole)) (due_is ∙ h)

-- a ready server is not due, nor is it after its tick
ready_rests : (l : Life) (t : Instant) → is_ready l.state ≡ true → due l t ≡ false
unfolding due
ready_rests l t r = let (s, k, q) = ready_is l.state r in ap (λ (x : State). due_in x l t) q

module _ (f : Figures) (l : Life) (t : Instant) where
  settled_rests : (k : Lock) → due (settled f (ran_with l k) t) t ≡ false
  unfolding due
  settled_rests (On r n) = ap (λ (x : Life). due x t) (settled_holds f (ran_with l (On r n)) t true r _ refl)
  settled_rests Free = go (dec_le 1 (shorter l.left (ticks 1)).0) (dec_le l.deadline.0 t.0)
    where
      go : Dec (1 ≤ (shorter l.left (ticks 1)).0) → Dec (l.deadline.0 ≤ t.0) → due (settled f (ran_with l Free) t) t ≡ false
      go (yes h) d = ap (λ (x : Life). due x t) (settled_left f (ran_with l Free) t true refl (omega (arith, h)))
      go (no z) (yes h) =
          ap (λ (x : Life). due x t) (settled_renewed f (ran_with l Free) t true refl (omega arith) h)
          ∙ ap (λ (x : State). due_in x (replenished f l.deadline) t) (replenished_state f l.deadline)
      go (no z) (no h) =
          let p : t.0 < l.deadline.0 = omega arith in
          ap (λ (x : Life). due x t) (settled_spent f (ran_with l Free) t true refl (omega arith) p) ∙ ap not (lt-ltb t.0 l.deadline.0 p)

  ran_rests : is_ready l.state ≡ true → due (settled f (ran l) t) t ≡ false
  ran_rests r =
      let (s, k, q) = ready_is l.state r in
      ap (λ (x : Life). due (settled f x t) t) (ran_ready l s k q) ∙ settled_rests k

-- the board with another life in slot m at another instant
abbrev pub worked_to : Board → ℕ → Life → Instant → Board
worked_to b m l t = next b (set b.lives m l) t b.locked b.closed

pub worked_same : (b : Board) (m : ℕ) {l k : Life} {t u : Instant} → l ≡ k → t ≡ u → worked_to b m l t ≡ worked_to b m k u
worked_same b m {l} {k} {t} {u} p q = ap (λ (x : Life). worked_to b m x t) p ∙ ap (λ (x : Instant). worked_to b m k x) q

-- with m named, where l is its life and t the instant that the run has come to
module _ (b : Board) (m : ℕ) (e : named b ≡ Some m) where
  inside : m < length b.lives
  inside = slot_inside b m (named_ready b m e)

  -- the life of m does not count for who is due
  due_others : (l : Life) (t : Instant) → due l t ≡ false → any_due (worked_to b m l t) ≡ has_come (wait_of b.lives slots) t
  unfolding any_due
  due_others l t z =
      same_test (some (λ i. due (get_or (set b.lives m l) i begun) t) slots) (some (λ i. due (life_at b i) t) slots)
      (λ h. let (j, k, q) = some_out _ slots h in some_in (λ i. due (life_at b i) t) slots j k (sym (same j) ∙ q))
      (λ h. let (j, k, q) = some_out _ slots h in some_in (λ i. due (get_or (set b.lives m l) i begun) t) slots j k (same j ∙ q))
      ∙ wait_due b.lives t slots
    where
      same : (j : ℕ) → due (get_or (set b.lives m l) j begun) t ≡ due (life_at b j) t
      same j = go (ℕ_discrete j m)
        where
          go : Dec (j ≡ m) → due (get_or (set b.lives m l) j begun) t ≡ due (life_at b j) t
          go (no ne) = ap (λ (x : Life). due x t) (get_or-set_other b.lives m j l begun ne)
          go (yes p) =
              rw p (ap (λ (x : Life). due x t) (get_or-set_same b.lives m l begun inside) ∙ z ∙ sym (ready_rests (life_at b m) t (named_ready b m e)))

  module _ (l : Life) (t : Instant) (stays : named (worked_to b m l t) ≡ Some m) where
    life_is : life_at (worked_to b m l t) m ≡ l
    life_is = get_or-set_same b.lives m l begun inside

    ready : is_ready l.state ≡ true
    ready = ap (λ (x : Life). is_ready x.state) (sym life_is) ∙ named_ready (worked_to b m l t) m stays

    abbrev instant : Instant
    instant = later t (ticks 1)

    abbrev after : Life
    after = settled (figures_at b m) (ran l) instant

    abbrev why : Reason
    why = reached_in (ran l).state (figures_at b m) (ran l).left

    works_to : worked (worked_to b m l t) m ≡ worked_to b m after instant
    unfolding worked
    works_to =
        ap (λ (x : Life). next b (set (set b.lives m l) m (settled (figures_at b m) (ran x) instant)) instant b.locked b.closed) life_is
        ∙ ap (λ (ls : List Life). next b ls instant b.locked b.closed) (set-set b.lives m l after)

    reaches : reached (worked_to b m l t) m ≡ why
    unfolding reached
    reaches = ap (λ (x : Life). reached_in (ran x).state (figures_at b m) (ran x).left) life_is

    ticks_to : ticked (worked_to b m l t) ≡ ticked_to (worked_to b m after instant) why
    unfolding ticked ticked_by
    ticks_to =
        ap (ticked_by (worked_to b m l t)) stays ∙ ap (λ (c : Board). ticked_to c (reached (worked_to b m l t) m)) works_to
        ∙ ap (λ (r : Reason). ticked_to (worked_to b m after instant) r) reaches

    ends_by : pick (any_due (worked_to b m after instant)) Changed why ≡ ended_by (ran l) (figures_at b m) (wait_of b.lives slots) instant
    unfolding ended_by
    ends_by = ap (λ (x : Bool). pick x Changed why) (due_others after instant (ran_rests (figures_at b m) l instant ready))

    on : goes_on (ended_by (ran l) (figures_at b m) (wait_of b.lives slots) instant) ≡ true
        → (named (worked_to b m after instant) ≡ Some m) × ((k n : ℕ) → ran_from (worked_to b m l t) k (suc n) ≡ ran_from (worked_to b m after instant) (k + 1) n)
    on g =
        let c = worked_to b m after instant in
        let h = ap goes_on ends_by ∙ g in
        let board = board_on (worked_to b m l t) c why ticks_to h in
        let r = ap goes_on (reason_is (worked_to b m l t) c why ticks_to) ∙ h in
        (ap named (sym board) ∙ name_stays (worked_to b m l t) r ∙ stays, turn_on (worked_to b m l t) c why ticks_to h)

    event : goes_on (ended_by (ran l) (figures_at b m) (wait_of b.lives slots) instant) ≡ false
        → (k n : ℕ) → ran_from (worked_to b m l t) k (suc n)
        ≡ ran_to (worked_to b m after instant) (k + 1) (ended_by (ran l) (figures_at b m) (wait_of b.lives slots) instant)
    event g k n =
        turn_event (worked_to b m l t) (worked_to b m after instant) why ticks_to (ap goes_on ends_by ∙ g) k n
        ∙ ap (λ (r : Reason). ran_to (worked_to b m after instant) (k + 1) r) ends_by

    -- what the code has after a tick: the instant, the life before the spent rule and after it, and the reason
    module _ (u : Instant) (f : Figures) (a c : Life) (w : Option Instant) (r : Reason) (move : u ≡ instant) (figures : f ≡ figures_at b m) (tick : a ≡ ran l)
        (settle : c ≡ settled f a u) (wait : w ≡ wait_of b.lives slots) (end : r ≡ ended_by a f w u) where
      board_is : worked_to b m c u ≡ worked_to b m after instant
      board_is =
          ap (λ (x : Life). worked_to b m x u) (settle ∙ ap (λ (x : Figures). settled x a u) figures ∙ ap (λ (x : Life). settled (figures_at b m) x u) tick)
          ∙ ap (λ (x : Instant). worked_to b m (settled (figures_at b m) (ran l) x) x) move

      end_is : r ≡ ended_by (ran l) (figures_at b m) (wait_of b.lives slots) instant
      end_is =
          end ∙ ap (λ (x : Figures). ended_by a x w u) figures ∙ ap (λ (x : Life). ended_by x (figures_at b m) w u) tick ∙ ap (λ (x : Option Instant). ended_by (ran l) (figures_at b m) x u) wait
          ∙ ap (λ (x : Instant). ended_by (ran l) (figures_at b m) (wait_of b.lives slots) x) move

      pub name_on : goes_on r ≡ true → named (worked_to b m c u) ≡ Some m
      name_on g = ap named board_is ∙ (on (ap goes_on (sym end_is) ∙ g)).0

      pub work_on : goes_on r ≡ true → (k n : ℕ) → ran_from (worked_to b m l t) k (suc n) ≡ ran_from (worked_to b m c u) (k + 1) n
      work_on g k n = (on (ap goes_on (sym end_is) ∙ g)).1 k n ∙ ap (λ (x : Board). ran_from x (k + 1) n) (sym board_is)

      pub work_event : goes_on r ≡ false → (k n : ℕ) → ran_from (worked_to b m l t) k (suc n) ≡ ran_to (worked_to b m c u) (k + 1) r
      work_event g k n = event (ap goes_on (sym end_is) ∙ g) k n ∙ ends_same (sym board_is) refl (sym end_is)
