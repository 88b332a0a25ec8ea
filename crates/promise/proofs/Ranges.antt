-- Boards that calls lead to keep document 01's ranges: a table's by its admission, a life's by the argument's invariants and by its events.
use Prim.Native.Nat.{ℕ, ◌+◌, ◌*◌, ◌/◌, ◌<◌, ◌≤◌}
use mathlib.Core.Path.{◌≡◌, refl, sym, ap, subst, ◌∙◌}
use mathlib.Core.Logic.{◌⊎◌, inl, inr, ⊎_elim}
use mathlib.Core.Bool.{Bool, true, false}
use mathlib.Core.List.{List}
use native.Mathlib.Omega.{arith}
use native.Mathlib.Nat.{zero-mul, zero-div}
use lib.ListN.{get_or}
use Rattle.terms.proofs.Tests.{not_both}
use Rattle.quantity.specs.declared.Instant.{Instant}
use Rattle.quantity.specs.declared.Length.{Length}
use Rattle.quantity.specs.Quantity.{ticks, longest_length}
use Rattle.quantity.proofs.Laws.{later_exact, longer_exact}
use Rattle.events.specs.Events.{Event}
use Rattle.timing.specs.declared.Figures.{Figures}
use Rattle.timing.specs.declared.Life.{Life}
use Rattle.timing.specs.declared.State.{State}
use Rattle.timing.specs.declared.State.TheVariants.{Idle, Ready, Suspended, Spent, Stopped}
use Rattle.timing.specs.declared.Lock.TheVariants.{On}
use Rattle.timing.specs.Timing.{begun, Ranged, hold, tr}
use Rattle.timing.specs.Timing.Laws.{tr_exact, tr_A2}
use Rattle.admission.specs.Admission.{slots, slot_of, in_table, period_of, budget_of}
use Rattle.board.specs.declared.Board.{Board}
use Rattle.board.specs.Board.{figures_at, life_at}
use Rattle.guarantee.specs.Board.{budget, deadline}
use Rattle.guarantee.proofs.Facts.{I3_suspended, I3_spent, I4}
use Rattle.guarantee.proofs.Views.{in_table_lem}
use Rattle.guarantee.proofs.Lives.{lives}
use Rattle.guarantee.proofs.Ranges.{budget_within, deadline_from}
use Rattle.promise.specs.Ranges.{InRange, Exact, KeepsRanges}
use Rattle.promise.proofs.Lawful.{Kept, lawful_table}
use Rattle.promise.proofs.Look.{look, view_by, ready_in, budget_is, deadline_is}
use Rattle.promise.proofs.Naming.{server_of}
use Rattle.promise.proofs.Bound.{T, Bound, sound_bound, figures_are}
use Rattle.promise.proofs.Histories.{Commissioning, Stage, unstarted, running, stage, begun_at}

abbrev is_idle : State → Bool
is_idle Idle = true
is_idle (Ready s k) = false
is_idle (Suspended t) = false
is_idle Spent = false
is_idle Stopped = false

module _ (n l : ℕ) (t : List Figures) (w : Kept n l t) (b : Board) (es : List Event) (B : Bound n l t w b es) where
  server : (i : ℕ) → in_table b.table i ≡ true → i < n
  server i e = server_of n l t w i (sym (ap (λ (x : List Figures). in_table x i) B.table) ∙ e)

  ranged : (i : ℕ) → in_table b.table i ≡ true → Ranged (figures_at b i)
  ranged i e = subst Ranged (sym (figures_are n l t w b es B i)) (w.ranged i (server i e))

  abbrev x : ℕ → Life
  x i = life_at b i

  -- by its events
  left_is : (i : ℕ) → budget ((look b).view i) ≡ (x i).left.0
  left_is i = budget_is (x i).left.0 (x i).deadline.0 (x i).state

  due_is : (i : ℕ) → deadline ((look b).view i) ≡ (x i).deadline.0
  due_is i = deadline_is (x i).left.0 (x i).deadline.0 (x i).state

  left_within : (i : ℕ) → i < n → (x i).left.0 ≤ budget_of t i
  left_within i h =
      omega (arith, left_is i, budget_within i _ _ _ _ (lives (T n l t w) (lawful_table n l t w) i (h, refl) B.reached) (omega arith))

  due_from : (i : ℕ) → i < n → ((x i).left.0 ≡ 0) ⊎ (period_of t i ≤ (x i).deadline.0)
  due_from i h =
      ⊎_elim (λ e. inl (sym (left_is i) ∙ e)) (λ (k : period_of t i ≤ deadline ((look b).view i)). inr (omega (arith, k, due_is i)))
      (deadline_from i _ _ _ _ (lives (T n l t w) (lawful_table n l t w) i (h, refl) B.reached) (inl refl))

  held_within : (i : ℕ) (s : Bool) (r : ℕ) (k : Length) → (x i).state ≡ Ready s (On r k) → k.0 ≤ (hold (slot_of t i) r).0
  held_within i s r k e =
      (I4 (T n l t w) (lawful_table n l t w) (sound_bound n l t w b es B) i (x i).left.0 0 (x i).deadline.0 s r k.0 (view_by (x i) (Ready s (On r k)) e)).2

  bound_range : InRange b
  bound_range = record {
    frame_low = omega (arith, B.frame, w.frame_pos);
    frame_high = omega (arith, B.frame, w.frame_high);
    clock_high = B.clock;
    locked_high = B.locked;
    closed_high = B.closed;
    slot = λ i e. omega (arith, server i e, w.standing.few);
    figures = ranged;
    divides = λ i e. rw (B.table, B.frame) (w.divides i (server i e));
    left_high = λ i e. rw B.table (left_within i (server i e));
    deadline_high = λ i. rw B.table (B.dates i);
    until_later = λ i k e. I3_suspended (T n l t w) (lawful_table n l t w) (sound_bound n l t w b es B) i k.0 (x i).left.0 0 (x i).deadline.0 (view_by (x i) (Suspended k) e);
    spent_later = λ i e. I3_spent (T n l t w) (lawful_table n l t w) (sound_bound n l t w b es B) i (x i).left.0 0 (x i).deadline.0 (view_by (x i) Spent e);
    held_high = λ i s r k e. rw B.table (held_within i s r k e);
  }

  -- tr is the deadline less the whole of q * P / Q
  instant_exact : (i : ℕ) → i < n → (tr (slot_of t i) (x i)).0 + (x i).left.0 * period_of t i / budget_of t i ≡ (x i).deadline.0
  instant_exact i h =
      ⊎_elim (λ e. none_left e) (λ k. tr_exact (slot_of t i) (x i) (w.ranged i h).budget_low (left_within i h) k) (due_from i h)
    where
      none_left : (x i).left.0 ≡ 0 → (tr (slot_of t i) (x i)).0 + (x i).left.0 * period_of t i / budget_of t i ≡ (x i).deadline.0
      none_left e = rw (tr_A2 (slot_of t i) (x i) e, e, zero-mul, zero-div) (omega arith)

  bound_exact : Exact b
  bound_exact = record {
    tick = later_exact b.clock (ticks 1) (omega (arith, B.clock));
    deadline = λ i e s h. later_exact s (figures_at b i).period (omega (arith, h, (ranged i e).period_high));
    held = λ i s r k e. longer_exact k (ticks 1) (small i s r k e);
    instant = λ i e. rw B.table (instant_exact i (server i e));
  }
    where
      -- a hold is at most a budget, and this at most a period
      small : (i : ℕ) (s : Bool) (r : ℕ) (k : Length) → (x i).state ≡ Ready s (On r k) → k.0 + 1 ≤ longest_length
      small i s r k e =
          let here = in_table_lem (T n l t w) b.clock.0 i ((look b).view i) ((sound_bound n l t w b es B).inv.local i)
          (ready_in _ _ (x i).state (rw e refl)) in
          let f = w.ranged i here.0 in
          omega (arith, held_within i s r k e, f.holds_high r, f.budget_high, f.period_high)

-- before start
module _ (b : Board) (c : Commissioning b) where
  begun_life : (i : ℕ) → life_at b i ≡ begun
  begun_life i = ap (λ (x : List Life). get_or x i begun) c.lives ∙ begun_at slots i

  -- nobody is ready, suspended or spent
  not_idle : (i : ℕ) (s : State) → is_idle s ≡ false → (life_at b i).state ≡ s → ⊥
  not_idle i s f e = not_both (ap (λ (x : State). is_idle x) (sym e ∙ ap (λ (l : Life). l.state) (begun_life i))) f

  unstarted_range : InRange b
  unstarted_range = record {
    frame_low = omega (arith, c.kept.frame_pos);
    frame_high = c.kept.frame_high;
    clock_high = rw c.clock (omega arith);
    locked_high = rw c.locked (omega arith);
    closed_high = rw c.closed (omega arith);
    slot = λ i e. omega (arith, server_of c.n _ _ c.kept i e, c.kept.standing.few);
    figures = λ i e. c.kept.ranged i (server_of c.n _ _ c.kept i e);
    divides = λ i e. c.kept.divides i (server_of c.n _ _ c.kept i e);
    left_high = λ i e. rw (begun_life i) (omega arith);
    deadline_high = λ i. rw (begun_life i) (omega arith);
    until_later = λ i k e. absurd (not_idle i (Suspended k) refl e);
    spent_later = λ i e. absurd (not_idle i Spent refl e);
    held_high = λ i s r k e. absurd (not_idle i (Ready s (On r k)) refl e);
  }

  unstarted_exact : Exact b
  unstarted_exact = record {
    tick = later_exact b.clock (ticks 1) (omega (arith, ap (λ (i : Instant). i.0) c.clock));
    deadline = λ i e s h. later_exact s (figures_at b i).period (omega (arith, h, (unstarted_range.figures i e).period_high));
    held = λ i s r k e. absurd (not_idle i (Ready s (On r k)) refl e);
    instant = λ i e. rw (begun_life i, tr_A2 (figures_at b i) begun refl, zero-mul, zero-div) refl;
  }

pub keeps_ranges : KeepsRanges
keeps_ranges b es h = go (stage h)
  where
    go : Stage b es → InRange b × Exact b
    go (unstarted c z) = (unstarted_range b c, unstarted_exact b c)
    go (running n l t w B) = (bound_range n l t w b es B, bound_exact n l t w b es B)
