-- After a tick every server whose instant has come is replenished from it, slot by slot, as the argument says.
use Prim.Native.Nat.{ℕ, zero, suc, ◌+◌, ◌<◌, ◌≤◌}
use mathlib.Core.Path.{◌≡◌, refl, sym, ap, subst₂, ◌∙◌}
use mathlib.Core.Bool.{false}
use mathlib.Core.List.{List, [], ◌++◌, append-nil}
use native.Mathlib.Omega.{arith}
use native.Mathlib.Decide.{dec_lt}
use borrow.Author.Tests.{lt-ltb, le-ltb}
use Rattle.quantity.specs.declared.Instant.{Instant}
use Rattle.quantity.specs.Quantity.{clock_end}
use Rattle.events.specs.Events.{Event}
use Rattle.timing.specs.declared.Figures.{Figures}
use Rattle.timing.specs.declared.Life.{Life}
use Rattle.timing.specs.declared.State.{State}
use Rattle.timing.specs.declared.State.TheVariants.{Idle, Ready, Suspended, Spent, Stopped}
use Rattle.timing.specs.declared.Lock.TheVariants.{Free, On}
use Rattle.timing.specs.Timing.{replenished, due, woken}
use Rattle.timing.specs.Timing.Laws.{woken_suspended, woken_waits, woken_spent, woken_spent_waits, woken_ready, woken_idle, woken_stopped}
use Rattle.admission.specs.Admission.{slot_of, period_of}
use Rattle.board.specs.Events.{renewal, renewals}
use Rattle.guarantee.specs.Board.{View}
use Rattle.guarantee.specs.Step.{Settled}
use Rattle.guarantee.specs.Step as steps
use Rattle.guarantee.proofs.Use.{Quieting, in_order}
use Rattle.promise.proofs.Lawful.{Kept}
use Rattle.promise.proofs.Look.{view_of, view_by}
use Rattle.promise.proofs.Bound.{T, renewed_view, renewed_date}

-- the slots' replenishments, one after the other
pub renewals_in_order : (lives : ℕ → Life) (now : Instant) (k : ℕ) → renewals lives now k ≡ in_order (λ j. renewal j (lives j) now) k
unfolding renewals in_order
renewals_in_order lives now zero = refl
renewals_in_order lives now (suc k) = ap (λ (es : List Event). es ++ renewal k (lives k) now) (renewals_in_order lives now k)

-- none beyond n
pub renewals_beyond : (lives : ℕ → Life) (now : Instant) (n k : ℕ) → ((j : ℕ) → n ≤ j → renewal j (lives j) now ≡ []) → renewals lives now (n + k) ≡ renewals lives now n
unfolding renewals
renewals_beyond lives now n zero h = let e : n + 0 ≡ n = omega arith in ap (renewals lives now) e
renewals_beyond lives now n (suc k) h =
    let e : n + suc k ≡ suc (n + k) = omega arith in
    ap (renewals lives now) e ∙ ap (λ (es : List Event). renewals lives now (n + k) ++ es) (h (n + k) (omega arith)) ∙ append-nil _
    ∙ renewals_beyond lives now n k h

module _ (n l : ℕ) (t : List Figures) (w : Kept n l t) where
  -- who waits is a server of the table, and its instant is not past
  abbrev pub Awaits : State → Life → ℕ → ℕ → Type 0
  Awaits (Suspended k) x now j = (j < n) × (now ≤ k.0)
  Awaits Spent x now j = (j < n) × (now ≤ x.deadline.0)
  Awaits Idle x now j = Unit {0}
  Awaits (Ready s k) x now j = Unit {0}
  Awaits Stopped x now j = Unit {0}

  module _ (j : ℕ) (x : Life) (now : Instant) where
    -- slot j with the life x when the clock comes to now
    pub record Wakes : Type 0 where
      pub quiet : Quieting (T n l t w) now.0 j (view_of x) (view_of (woken (slot_of t j) x now)) (renewal j x now)
      pub settled : Settled (T n l t w) now.0 (view_of (woken (slot_of t j) x now))
      pub date : (woken (slot_of t j) x now).deadline.0 ≤ now.0 + period_of t j

    -- it stays as it is, or is replenished
    stays : woken (slot_of t j) x now ≡ x → due x now ≡ false → Settled (T n l t w) now.0 (view_of x) → x.deadline.0 ≤ now.0 + period_of t j → Wakes
    unfolding renewal
    stays e d s h = record {
      quiet = rw (e, d) (steps.same, refl);
      settled = rw e s;
      date = rw e h;
    }

    renews : (k : Instant) (v : View) → j < n → k.0 ≡ now.0 → now.0 ≤ clock_end → woken (slot_of t j) x now ≡ replenished (slot_of t j) k → view_of x ≡ v
        → Quieting (T n l t w) now.0 j v (steps.replenished (T n l t w) j k.0 0) (renewal j x now) → Wakes
    renews k v h q m e view quiet =
        let after = ap view_of e ∙ renewed_view n l t w j h k (omega arith) in
        record {
          quiet = subst₂ (λ (a c : View). Quieting (T n l t w) now.0 j a c (renewal j x now)) (sym view) (sym after) quiet;
          settled = rw after tt;
          date = rw e (renewed_date n l t w j h k now.0 (omega arith) m);
        }

    pub wakes : (s : State) → x.state ≡ s → Awaits s x now.0 j → now.0 ≤ clock_end → x.deadline.0 ≤ now.0 + period_of t j → Wakes
    unfolding due renewal
    wakes Idle e a m h = stays (woken_idle _ x now e) (rw e refl) (rw (view_by x Idle e) tt) h
    wakes (Ready s Free) e a m h = stays (woken_ready _ x now s Free e) (rw e refl) (rw (view_by x (Ready s Free) e) tt) h
    wakes (Ready s (On r k)) e a m h = stays (woken_ready _ x now s (On r k) e) (rw e refl) (rw (view_by x (Ready s (On r k)) e) tt) h
    wakes Stopped e a m h = stays (woken_stopped _ x now e) (rw e refl) (rw (view_by x Stopped e) tt) h
    wakes (Suspended k) e (i, a) m h = go (dec_lt now.0 k.0)
      where
        go : Dec (now.0 < k.0) → Wakes
        go (yes p) = stays (woken_waits _ x now k e p) (rw (e, lt-ltb _ _ p) refl) (rw (view_by x (Suspended k) e) p) h
        go (no z) =
            renews k _ i (omega arith) m (woken_suspended _ x now k e (omega arith)) (view_by x (Suspended k) e)
            (steps.wakes {k = k.0} {q = x.left.0} {z = 0} {d = x.deadline.0} (omega arith), rw (e, le-ltb now.0 k.0 (omega arith)) refl)
    wakes Spent e (i, a) m h = go (dec_lt now.0 x.deadline.0)
      where
        go : Dec (now.0 < x.deadline.0) → Wakes
        go (yes p) = stays (woken_spent_waits _ x now e p) (rw (e, lt-ltb _ _ p) refl) (rw (view_by x Spent e) p) h
        go (no z) =
            renews x.deadline _ i (omega arith) m (woken_spent _ x now e (omega arith)) (view_by x Spent e)
            (steps.refills {q = x.left.0} {z = 0} {d = x.deadline.0} (omega arith), rw (e, le-ltb now.0 x.deadline.0 (omega arith)) refl)

    -- nobody waits beyond the table
    pub no_renewal : (s : State) → x.state ≡ s → Awaits s x now.0 j → n ≤ j → renewal j x now ≡ []
    unfolding due renewal
    no_renewal Idle e a h = rw e refl
    no_renewal (Ready s k) e a h = rw e refl
    no_renewal Stopped e a h = rw e refl
    no_renewal (Suspended k) e (i, a) h = absurd (omega arith)
    no_renewal Spent e (i, a) h = absurd (omega arith)
