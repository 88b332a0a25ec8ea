-- A lock on a started board is a step of the argument: granted with its holds at hand, else suspended until tr, else renewed from tr;
-- and nobody finds it taken, since the named server uses nothing that another holds.
use Prim.Native.Nat.{ℕ, ◌<◌, ◌≤◌}
use mathlib.Core.Path.{◌≡◌, refl, sym, ap, subst, ◌∙◌}
use mathlib.Core.Logic.{◌⊎◌, inl, inr, ◌≢◌}
use mathlib.Core.Bool.{Bool, true, false, not}
use mathlib.Core.List.{List, [], ◌∷◌, ◌++◌}
use native.Mathlib.Omega.{arith}
use native.Mathlib.Decide.{dec_lt, ℕ_discrete}
use lib.Dec.{eqb}
use borrow.Author.Tests.{eqb-true, eqb-false, not-false}
use Rattle.terms.specs.Words.{pick}
use Rattle.terms.proofs.Tests.{not_both, by_test}
use Rattle.resources.specs.Resources.{has, with}
use Rattle.resources.proofs.Laws.{with_same, with_other, with_range}
use Rattle.events.specs.Events.{Event, Replenished}
use Rattle.timing.specs.declared.Figures.{Figures}
use Rattle.timing.specs.declared.Life.{Life}
use Rattle.timing.specs.declared.Ruled.{Ruled}
use Rattle.timing.specs.declared.Lock.TheVariants.{Free, On}
use Rattle.timing.specs.declared.State.{State}
use Rattle.timing.specs.declared.State.TheVariants.{Idle, Ready, Suspended, Spent, Stopped}
use Rattle.timing.specs.Timing.{hold, largest_hold, in_state, tr, replenished, asked}
use Rattle.timing.specs.Timing.Laws.{largest_hold_upper, largest_hold_one, asked_granted, asked_later, asked_renewed}
use Rattle.quantity.specs.Quantity.{ticks}
use Rattle.admission.specs.Admission.{slots, slot_of}
use Rattle.refusals.specs.Refusals as refusals
use Rattle.refusals.specs.declared.Refusal.{Refusal}
use Rattle.refusals.specs.declared.Refusal.TheVariants.{WrongPhase, NotInTable, NotNamed, NotUsed, HoldsLock, ResourceClosed, ServerStopped}
use Rattle.board.specs.declared.Board.{Board}
use Rattle.board.specs.declared.Outcome.{Outcome}
use Rattle.std.specs.Prelude.{Option, Some, None}
use Rattle.board.specs.Board.{figures_at, life_at, number_of, named, is_slot}
use Rattle.board.specs.Calls.{refuse, locked_by, locking, lock_free, lock_with, lock_ready, lock_in, locks}
use Rattle.board.proofs.Checked.{by_standing}
use Rattle.guarantee.specs.Board.{Has}
use Rattle.guarantee.specs.Step.{none, takes}
use Rattle.guarantee.specs.Step as steps
use Rattle.guarantee.proofs.Views.{has_holds}
use Rattle.guarantee.proofs.Untaken.{untaken}
use Rattle.promise.proofs.Lawful.{Kept, lawful_table}
use Rattle.promise.proofs.Look.{look, view_by}
use Rattle.promise.proofs.Naming.{resource_of, names}
use Rattle.promise.proofs.Bound.{Bound, sound_bound, still, served, figures_are, tr_same, renewed_view, renewed_date, moved, T}

-- who is named
pub is_slot_lem : (c : Option ℕ) (i : ℕ) → is_slot c i ≡ true → c ≡ Some i
is_slot_lem None i e = absurd (not_both e refl)
is_slot_lem (Some j) i e = ap Some (eqb-true j i e)

module _ (n l : ℕ) (t : List Figures) (w : Kept n l t) (b : Board) (es : List Event) (B : Bound n l t w b es) (i r : ℕ) where
  -- what a lock's outcome says, by its number; and it is not 14
  abbrev Locks : Outcome → Type 0
  Locks o =
      Bound n l t w o.board (es ++ pick (eqb (number_of o.answer) 21) (Replenished i (tr (figures_at b i) (life_at b i)).0 ∷ []) [])
      × (eqb (number_of o.answer) 14 ≡ false)

  refused : (why : Refusal) → eqb (refusals.number_of why) 21 ≡ false → eqb (refusals.number_of why) 14 ≡ false → Locks (refuse b why)
  refused why e f = (rw e (still n l t w b es B), f)

  -- what the named server uses and does not hold is not locked
  not_locked : (s : Bool) → (life_at b i).state ≡ Ready s Free → named b ≡ Some i → 0 < (hold (slot_of t i) r).0 → has b.locked r ≡ true → ⊥
  not_locked s e name u k =
      let (j, h) = (sound_bound n l t w b es B).inv.locks.holder r k in
      go j h (ℕ_discrete j i)
    where
      go : (j : ℕ) → Has ((look b).view j) r → Dec (j ≡ i) → ⊥
      go j h (yes q) = subst (λ v. Has v r) (ap (λ (m : ℕ). (look b).view m) q ∙ view_by (life_at b i) (Ready s Free) e) h
      go j h (no ne) =
          let (x, o) = has_holds ((look b).view j) r h in
          untaken (T n l t w) (lawful_table n l t w) (sound_bound n l t w b es B) i j r x o ne (names n l t w b B.table B.long i name) u

  module _ (slot : i < slots) (server : i < n) (s : Bool) (e : (life_at b i).state ≡ Ready s Free) (name : named b ≡ Some i) (u : 0 < (hold (slot_of t i) r).0)
      (unlocked : has b.locked r ≡ false) where
    abbrev f : Figures
    f = slot_of t i

    abbrev x : Life
    x = life_at b i

    abbrev ruled : Ruled → Type 0
    ruled o = Locks (locking b i r o)

    lock_granted : (largest_hold f).0 ≤ x.left.0 → ruled (asked f x r b.clock)
    unfolding locking locked_by
    lock_granted h =
        subst ruled (sym (asked_granted f x b.clock r h)) (
          moved n l t w b es B i slot (in_state x (Ready true (On r (ticks 0)))) (with b.locked r) b.closed (takes r) _ _ [] (view_by x (Ready s Free) e) refl
              (steps.granted {q = x.left.0} {z = 0} {d = x.deadline.0} {r = r} (names n l t w b B.table B.long i name) unlocked u (omega (arith, h, largest_hold_upper f r)), refl)
              (with_same b.locked r (resource_of f r u), λ j ne. with_other b.locked r j ne) (with_range b.locked r B.locked) B.closed (B.dates i),
          refl,
        )

    lock_later : x.left.0 < (largest_hold f).0 → b.clock.0 < (tr f x).0 → ruled (asked f x r b.clock)
    unfolding locking locked_by
    lock_later h k =
        subst ruled (sym (asked_later f x b.clock r h k)) (
          moved n l t w b es B i slot (in_state x (Suspended (tr f x))) b.locked b.closed none _ _ [] (view_by x (Ready s Free) e) refl
              (rw (tr_same n l t w i server x) (steps.lock_later {q = x.left.0} {z = 0} {d = x.deadline.0} (omega (arith, k, tr_same n l t w i server x))), refl)
              (λ j. refl) B.locked B.closed (B.dates i),
          refl,
        )

    -- some hold is above what is left
    short_of : x.left.0 < (largest_hold f).0 → (j : ℕ) × (x.left.0 < (hold f j).0)
    short_of h = go (largest_hold_one f)
      where
        go : ((j : ℕ) × (j < 8) × ((largest_hold f).0 ≡ (hold f j).0)) ⊎ ((largest_hold f).0 ≡ 0) → (j : ℕ) × (x.left.0 < (hold f j).0)
        go (inl (j, m, q)) = (j, omega arith)
        go (inr q) = absurd (omega arith)

    lock_renewed : x.left.0 < (largest_hold f).0 → (tr f x).0 ≤ b.clock.0 → ruled (asked f x r b.clock)
    unfolding locking locked_by
    lock_renewed h k =
        let (j, short) = short_of h in
        let same = tr_same n l t w i server x in
        subst ruled (sym (asked_renewed f x b.clock r h k)) (
          moved n l t w b es B i slot (replenished f (tr f x)) b.locked b.closed none _ _ _ (view_by x (Ready s Free) e)
              (renewed_view n l t w i server (tr f x) (omega (arith, k, B.clock))) (
                rw same (steps.lock_renewed {q = x.left.0} {z = 0} {d = x.deadline.0} {r = j} (names n l t w b B.table B.long i name) short (omega (arith, k, same))),
                ap (λ (m : ℕ). Replenished i m ∷ []) (sym same ∙ ap (λ (g : Figures). (tr g x).0) (sym (figures_are n l t w b es B i))),
              ) (λ j. refl) B.locked B.closed (renewed_date n l t w i server (tr f x) b.clock.0 k B.clock),
          refl,
        )

    pub lock_ruled : ruled (asked f x r b.clock)
    lock_ruled = go (dec_lt x.left.0 (largest_hold f).0) (dec_lt b.clock.0 (tr f x).0)
      where
        go : Dec (x.left.0 < (largest_hold f).0) → Dec (b.clock.0 < (tr f x).0) → ruled (asked f x r b.clock)
        go (no z) c = lock_granted (omega arith)
        go (yes h) (yes k) = lock_later h k
        go (yes h) (no z) = lock_renewed h (omega arith)

  module _ (slot : i < slots) (server : i < n) where
    lock_free_lem : (s : Bool) → (life_at b i).state ≡ Ready s Free → named b ≡ Some i → Locks (lock_free b i r)
    unfolding lock_free
    lock_free_lem s e name =
        by_test Locks (eqb (hold (figures_at b i) r).0 0) (λ q. refused NotUsed refl refl) (λ q.
        by_test Locks (has b.closed r) (λ c. refused ResourceClosed refl refl) (λ c.
        by_test Locks (has b.locked r) (λ k. absurd (not_locked s e name (much q) k)) (λ k.
        subst (λ (g : Figures). Locks (locking b i r (asked g (life_at b i) r b.clock))) (sym (figures_are n l t w b es B i))
        (lock_ruled slot server s e name (much q) k))))
      where
        much : eqb (hold (figures_at b i) r).0 0 ≡ false → 0 < (hold (slot_of t i) r).0
        much q =
            let ne = eqb-false (hold (figures_at b i) r).0 0 q in
            let same = ap (λ (g : Figures). (hold g r).0) (figures_are n l t w b es B i) in
            pos (hold (slot_of t i) r).0 (λ z. ne (same ∙ z))
          where
            pos : (m : ℕ) → m ≢ 0 → 0 < m
            pos m ne = omega arith

    lock_in_lem : (s : State) → (life_at b i).state ≡ s → Locks (lock_in s b i r)
    unfolding lock_in lock_ready lock_with
    lock_in_lem (Ready s (On q k)) e = by_test Locks (not (is_slot (named b) i)) (λ z. refused NotNamed refl refl) (λ z. refused HoldsLock refl refl)
    lock_in_lem (Ready s Free) e =
        by_test Locks (not (is_slot (named b) i)) (λ z. refused NotNamed refl refl) (λ z. lock_free_lem s e (is_slot_lem (named b) i (not-false _ z)))
    lock_in_lem Idle e = refused NotNamed refl refl
    lock_in_lem (Suspended t) e = refused NotNamed refl refl
    lock_in_lem Spent e = refused NotNamed refl refl
    lock_in_lem Stopped e = refused NotNamed refl refl

  lock_walk : Locks (locks b i r)
  unfolding locks
  lock_walk = by_standing Locks b i _ (refused WrongPhase refl refl) (refused NotInTable refl refl) (refused ServerStopped refl refl)
      (λ slot here. lock_in_lem slot (served n l t w b es B i here) (life_at b i).state refl)

  pub lock_bound : Bound n l t w (locks b i r).board
      (es ++ pick (eqb (number_of (locks b i r).answer) 21) (Replenished i (tr (figures_at b i) (life_at b i)).0 ∷ []) [])
  lock_bound = lock_walk.0

  pub lock_untaken : eqb (number_of (locks b i r).answer) 14 ≡ false
  lock_untaken = lock_walk.1
