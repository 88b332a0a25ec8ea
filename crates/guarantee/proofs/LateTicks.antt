-- One step before which f, due by D, is not named: f stays as it is, and the account of the late ticks goes on with what the step tells.
use Prim.Native.Nat.{ℕ, zero, suc, ◌+◌, ◌≤◌, ◌<◌}
use mathlib.Core.Path.{◌≡◌, refl, sym, ◌∙◌}
use mathlib.Core.Logic.{◌⊎◌, inl, inr, ⊎_elim, ◌≢◌}
use mathlib.Core.Bool.{Bool, true, false}
use mathlib.Core.List.{List, [], ◌∷◌, ◌++◌}
use native.Mathlib.Omega.{arith}
use native.Mathlib.Decide.{dec_lt}
use borrow.Author.Tests.{eq-eqb, ne_eqb, lt-ltb, le-ltb}
use Rattle.terms.specs.Words.{when}
use Rattle.events.specs.Events.{Event, Ran, Replenished, ticks}
use Rattle.guarantee.specs.Table.{Table, Named}
use Rattle.guarantee.specs.Lawful.{Lawful}
use Rattle.guarantee.specs.Board.{View, State, Ready, Owes, deadline, Has}
use Rattle.guarantee.specs.Step.{Quiet, same, wakes, refills, Ticks, Others, Bits, none, Woken, Step, call, tick, pause}
use Rattle.guarantee.specs.Invariant.{Due, Inv}
use Rattle.guarantee.specs.History.{Start, never, from, told, quiet_start, call_start, woken_told, step_told}
use Rattle.guarantee.specs.HeldBack.{late_in}
use Rattle.guarantee.proofs.Sums.{by_slot}
use Rattle.guarantee.proofs.Views.{owes_ready}
use Rattle.guarantee.specs.Effect.{Stays, Grows, Passage}
use Rattle.guarantee.proofs.Locks.{locks_tick}
use Rattle.guarantee.proofs.Tick.{passage}
use Rattle.guarantee.proofs.Steps.{Sound, woken_passage, call_passage, half_tick}
use Rattle.guarantee.proofs.Account.{Account, recount, account_stays, account_more}

-- the ticks of slot i in what is told
module _ (i : ℕ) where
  pub ticks_both : (es fs : List Event) → ticks i (es ++ fs) ≡ ticks i es + ticks i fs
  unfolding ticks
  ticks_both [] fs = omega arith
  ticks_both (Ran j ∷ es) fs = omega (arith, ticks_both es fs)
  ticks_both (Replenished j s ∷ es) fs = ticks_both es fs

  -- a replenishment is none
  told_none : (j : ℕ) (x : Start) → ticks i (told j x) ≡ 0
  unfolding ticks
  told_none j never = refl
  told_none j (from x) = refl

  woken_none : (t : Table) (s s' : State) (each : (j : ℕ) → Quiet t s.now j (s.view j) (s'.view j)) (n : ℕ) → ticks i (woken_told t s s' each n) ≡ 0
  unfolding ticks woken_told
  woken_none t s s' each zero = refl
  woken_none t s s' each (suc n) =
      omega (arith, ticks_both (woken_told t s s' each n) (told n (quiet_start t (each n))), woken_none t s s' each n, told_none n (quiet_start t (each n)))

when_zero : (b : Bool) → when b 0 ≡ 0
when_zero true = refl
when_zero false = refl

-- f is ready and not named: a step leaves it as it is, if a call does
module _ (t : Table) where
  quiet_leaves : (now i : ℕ) (v v' : View) → Ready v → Quiet t now i v v' → v' ≡ v
  quiet_leaves now i v v' a same = refl
  quiet_leaves now i v v' a (wakes e) = absurd a
  quiet_leaves now i v v' a (refills e) = absurd a

  module _ (s : State) (f : ℕ) (unnamed : Named t s f → ⊥) where
    -- another one runs
    tick_leaves : (s₁ : State) (m : ℕ) → Named t s m → Others t m s s₁ → s₁.view f ≡ s.view f
    tick_leaves s₁ m n others = others f (λ q. unnamed (rw q n))

    pub step_leaves : (s' : State) → Ready (s.view f) → (s'.now ≡ s.now → s'.view f ≡ s.view f) → Step t s s' → s'.view f ≡ s.view f
    step_leaves s' a rests (call i c e change bits others) = rests e
    step_leaves s' a rests (tick m s₁ n e ran bits others w) =
        let k = tick_leaves s₁ m n others in
        quiet_leaves s₁.now f (s₁.view f) (s'.view f) (rw k a) (w.each f) ∙ k
    step_leaves s' a rests (pause s₁ idle e others bits w) = absurd (idle f a)

module _ (t : Table) (L : Lawful t) where
  -- a step from s before which f, due by D, is not named
  module _ (s s' : State) (I : Sound t s) (f D : ℕ) (a : Owes (s.view f)) (by : deadline (s.view f) ≤ D) (unnamed : Named t s f → ⊥)
      (c : ℕ → ℕ) (First : ℕ → ℕ → Type 0) (A : Account t s D c First) where
    abbrev More : Step t s s' → ℕ → ℕ
    More e i = c i + late_in t D i e

    abbrev FirstMore : Step t s s' → ℕ → ℕ → Type 0
    FirstMore e j r = First j r ⊎ (((i : ℕ) → c i ≡ 0) × (0 < late_in t D j e) × Has (s.view j) r)

    due_then : (s₁ : State) → s₁.view f ≡ s.view f → Due t s₁ D
    due_then s₁ e = record { slot = f; owes = rw e a; by = rw e by }

    -- where it tells no late tick
    told_no_late : (e : Step t s s') (i : ℕ) → ticks i (step_told t e) ≡ 0 → late_in t D i e ≡ 0
    told_no_late e i z = simp (z, when_zero)

    unmoved : (e : Step t s s') → ((i : ℕ) → late_in t D i e ≡ 0) → Account t s' D c First → Account t s' D (More e) (FirstMore e)
    unmoved e z = recount t (λ i. omega (arith, z i)) (λ j r x. inl x)

    -- a tick of m, by its halves
    module _ (m : ℕ) (s₁ : State) (n : Named t s m) (e : s₁.now ≡ suc s.now) (ran : Ticks t m (s.view m) (s₁.view m))
        (bits : Bits none s.locked s₁.locked) (others : Others t m s s₁) (w : Woken t s₁ s') where
      abbrev it : Step t s s'
      it = tick m s₁ n e ran bits others w

      half : Inv t s₁
      half = half_tick t L s s₁ I m n e ran bits others

      goes : Passage t s s₁ m (Grows m)
      goes = passage t L s s₁ I.inv I.settled m n e ran others (locks_tick t s s₁ I.inv.locks m others ran bits)

      -- the replenishments
      rest : (c : ℕ → ℕ) (First : ℕ → ℕ → Type 0) → Account t s₁ D c First → Account t s' D c First
      rest = account_stays t L s₁ s' 0 Stays half (woken_passage t L s₁ s' half w) D (due_then s₁ (tick_leaves t s f unnamed s₁ m n others))
          (λ j h₀ h k. omega arith)

      -- the late ticks it tells
      other_none : (i : ℕ) → m ≢ i → late_in t D i it ≡ 0
      unfolding step_told ticks
      other_none i ne = told_no_late it i (simp (ne_eqb m i ne) (omega (arith, woken_none i t s₁ s' w.each t.n)))

      in_time_none : deadline (s.view m) ≤ D → late_in t D m it ≡ 0
      in_time_none l = simp (le-ltb D (deadline (s.view m)) l)

      late_one : D < deadline (s.view m) → late_in t D m it ≡ 1
      unfolding step_told ticks
      late_one l = simp (lt-ltb D (deadline (s.view m)) l, eq-eqb m m refl) (omega (arith, woken_none m t s₁ s' w.each t.n))

      ticked : Dec (D < deadline (s.view m)) → Account t s' D (More it) (FirstMore it)
      ticked (yes l) = rest (More it) (FirstMore it)
          (account_more t L s s₁ m I.inv goes n ran D (due_then s refl) l c (More it) First (FirstMore it)
          (omega (arith, late_one l)) (λ i ne. omega (arith, other_none i (λ q. ne (sym q)))) (λ j r x. inl x)
          (λ z r h. inr (z, omega (arith, late_one l), h)) A)
      ticked (no k) = unmoved it (λ i. by_slot m i (λ q. rw q (in_time_none (omega arith))) (λ ne. other_none i (λ q. ne (sym q))))
          (rest c First (account_stays t L s s₁ m (Grows m) I.inv goes D (due_then s refl)
          (λ j h₀ h g. ⊎_elim (λ x. omega (arith, x.1)) (λ x. omega (arith, x.1)) g) c First A))

    pub step_account : (e : Step t s s') → Account t s' D (More e) (FirstMore e)
    unfolding step_told
    step_account (call i x e change bits others) =
        unmoved (call i x e change bits others) (λ j. told_no_late (call i x e change bits others) j (told_none j i (call_start t change)))
        (account_stays t L s s' i Stays I.inv (call_passage t L s s' I.inv i x e change bits others)
        D (due_then s refl) (λ j h₀ h k. omega arith) c First A)
    step_account (tick m s₁ n e ran bits others w) = ticked m s₁ n e ran bits others w (dec_lt D (deadline (s.view m)))
    step_account (pause s₁ idle e others bits w) = absurd (idle f (owes_ready (s.view f) a))
