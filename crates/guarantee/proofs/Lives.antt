-- Promise 3, statement 2: on every board that is reached, each server has run within its share.
use Prim.Native.Nat.{ℕ, zero, suc, ◌+◌, ◌*◌, ◌≤◌, ◌<◌}
use mathlib.Core.Path.{◌≡◌, refl, sym, subst}
use mathlib.Core.Logic.{◌≢◌, ⊎_elim}
use mathlib.Core.List.{List, ◌∷◌, ◌++◌}
use native.Mathlib.Omega.{arith}
use native.Mathlib.Nat.{le_refl}
use Rattle.events.specs.Events.{Event, Ran, Replenished, ticks, last_start}
use Rattle.guarantee.specs.Life.{Life, ends, ran, made, other}
use Rattle.guarantee.specs.Table.{Table, Present}
use Rattle.guarantee.specs.Lawful.{Lawful}
use Rattle.guarantee.specs.Board.{View, State, deadline, budget, part, Owes}
use Rattle.guarantee.specs.Step.{Locking, Quiet, same, wakes, refills, Change, quiet, arrives_later, arrives, done, done_spent, granted, lock_later}
use Rattle.guarantee.specs.Step.{lock_renewed, unlocks, unlocks_spent, unlocks_renewed, overheld, Ticks, works, ends as last, holds, Others, Step, call}
use Rattle.guarantee.specs.Step.{tick, pause}
use Rattle.guarantee.specs.Invariant.{Local}
use Rattle.guarantee.specs.Reached.{Reached, start, next}
use Rattle.guarantee.specs.History.{Start, never, from, told, quiet_start, call_start, woken_told, step_told, history}
use Rattle.terms.proofs.Over.{last_or_below}
use Rattle.guarantee.proofs.Sums.{by_slot}
use Rattle.guarantee.proofs.TickEffect.{runs_owes}
use Rattle.guarantee.proofs.Share as shares
use Rattle.guarantee.proofs.Steps.{Sound, half_tick, half_pause}
use Rattle.guarantee.proofs.Guarantee.{sound}

zero_le : (n : ℕ) → 0 ≤ n
zero_le n = omega arith

module _ (t : Table) (L : Lawful t) (i : ℕ) (b : Present t i) where
  abbrev pub LifeOf : ℕ → ℕ → ℕ → List Event → ℕ → ℕ → ℕ → Type 0
  LifeOf = Life i (t.P i) (t.Q i) (t.tr i) (t.rest i)

  abbrev pub Lives : View → List Event → View → Type 0
  Lives v es v' = LifeOf (budget v) (part v) (deadline v) es (budget v') (part v') (deadline v')

  -- two lives that meet are one
  pub join : {q z d q₁ z₁ d₁ q' z' d' : ℕ} {es fs : List Event} → LifeOf q z d es q₁ z₁ d₁ → LifeOf q₁ z₁ d₁ fs q' z' d' → LifeOf q z d (es ++ fs) q' z' d'
  join = shares.join i (t.P i) (t.Q i) (t.slop i) (t.tr i) (t.rest i) (L.laws.A0 b) (L.laws.A5 b)

  -- A2: an empty budget is replenished from the deadline at the earliest
  at_deadline : (q z d : ℕ) → q ≡ 0 → z ≤ t.slop i → (t.tr i q z d ≤ d) × (z ≤ t.rest i q z d)
  at_deadline q z d e h = let (a, c) = L.laws.A2 b z d h in (rw (e, a) (le_refl d), rw (e, c) (le_refl z))

  -- what is told of another slot
  told_other : (v : View) (j : ℕ) (x : Start) → j ≢ i → Lives v (told j x) v
  told_other v j never ne = ends
  told_other v j (from x) ne = other ne ends

  -- what is told when an instant comes, and by a call
  quiet_lives : (now : ℕ) (v v' : View) → Local t now i v → (k : Quiet t now i v v') → Lives v (told i (quiet_start t k)) v'
  quiet_lives now v v' h same = ends
  quiet_lives now v v' h (wakes {k} {q} {z} {d} e) = made h.2 (le_refl (t.rest i q z d)) ends
  quiet_lives now v v' h (refills {q} {z} {d} e) = let (x, y) = at_deadline q z d h.1 h.3 in made x y ends

  call_lives : (s : State) (v v' : View) (c : Locking) → Local t s.now i v → (k : Change t s i v v' c) → Lives v (told i (call_start t k)) v'
  call_lives s v v' c h (quiet q) = quiet_lives s.now v v' h q
  call_lives s v v' c h (arrives_later b l) = ends
  call_lives s v v' c h (arrives {q} {z} {d} b l) = made l (zero_le (t.rest i q z d)) ends
  call_lives s v v' c h done = ends
  call_lives s v v' c h done_spent = ends
  call_lives s v v' c h (granted n e p l) = ends
  call_lives s v v' c h (lock_later l) = ends
  call_lives s v v' c h (lock_renewed {q} {z} {d} n p l) = made (le_refl (t.tr i q z d)) (le_refl (t.rest i q z d)) ends
  call_lives s v v' c h (unlocks l) = ends
  call_lives s v v' c h (unlocks_spent l) = ends
  call_lives s v v' c h (unlocks_renewed {z} {d} l) = let (x, y) = at_deadline 0 z d refl h.4 in made x y ends
  call_lives s v v' c h overheld = ends

  -- a tick takes one from the budget and leaves the deadline
  ran_lives_lem : (v v' : View) → Owes v → Ticks t i v v' → {q z d : ℕ} {es : List Event} → LifeOf (budget v') (part v') (deadline v') es q z d
      → LifeOf (budget v) (part v) (deadline v) (Ran i ∷ es) q z d
  ran_lives_lem v v' o (works {q} {q'} e l) x = let k : q ≡ suc q' = omega arith in rw k (ran x)
  ran_lives_lem v v' o (last {q} {q'} e l) x = let k : q ≡ suc q' = omega arith in rw k (ran x)
  ran_lives_lem v v' o (holds {q} {q'} e l) x = let k : q ≡ suc q' = omega arith in rw k (ran x)

  module _ (s s' : State) (each : (j : ℕ) → Quiet t s.now j (s.view j) (s'.view j)) (h : Local t s.now i (s.view i)) where
    -- nothing of slot i is told below n
    woken_below : (v : View) (n : ℕ) → n ≤ i → Lives v (woken_told t s s' each n) v
    unfolding woken_told
    woken_below v zero l = ends
    woken_below v (suc n) l = join (woken_below v n (omega arith)) (told_other v n (quiet_start t (each n)) (λ e. omega arith))

    -- what is told after a tick
    woken_lives : (n : ℕ) → i < n → Lives (s.view i) (woken_told t s s' each n) (s'.view i)
    unfolding woken_told
    woken_lives zero l = absurd (omega arith)
    woken_lives (suc n) l =
        ⊎_elim (λ (e : i ≡ n). subst (λ (k : ℕ). Lives (s.view i) (woken_told t s s' each k ++ told k (quiet_start t (each k))) (s'.view i)) e
        (join (woken_below (s.view i) i (le_refl i)) (quiet_lives s.now (s.view i) (s'.view i) h (each i))))
        (λ (k : i < n). join (woken_lives n k) (told_other (s'.view i) n (quiet_start t (each n)) (λ e. omega arith)))
        (last_or_below l)

  -- a call of slot k, and a tick of it
  called : (s s' : State) (k : ℕ) (c : Locking) (change : Change t s k (s.view k) (s'.view k) c) → Others t k s s' → Sound t s
      → Lives (s.view i) (told k (call_start t change)) (s'.view i)
  called s s' k c change others I = by_slot i k
      (λ e. subst (λ (k : ℕ). (change : Change t s k (s.view k) (s'.view k) c) → Lives (s.view i) (told k (call_start t change)) (s'.view i)) (sym e)
      (call_lives s (s.view i) (s'.view i) c (I.inv.local i)) change)
      (λ ne. rw (others i (λ e. ne (sym e))) (told_other (s.view i) k (call_start t change) ne))

  ticked : (s s₁ : State) (m : ℕ) → Ticks t m (s.view m) (s₁.view m) → Others t m s s₁ → Sound t s → {q z d : ℕ} {es : List Event}
      → LifeOf (budget (s₁.view i)) (part (s₁.view i)) (deadline (s₁.view i)) es q z d
      → LifeOf (budget (s.view i)) (part (s.view i)) (deadline (s.view i)) (Ran m ∷ es) q z d
  ticked s s₁ m run others I {q} {z} {d} {es} x = by_slot i m
      (λ e. subst (λ (k : ℕ). Ticks t k (s.view k) (s₁.view k)
      → LifeOf (budget (s.view i)) (part (s.view i)) (deadline (s.view i)) (Ran k ∷ es) q z d) (sym e)
      (λ r. ran_lives_lem (s.view i) (s₁.view i) (runs_owes t s.now i (s.view i) (s₁.view i) (I.inv.local i) r) r x) run)
      (λ ne. other ne (rw (others i (λ e. ne (sym e))) at x))

  -- what a step tells
  pub step_lives : (s s' : State) → Sound t s → (e : Step t s s') → Lives (s.view i) (step_told t e) (s'.view i)
  unfolding step_told
  step_lives s s' I (call k c e change bits others) = called s s' k c change others I
  step_lives s s' I (tick m s₁ n e run bits others w) =
      ticked s s₁ m run others I (woken_lives s₁ s' w.each ((half_tick t L s s₁ I m n e run bits others).local i) t.n b.0)
  step_lives s s' I (pause s₁ idle e others bits w) =
      subst (λ (v : View). Lives v (woken_told t s₁ s' w.each t.n) (s'.view i)) (others i)
      (woken_lives s₁ s' w.each ((half_pause t L s s₁ I idle e others bits).local i) t.n b.0)

  -- what is told of slot i up to a board is a life of it, from budget 0 and deadline 0 to what the board keeps
  pub lives : {s : State} (r : Reached t s) → LifeOf 0 0 0 (history t r) (budget (s.view i)) (part (s.view i)) (deadline (s.view i))
  unfolding history
  lives (start h k) = rw (h i) ends
  lives (next {s} {s'} r e) = join (lives r) (step_lives s s' (sound t L r) e)

  -- the share over any list of events that is a life of slot i from its beginning
  pub shared : (es : List Event) {q z d : ℕ} → LifeOf 0 0 0 es q z d → (before : List Event) (S : ℕ) (after rest : List Event)
      → es ≡ (before ++ Replenished i S ∷ after) ++ rest
      → ticks i after * t.P i + t.Q i * S ≤ t.Q i * (last_start i S after + t.P i) + t.slop i
  shared es l before S after rest e =
      let (q, z, d, x, y) = shares.cut i (t.P i) (t.Q i) (t.slop i) (t.tr i) (t.rest i) (L.laws.A0 b) (L.laws.A5 b)
      (before ++ Replenished i S ∷ after) (rw e at l) in
      shares.share i (t.P i) (t.Q i) (t.slop i) (t.tr i) (t.rest i) (L.laws.A0 b) (L.laws.A5 b) (zero_le (t.slop i)) before S after x

  -- however the events of a run, or a part of them from its beginning, are cut as before, Replenished i S, after
  pub share : {s : State} (r : Reached t s) (before : List Event) (S : ℕ) (after rest : List Event)
      → history t r ≡ (before ++ Replenished i S ∷ after) ++ rest
      → ticks i after * t.P i + t.Q i * S ≤ t.Q i * (last_start i S after + t.P i) + t.slop i
  share r = shared (history t r) (lives r)
