-- Who delays those due by D, and the ticks it has run late: no step makes a new blocker while D is due, and a late tick is one of the only blocker.
use Prim.Native.Nat.{ℕ, suc, ◌≤◌, ◌<◌}
use mathlib.Core.Path.{◌≡◌, refl, sym, subst, ◌∙◌}
use mathlib.Core.Logic.{◌⊎◌, inl, inr, ⊎_elim, ◌≢◌}
use mathlib.Core.Bool.{true, false}
use native.Mathlib.Omega.{arith}
use Rattle.guarantee.specs.Table.{Table, Named}
use Rattle.guarantee.specs.Lawful.{Lawful}
use Rattle.guarantee.specs.Board.{free, on, View, idle, ready, suspended, spent, stopped, State, deadline, Holds, Has}
use Rattle.guarantee.specs.Step.{Ticks, works, ends, holds}
use Rattle.guarantee.specs.Demand.{Gate, claim_of}
use Rattle.guarantee.specs.Invariant.{Local, Due, Alone, Inv}
use Rattle.guarantee.proofs.Sums.{by_slot}
use Rattle.guarantee.proofs.Views.{holds_has}
use Rattle.guarantee.specs.Effect.{Grows, Passage}
use Rattle.guarantee.proofs.Keeps.{gate_before}

-- a slot holds something or nothing, and not two things
holding? : (v : View) → ((r : ℕ) × (h : ℕ) × Holds v r h) ⊎ ((r h : ℕ) → Holds v r h → ⊥)
holding? (idle q z d) = inr (λ r h a. a)
holding? (ready q z d b free) = inr (λ r h a. a)
holding? (ready q z d b (on r h)) = inl (r, h, (refl, refl))
holding? (suspended k q z d) = inr (λ r h a. a)
holding? (spent q z d) = inr (λ r h a. a)
holding? (stopped q z d) = inr (λ r h a. a)

holds_one : (v : View) (r h r' h' : ℕ) → Holds v r h → Holds v r' h' → (r ≡ r') × (h ≡ h')
holds_one (ready q z d b (on x y)) r h r' h' a c = (sym a.0 ∙ c.0, sym a.1 ∙ c.1)
holds_one _ r h r' h' a c = elim a [ ]

module _ (t : Table) where
  -- I4: it has held for no longer than its hold
  pub within_hold : (now i : ℕ) (v : View) (r h : ℕ) → Local t now i v → Holds v r h → h ≤ t.H i r
  within_hold now i (ready q z d true (on x y)) r h k a = rw (← a.0, ← a.1) k.3.1
  within_hold now i (ready q z d false (on x y)) r h k a = absurd k.3
  within_hold now i _ r h k a = elim a [ ]

  -- a tick adds one to the held count
  tick_holds : (i : ℕ) (v v' : View) (r h : ℕ) → Ticks t i v v' → Holds v r h → Holds v' r (suc h)
  tick_holds i v v' r h (works e l) a = absurd a
  tick_holds i v v' r h (ends e l) a = absurd a
  tick_holds i v v' r h (holds e l) a = (a.0, rw a.1 refl)

  -- j holds a resource that keeps somebody, of whom something is due by D, from starting, and is due later itself
  pub record Blocker (s : State) (D j : ℕ) : Type 0 where
    pub r : ℕ
    pub h : ℕ
    pub f : ℕ
    pub holds : Holds (s.view j) r h
    pub later : D < deadline (s.view j)
    pub gate : Gate D (claim_of t s f)
    pub blocks : t.rule.blocks r f

  -- The late ticks so far, c i of slot i, are all of one slot j. They are within the held count of the lock that it still holds, and then
  -- no other is a blocker; or they are within its hold, and there is no blocker.
  -- First j r says that j held r at the first of them.
  pub data Account (s : State) (D : ℕ) (c : ℕ → ℕ) (First : ℕ → ℕ → Type 0) : Type 0 where
    none : ((i : ℕ) → c i ≡ 0) → Account s D c First
    holding : (j r h : ℕ) → First j r → ((i : ℕ) → i ≢ j → c i ≡ 0) → Holds (s.view j) r h → c j ≤ h
        → ((k : ℕ) → Blocker s D k → k ≡ j) → Account s D c First
    over : (j r : ℕ) → First j r → ((i : ℕ) → i ≢ j → c i ≡ 0) → c j ≤ t.H j r → ((k : ℕ) → Blocker s D k → ⊥) → Account s D c First

  -- the same counts, said in other words
  pub recount : {s : State} {D : ℕ} {c c' : ℕ → ℕ} {First First' : ℕ → ℕ → Type 0} → ((i : ℕ) → c' i ≡ c i) → ((j r : ℕ) → First j r → First' j r)
      → Account s D c First → Account s D c' First'
  recount e g (none z) = none (λ i. e i ∙ z i)
  recount e g (holding j r h x z o l only) = holding j r h (g j r x) (λ i ne. e i ∙ z i ne) o (omega (arith, e j)) only
  recount e g (over j r x z l clear) = over j r (g j r x) (λ i ne. e i ∙ z i ne) (omega (arith, e j)) clear

-- a step, or a half of it, from s to s', while D is due
module _ (t : Table) (L : Lawful t) (s s' : State) (i : ℕ) (Count : ℕ → ℕ → ℕ → Type 0) (I : Inv t s) (p : Passage t s s' i Count) (D : ℕ)
    (u : Due t s D) where
  -- U1: there is no new blocker
  was_blocker : (j : ℕ) → Blocker t s' D j → Blocker t s D j
  was_blocker j b = go ((p.each j).holds b.r b.h b.holds)
    where
      go : (deadline (s'.view j) ≡ deadline (s.view j))
          × (((h₀ : ℕ) × Holds (s.view j) b.r h₀ × Count j h₀ b.h) ⊎ ((j ≡ i) × Named t s j × ((r h : ℕ) → Holds (s.view j) r h → ⊥)))
          → Blocker t s D j
      go (q, inl (h₀, a, c)) =
          record {
            r = b.r;
            h = h₀;
            f = b.f;
            holds = a;
            later = omega (arith, q, b.later);
            gate = gate_before t L s s' i Count I p D b.f b.gate;
            blocks = b.blocks;
          }
      go (q, inr (ji, n, nothing)) =
          let w = L.ruled.late s I j n D u (omega (arith, q, b.later)) in absurd (nothing w.r w.h w.holds)

  -- where no late tick is run, the account stays: the lock is still held, or given back and then there is no blocker
  pub account_stays : ((j h₀ h : ℕ) → Count j h₀ h → h₀ ≤ h) → (c : ℕ → ℕ) (First : ℕ → ℕ → Type 0) → Account t s D c First → Account t s' D c First
  account_stays grows c First (none z) = none z
  account_stays grows c First (over j r x z l clear) = over j r x z l (λ k b. clear k (was_blocker k b))
  account_stays grows c First (holding j r h x z o l only) = ⊎_elim held given (holding? (s'.view j))
    where
      held : (r' : ℕ) × (h' : ℕ) × Holds (s'.view j) r' h' → Account t s' D c First
      held (r', h', o') = go ((p.each j).holds r' h' o').1
        where
          go : ((h₀ : ℕ) × Holds (s.view j) r' h₀ × Count j h₀ h') ⊎ ((j ≡ i) × Named t s j × ((r h : ℕ) → Holds (s.view j) r h → ⊥)) → Account t s' D c First
          go (inl (h₀, a, k)) =
              let (er, eh) = holds_one (s.view j) r h r' h₀ o a in
              holding j r h' x z (rw er o') (omega (arith, grows j h₀ h' k)) (λ k b. only k (was_blocker k b))
          go (inr (ji, n, nothing)) = absurd (nothing r h o)

      given : ((r h : ℕ) → Holds (s'.view j) r h → ⊥) → Account t s' D c First
      given nothing = over j r x z (omega (arith, within_hold t s.now j (s.view j) r h (I.local j) o))
          (λ k b. nothing b.r b.h (rw (only k (was_blocker k b)) at b.holds))

-- a late tick of m
module _ (t : Table) (L : Lawful t) (s s' : State) (m : ℕ) (I : Inv t s) (p : Passage t s s' m (Grows m)) (n : Named t s m)
    (ran : Ticks t m (s.view m) (s'.view m)) (D : ℕ) (u : Due t s D) (l : D < deadline (s.view m)) where
  -- Lemma U: m is a blocker, and the only one
  alone : Alone t s D m
  alone = L.ruled.late s I m n D u l

  m_blocks : Blocker t s D m
  unfolding alone
  m_blocks = record { r = alone.r; h = alone.h; f = alone.f; holds = alone.holds; later = l; gate = alone.gate; blocks = alone.blocks }

  only_m : (k : ℕ) → Blocker t s' D k → k ≡ m
  only_m k b =
      let w = was_blocker t L s s' m (Grows m) I p D u k b in
      by_slot m k (λ e. e) (λ ne. absurd (alone.only k w.r w.h w.f w.holds w.blocks w.gate ne))

  -- so the count goes up with its held count
  pub account_more : (c c' : ℕ → ℕ) (First First' : ℕ → ℕ → Type 0) → c' m ≡ suc (c m) → ((i : ℕ) → i ≢ m → c' i ≡ c i)
      → ((j r : ℕ) → First j r → First' j r) → (((i : ℕ) → c i ≡ 0) → (r : ℕ) → Has (s.view m) r → First' m r)
      → Account t s D c First → Account t s' D c' First'
  account_more c c' First First' up same on-with begins (none z) =
      holding m alone.r (suc alone.h) (begins z alone.r (holds_has (s.view m) alone.r alone.h alone.holds))
      (λ i ne. same i ne ∙ z i) (tick_holds t m (s.view m) (s'.view m) alone.r alone.h ran alone.holds) (omega (arith, z m)) only_m
  account_more c c' First First' up same on-with begins (over j r x z k clear) = absurd (clear m m_blocks)
  account_more c c' First First' up same on-with begins (holding j r h x z o k only) =
      let e = only m m_blocks in
      let o' : Holds (s.view m) r h = rw e o in
      holding m r (suc h) (rw e (on-with j r x)) (λ i ne. same i ne ∙ z i (λ q. ne (q ∙ sym e)))
      (tick_holds t m (s.view m) (s'.view m) r h ran o') (omega (arith, up, subst (λ (y : ℕ). c y ≤ h) (sym e) k)) only_m
