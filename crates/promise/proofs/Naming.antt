-- Whom our board names, the argument's board names: the order is the same, and a ceiling is at or above a period exactly as its users say.
use Prim.Native.Nat.{ℕ, ◌<◌, ◌≤◌}
use mathlib.Core.Path.{◌≡◌, refl, sym, ap, subst, ◌∙◌}
use mathlib.Core.Logic.{◌⊎◌, inl, inr, ◌≢◌}
use mathlib.Core.Bool.{Bool, true, false}
use mathlib.Core.List.{List}
use native.Mathlib.Omega.{arith}
use native.Mathlib.Decide.{dec_le}
use lib.Dec.{ltb}
use lib.ListN.{length}
use borrow.Author.Tests.{lt-ltb, ltb-true}
use Rattle.terms.proofs.Tests.{not_both, and_in, and_left, and_right}
use Rattle.resources.specs.Resources.{has}
use Rattle.timing.specs.declared.Figures.{Figures}
use Rattle.timing.specs.Timing.{hold, present, is_started}
use Rattle.timing.specs.Timing.Laws.{hold_outside}
use Rattle.admission.specs.Admission.{slots, slot_of, hold_of, in_table}
use Rattle.board.specs.declared.Board.{Board}
use Rattle.std.specs.Prelude.{Some, None}
use Rattle.board.specs.Board.{figures_at, life_at, uses, ceiling, clears, named}
use Rattle.board.proofs.First.{Leads}
use Rattle.board.proofs.Named.{First_of, Goes, Held, Why, itself, instead, named_why, nobody_unready}
use Rattle.board.proofs.Ceilings.{all_clear, held_by}
use Rattle.guarantee.specs.Table.{Named}
use Rattle.guarantee.specs.Board.{Before, First, FirstStarted, deadline}
use Rattle.guarantee.specs.RuleCeiling.{goes_on, starts}
use Rattle.guarantee.specs.RuleCeiling as ceilings
use Rattle.guarantee.specs.Board as abstract
use Rattle.guarantee.specs.Reached.{Reached}
use Rattle.guarantee.proofs.Guarantee.{sound}
use Rattle.guarantee.proofs.Views.{has_holds, holder_started}
use Rattle.guarantee.proofs.Views.{started_ready as abstract-ready}
use Rattle.promise.proofs.Lawful.{Kept, servers_of, table_of, lawful_table}
use Rattle.promise.proofs.Look.{look, deadline_is, ready_out, started_in, started_out, fresh_in, slot_of_ready}

-- a hold that is not 0 is of a resource below 8
pub resource_of : (f : Figures) (r : ℕ) → 0 < (hold f r).0 → r < 8
resource_of f r h = go (dec_le 8 r)
  where
    go : Dec (8 ≤ r) → r < 8
    go (no z) = omega arith
    go (yes l) = absurd (omega (arith, ap (λ x. x.0) (hold_outside f r l)))

module _ (n l : ℕ) (t : List Figures) (w : Kept n l t) where
  -- the servers of the table stand in the slots below n
  pub server_of : (x : ℕ) → in_table t x ≡ true → x < n
  server_of x e = go (dec_le n x)
    where
      go : Dec (n ≤ x) → x < n
      go (no z) = omega arith
      go (yes h) = absurd (not_both e (w.standing.rest x h))

  module _ (b : Board) (same : b.table ≡ t) (long : length b.lives ≡ slots) where
    figures_same : (i : ℕ) → figures_at b i ≡ slot_of t i
    figures_same i = ap (λ (x : List Figures). slot_of x i) same

    -- before every other, as the argument says it
    ahead : (i j : ℕ) (s : Bool) → Leads b s i j → j ≢ i → Before (look b) i j
    unfolding Leads
    ahead i j s h ne = subst (λ (x : ℕ). (x < deadline ((look b).view j)) ⊎ ((x ≡ deadline ((look b).view j)) × (i < j))) (sym (deadline_is _ _ (life_at b i).state))
        (subst (λ (y : ℕ). ((life_at b i).deadline.0 < y) ⊎ (((life_at b i).deadline.0 ≡ y) × (i < j))) (sym (deadline_is _ _ (life_at b j).state)) (go h))
      where
        go : ((life_at b i).deadline.0 < (life_at b j).deadline.0) ⊎ (((life_at b i).deadline.0 ≡ (life_at b j).deadline.0) × (i ≤ j))
            → ((life_at b i).deadline.0 < (life_at b j).deadline.0) ⊎ (((life_at b i).deadline.0 ≡ (life_at b j).deadline.0) × (i < j))
        go (inl a) = inl a
        go (inr (a, c)) = inr (a, omega arith)

    first_ready : (i : ℕ) → First_of b false i → First (look b) i
    first_ready i h j a ne =
        let k = slot_of_ready b j long a in
        ahead i j false (h.leads j k (ready_out _ _ (life_at b j).state a)) ne

    first_started : (i : ℕ) → First_of b true i → FirstStarted (look b) i
    first_started i h j a ne =
        let k = slot_of_ready b j long (abstract-ready ((look b).view j) a) in
        ahead i j true (h.leads j k (started_out _ _ (life_at b j).state a)) ne

    -- the ceiling lets i start, or keeps it from starting
    uses_in_lem : (x r : ℕ) → x < n → 0 < hold_of t x r → uses b x r ≡ true
    uses_in_lem x r h u =
        let e = figures_same x in
        and_in _ _ (ap (λ (f : Figures). present f) e ∙ w.standing.servers x h) (ap (λ (f : Figures). ltb 0 (hold f r).0) e ∙ lt-ltb _ _ u)

    lets_start : (i : ℕ) → clears (figures_at b i).period (ceiling b) ≡ true → (r : ℕ) → has b.locked r ≡ true → ceilings.Clears (servers_of n l t) i r
    lets_start i c r k x h u =
        let p = all_clear b (figures_at b i).period c r x (resource_of (slot_of t x) r u) k (omega (arith, w.standing.few)) (uses_in_lem x r h.0 u) in
        omega (arith, p, ap (λ (f : Figures). f.period.0) (figures_same i), ap (λ (f : Figures). f.period.0) (figures_same x))

    keeps_back : (i : ℕ) → clears (figures_at b i).period (ceiling b) ≡ false → (r : ℕ) × (has b.locked r ≡ true) × (table_of n l t).rule.blocks r i
    keeps_back i c =
        let (r, a, k, x, h, u, p) = held_by b (figures_at b i).period c in
        let e = figures_same x in
        let here = sym (ap (λ (f : Figures). present f) e) ∙ and_left _ _ u in
        let much = ltb-true _ _ (sym (ap (λ (f : Figures). ltb 0 (hold f r).0) e) ∙ and_right (present (figures_at b x)) _ u) in (
          r,
          k,
          (
            x,
            (server_of x here, refl),
            much,
            omega (arith, p, ap (λ (f : Figures). f.period.0) (figures_same i), ap (λ (f : Figures). f.period.0) (figures_same x)),
          ),
        )

    pub names : (m : ℕ) → named b ≡ Some m → Named (table_of n l t) (look b) m
    unfolding Goes Held
    names m e = by (named_why b m e)
      where
        alone : First_of b false m → Goes b m → (s : Bool) → is_started (life_at b m).state ≡ s → Named (table_of n l t) (look b) m
        alone h g true s = goes_on (started_in _ _ (life_at b m).state s) (first_ready m h)
        alone h (inl g) false s = absurd (not_both g s)
        alone h (inr g) false s = starts (fresh_in _ _ (life_at b m).state h.one s) (first_ready m h) (lets_start m g)

        by : Why b m → Named (table_of n l t) (look b) m
        by (itself h g) = alone h g (is_started (life_at b m).state) refl
        by (instead f h (x, y) k) =
            let (r, a, c) = keeps_back f y in
            ceilings.instead f r (started_in _ _ (life_at b m).state k.one) (first_started m k) (fresh_in _ _ (life_at b f).state h.one x) (first_ready f h) a c

    -- with nobody named none is ready: behind each lock stands a started holder
    pub names_nobody : Reached (table_of n l t) (look b) → named b ≡ None → (j : ℕ) → abstract.Ready ((look b).view j) → ⊥
    names_nobody reached e j a =
        not_both (ready_out _ _ (life_at b j).state a) (nobody_unready b holder e j (slot_of_ready b j long a))
      where
        holder : (r : ℕ) → has b.locked r ≡ true → (i : ℕ) × (i < slots) × (is_started (life_at b i).state ≡ true)
        holder r k =
            let I = (sound (table_of n l t) (lawful_table n l t w) reached).inv in
            let (i, h) = I.locks.holder r k in
            let (x, o) = has_holds ((look b).view i) r h in
            let s = holder_started (table_of n l t) b.clock.0 i ((look b).view i) r x (I.local i) o in
            (i, slot_of_ready b i long (abstract-ready ((look b).view i) s), started_out _ _ (life_at b i).state s)
