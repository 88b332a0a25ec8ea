-- The code's best slot is the first by deadline, then by slot: it goes up the slots and changes only for an earlier deadline.
use Prim.Native.Nat.{ℕ, zero, suc, ◌<◌, ◌≤◌}
use mathlib.Core.Path.{◌≡◌, refl, sym, ap, ◌∙◌}
use mathlib.Core.Logic.{◌⊎◌, inl, inr, ⊎_elim}
use mathlib.Core.Bool.{Bool, true, false, not, ◌&&◌, ◌||◌}
use native.Mathlib.Omega.{arith}
use native.Mathlib.Decide.{ℕ_discrete, dec_le}
use lib.Dec.{ltb, eqb}
use borrow.Author.Tests.{ltb-true, ltb-false, lt-ltb, eq-eqb, eqb-true, not-true, not-false}
use Rattle.terms.proofs.Over.{below_suc, every_in, every_out}
use Rattle.terms.proofs.Tests.{not_both, true_or_false, and_in, and_left, and_right, or_left, or_right, or_out}
use Rattle.admission.specs.Admission.{slots}
use Rattle.board.specs.declared.Board.{Board}
use Rattle.board.specs.declared.Best.{Best}
use Rattle.std.specs.Prelude.{Option, Some, None}
use Rattle.board.specs.Board.{life_at, stands, precedes, is_first, first, seek}
use Rattle.board.specs.Steps.{keeps, better_of, best_of, chosen}
use Rattle.board.proofs.Search.{no_slot, search_none, search_only, search_out}

module _ (b : Board) (s : Bool) where
  abbrev due_at : ℕ → ℕ
  due_at j = (life_at b j).deadline.0

  -- i is at or before j in the order
  unfoldable pub Leads : ℕ → ℕ → Type 0
  Leads i j = (due_at i < due_at j) ⊎ ((due_at i ≡ due_at j) × (i ≤ j))

  -- p is the first of the slots below n, or none of them stands
  record Best_at (n : ℕ) (p : Best) : Type 0 where
    below : p.slot < n
    one : stands b s p.slot ≡ true
    due : p.deadline.0 ≡ due_at p.slot
    leads : (j : ℕ) → j < n → stands b s j ≡ true → Leads p.slot j

  abbrev Best_of : ℕ → Option Best → Type 0
  Best_of n None = (j : ℕ) → j < n → stands b s j ≡ false
  Best_of n (Some p) = Best_at n p

  -- slot n does not count
  skips : (n : ℕ) (p : Option Best) → stands b s n ≡ false → Best_of n p → Best_of (suc n) p
  skips n None out h = below_suc (λ j. stands b s j ≡ false) h out
  skips n (Some p) out h = record {
    below = omega (arith, h.below);
    one = h.one;
    due = h.due;
    leads = below_suc (λ j. stands b s j ≡ true → Leads p.slot j) h.leads (λ yes. absurd (not_both yes out));
  }

  -- the best so far stays before slot n
  stays : (n : ℕ) (p : Option Best) → keeps p (life_at b n).deadline ≡ true → Best_of n p → Best_of (suc n) p
  unfolding keeps Leads
  stays n None k h = absurd (not_both k refl)
  stays n (Some p) k h = record {
    below = omega (arith, h.below);
    one = h.one;
    due = h.due;
    leads = below_suc (λ j. stands b s j ≡ true → Leads p.slot j) h.leads (λ yes. last (dec_le (due_at n) (due_at p.slot)));
  }
    where
      late : p.deadline.0 ≤ due_at n
      late = ltb-false (due_at n) p.deadline.0 (not-true _ k)

      last : Dec (due_at n ≤ due_at p.slot) → (due_at p.slot < due_at n) ⊎ ((due_at p.slot ≡ due_at n) × (p.slot ≤ n))
      last (yes l) = inr (omega (arith, h.due, late), omega (arith, h.below))
      last (no z) = inl (omega arith)

  -- slot n is before the best so far, or there was none
  takes : (n : ℕ) (p : Option Best) → stands b s n ≡ true → keeps p (life_at b n).deadline ≡ false → Best_of n p
      → Best_at (suc n) (record { slot = n; deadline = (life_at b n).deadline })
  unfolding keeps Leads
  takes n p here k h = record {
    below = omega arith;
    one = here;
    due = refl;
    leads = below_suc (λ j. stands b s j ≡ true → Leads n j) (before_all p k h) (λ yes. inr (refl, omega arith));
  }
    where
      before_all : (p : Option Best) → keeps p (life_at b n).deadline ≡ false → Best_of n p → (j : ℕ) → j < n → stands b s j ≡ true → Leads n j
      before_all None k h j m t = absurd (not_both t (h j m))
      before_all (Some p) k h j m t =
          let early = ltb-true (due_at n) p.deadline.0 (not-false _ k) in
          ⊎_elim (λ (c : due_at p.slot < due_at j). inl (omega (arith, h.due, early)))
          (λ (c : (due_at p.slot ≡ due_at j) × (p.slot ≤ j)). inl (omega (arith, h.due, early, c.0))) (h.leads j m t)

  step : (n : ℕ) (p : Option Best) (x y : Bool) → stands b s n ≡ x → keeps p (life_at b n).deadline ≡ y → Best_of n p
      → Best_of (suc n) (better_of b s p n)
  unfolding better_of
  step n p false y e k h = rw e (skips n p e h)
  step n p true true e k h = rw (e, k) (stays n p k h)
  step n p true false e k h = rw (e, k) (takes n p e k h)

  best_is : (n : ℕ) → Best_of n (best_of b s n)
  unfolding best_of
  best_is zero = λ j l. absurd (omega arith)
  best_is (suc n) = step n (best_of b s n) _ _ refl refl (best_is n)

  -- being the first, as a test and as a fact
  precedes_in : (i j : ℕ) → Leads i j → (eqb j i || precedes b i j) ≡ true
  unfolding Leads
  precedes_in i j (inl l) = or_right (eqb j i) _ (or_left _ _ (lt-ltb _ _ l))
  precedes_in i j (inr (e, l)) = go (ℕ_discrete j i)
    where
      go : Dec (j ≡ i) → (eqb j i || precedes b i j) ≡ true
      go (yes q) = or_left (eqb j i) _ (eq-eqb j i q)
      go (no z) = or_right (eqb j i) _ (or_right (ltb (due_at i) (due_at j)) _ (and_in _ _ (eq-eqb _ _ e) (lt-ltb i j (omega arith))))

  precedes_out : (i j : ℕ) → (eqb j i || precedes b i j) ≡ true → Leads i j
  unfolding Leads
  precedes_out i j e =
      ⊎_elim (λ q. inr (ap due_at (sym (eqb-true j i q)), omega (arith, eqb-true j i q)))
      (λ q. ⊎_elim (λ l. inl (ltb-true _ _ l))
      (λ r. inr (eqb-true _ _ (and_left (eqb (due_at i) (due_at j)) (ltb i j) r), omega (arith, ltb-true i j (and_right (eqb (due_at i) (due_at j)) (ltb i j) r))))
      (or_out (ltb (due_at i) (due_at j)) (eqb (due_at i) (due_at j) && ltb i j) q))
      (or_out (eqb j i) (precedes b i j) e)

  pub first_in : (i : ℕ) → stands b s i ≡ true → ((j : ℕ) → j < slots → stands b s j ≡ true → Leads i j) → is_first b s i ≡ true
  first_in i e h = and_in _ _ e (every_in (λ j. not (stands b s j) || (eqb j i || precedes b i j)) slots (λ j l.
      ⊎_elim (λ yes. or_right (not (stands b s j)) _ (precedes_in i j (h j l yes))) (λ no. or_left (not (stands b s j)) _ (ap not no))
      (true_or_false (stands b s j))))

  pub first_stands : (i : ℕ) → is_first b s i ≡ true → stands b s i ≡ true
  first_stands i e = and_left (stands b s i) _ e

  pub first_leads : (i : ℕ) → is_first b s i ≡ true → (j : ℕ) → j < slots → stands b s j ≡ true → Leads i j
  first_leads i e j l t =
      precedes_out i j
      (⊎_elim (λ n. absurd (not_both t (not-true _ n))) (λ p. p)
      (or_out (not (stands b s j)) (eqb j i || precedes b i j)
      (every_out (λ j. not (stands b s j) || (eqb j i || precedes b i j)) slots (and_right (stands b s i) _ e) j l)))

  -- there is only one first
  pub only : (i j : ℕ) → i < slots → j < slots → is_first b s i ≡ true → is_first b s j ≡ true → j ≡ i
  unfolding Leads
  only i j k l e f =
      go (first_leads i e j l (first_stands j f)) (first_leads j f i k (first_stands i e))
    where
      go : (due_at i < due_at j) ⊎ ((due_at i ≡ due_at j) × (i ≤ j)) → (due_at j < due_at i) ⊎ ((due_at j ≡ due_at i) × (j ≤ i)) → j ≡ i
      go (inl a) (inl c) = absurd (omega arith)
      go (inl a) (inr (c, d)) = absurd (omega arith)
      go (inr (a, d)) (inl c) = absurd (omega arith)
      go (inr (a, d)) (inr (c, g)) = omega arith

  -- the code's choice is the definition's
  pub first_is : first b s ≡ chosen (best_of b s slots)
  unfolding first
  first_is = go (best_of b s slots) (best_is slots)
    where
      go : (p : Option Best) → Best_of slots p → seek (is_first b s) slots ≡ chosen p
      go None h =
          search_none (is_first b s) slots (λ j l.
          ⊎_elim (λ f. absurd (not_both (first_stands j f) (h j l))) (λ f. f) (true_or_false (is_first b s j)))
      go (Some p) h =
          let f = first_in p.slot h.one h.leads in
          search_only (is_first b s) slots p.slot h.below f (λ j l g. only p.slot j h.below l f g)

  -- with nobody first, nobody stands
  pub first_none : first b s ≡ None → (j : ℕ) → j < slots → stands b s j ≡ false
  first_none e = go (best_of b s slots) (best_is slots) (sym first_is ∙ e)
    where
      go : (p : Option Best) → Best_of slots p → chosen p ≡ None → (j : ℕ) → j < slots → stands b s j ≡ false
      go None h q = h
      go (Some p) h q = absurd (no_slot (sym q))

  pub first_below : (i : ℕ) → first b s ≡ Some i → i < slots
  unfolding first
  first_below i e = (search_out (is_first b s) slots i e).0
