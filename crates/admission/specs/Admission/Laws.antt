-- What admission states, for the crates above: each follows from the definitions by taking their tests apart.
use Prim.Native.Nat.{ℕ, zero, suc, ◌+◌, ◌-◌, ◌*◌, ◌/◌, ◌<◌, ◌≤◌}
use Rattle.std.specs.Prelude.{◌≡◌, refl, ◌⊎◌, ◌≢◌, Bool, false, ◌&&◌, List, leb}
use Rattle.std.proofs.Math.Path.{ap}
use Rattle.std.proofs.Common.{◌∙◌, inl, inr, arith, add-zero, add-suc}
use Rattle.std.proofs.Math.Bool.{true, not}
use Rattle.std.proofs.Math.Decide.{dec_le}
use Rattle.std.proofs.Math.Dec.{ltb}
use borrow.Author.Tests.{lt-ltb, ltb-true, le-leb, leb-true, eq-eqb, ne_eqb}
use Rattle.terms.specs.Words.{when, sum, largest}
use Rattle.terms.proofs.Over.{sum_le, largest_upper, largest_one, some_in, some_out}
use Rattle.terms.proofs.Tests.{not_both, and_in, and_left, and_right}
use Rattle.quantity.specs.declared.Length.{Length}
use Rattle.timing.specs.declared.Figures.{Figures}
use Rattle.timing.specs.Timing.Laws.{hold_outside}
use Rattle.admission.specs.Admission.{slots, slot_of, in_table, period_of, budget_of, hold_of, load, used, longest_wait, Ranges}

module _ (t : List Figures) where
  -- a slot is in the table exactly if its period is not 0
  pub present_in : (i : ℕ) → 0 < period_of t i → in_table t i ≡ true
  present_in i h = let n : period_of t i ≢ 0 = λ e. omega arith in ap not (ne_eqb (period_of t i) 0 n)

  pub present_out : (i : ℕ) → in_table t i ≡ true → 0 < period_of t i
  present_out i e = let n : period_of t i ≢ 0 = λ z. not_both (e) (ap not (eq-eqb (period_of t i) 0 z)) in omega arith

  module _ (p r : ℕ) where
    used_in : (x : ℕ) → x < slots → in_table t x ≡ true → period_of t x ≤ p → 0 < hold_of t x r → used t p r ≡ true
    unfolding used
    used_in x h e l u =
        some_in (λ x. in_table t x && (leb (period_of t x) p && ltb 0 (hold_of t x r))) slots x h
        (and_in _ _ e (and_in _ _ (le-leb _ _ l) (lt-ltb _ _ u)))

    used_out : used t p r ≡ true → (x : ℕ) × (x < slots) × (in_table t x ≡ true) × (period_of t x ≤ p) × (0 < hold_of t x r)
    unfolding used
    used_out e =
        let (x, h, u) = some_out (λ x. in_table t x && (leb (period_of t x) p && ltb 0 (hold_of t x r))) slots e in
        let v = and_right (in_table t x) (leb (period_of t x) p && ltb 0 (hold_of t x r)) u in
        (x, h, and_left (in_table t x) _ u, leb-true _ _ (and_left (leb (period_of t x) p) _ v), ltb-true _ _ (and_right (leb (period_of t x) p) (ltb 0 (hold_of t x r)) v))

  -- what j's hold of r counts for B(k)
  abbrev counts : ℕ → ℕ → ℕ → ℕ
  counts p j r = when (ltb p (period_of t j) && used t p r) (hold_of t j r)

  -- B(k) is at least each hold it ranges over, and one of them or 0
  pub wait_upper : (p h : ℕ) → Ranges t p h → h ≤ longest_wait t p
  unfolding longest_wait
  wait_upper p h w = go (dec_le 8 w.r)
    where
      one : w.r < 8 → hold_of t w.j w.r ≤ largest (λ j. largest (counts p j) 8) slots
      one l =
          let c : (ltb p (period_of t w.j) && used t p w.r) ≡ true = and_in _ _ (lt-ltb _ _ w.j_longer) (used_in p w.r w.x w.x_slot w.x_present w.x_shorter w.x_uses) in
          let e : counts p w.j w.r ≡ hold_of t w.j w.r = ap (λ (b : Bool). when b (hold_of t w.j w.r)) c in
          omega (arith, largest_upper (counts p w.j) 8 w.r l, largest_upper (λ j. largest (counts p j) 8) slots w.j w.j_slot)

      go : Dec (8 ≤ w.r) → h ≤ largest (λ j. largest (counts p j) 8) slots
      go (yes l) = omega (arith, w.is, ap (λ (n : Length). n.0) (hold_outside (slot_of t w.j) w.r l))
      go (no z) = omega (arith, w.is, one (omega arith))

  pub wait_one : (p : ℕ) → Ranges t p (longest_wait t p) ⊎ (longest_wait t p ≡ 0)
  unfolding longest_wait
  wait_one p = by_server (largest_one (λ j. largest (counts p j) 8) slots)
    where
      W : ℕ
      W = largest (λ j. largest (counts p j) 8) slots

      counted : (j r : ℕ) → j < slots → W ≡ counts p j r → (b : Bool) → (ltb p (period_of t j) && used t p r) ≡ b → Ranges t p W ⊎ (W ≡ 0)
      counted j r h e false c = inr (e ∙ ap (λ (b : Bool). when b (hold_of t j r)) c)
      counted j r h e true c =
          let (x, k, i, l, u) = used_out p r (and_right (ltb p (period_of t j)) (used t p r) c) in
          inl record {
            j = j;
            r = r;
            x = x;
            j_slot = h;
            j_longer = ltb-true _ _ (and_left (ltb p (period_of t j)) (used t p r) c);
            x_slot = k;
            x_present = i;
            x_shorter = l;
            x_uses = u;
            is = e ∙ ap (λ (b : Bool). when b (hold_of t j r)) c;
          }

      by_resource : (j : ℕ) → j < slots → W ≡ largest (counts p j) 8 → ((r : ℕ) × (r < 8) × (largest (counts p j) 8 ≡ counts p j r)) ⊎ (largest (counts p j) 8 ≡ 0)
          → Ranges t p W ⊎ (W ≡ 0)
      by_resource j h e (inl (r, k, q)) = counted j r h (e ∙ q) (ltb p (period_of t j) && used t p r) refl
      by_resource j h e (inr z) = inr (e ∙ z)

      by_server : ((j : ℕ) × (j < slots) × (W ≡ largest (counts p j) 8)) ⊎ (W ≡ 0) → Ranges t p W ⊎ (W ≡ 0)
      by_server (inl (j, h, e)) = by_resource j h e (largest_one (counts p j) 8)
      by_server (inr z) = inr z

-- the load is at least the parts of some of the servers in the slots below n
sum_more : (f : ℕ → ℕ) (n k : ℕ) → sum f n ≤ sum f (n + k)
unfolding sum
sum_more f n zero = rw add-zero (omega arith)
sum_more f n (suc k) = rw add-suc (omega (arith, sum_more f n k))

when_more : (x y b : Bool) (m : ℕ) → (x ≡ true → y ≡ true) → when (x && b) m ≤ when (y && b) m
when_more false y b m h = omega arith
when_more true y b m h = rw (h refl) (omega arith)

pub load_parts : (t : List Figures) (l p n : ℕ) (here : ℕ → Bool) → n ≤ slots → ((i : ℕ) → i < n → here i ≡ true → in_table t i ≡ true)
    → sum (λ i. when (here i && leb (period_of t i) p) (budget_of t i * (l / period_of t i))) n ≤ load t l p
unfolding load
load_parts t l p n here h servers =
    let part : (ℕ → Bool) → ℕ → ℕ = λ among i. when (among i && leb (period_of t i) p) (budget_of t i * (l / period_of t i)) in
    let e : n + (slots - n) ≡ slots = omega arith in
    omega (
      arith,
      sum_le n (part here) (part (in_table t)) (λ i k. when_more (here i) (in_table t i) (leb (period_of t i) p) _ (servers i k)),
      sum_more (part (in_table t)) n (slots - n),
      ap (λ (m : ℕ). sum (part (in_table t)) m) e,
    )
