-- A table that passes still passes with fewer servers: its load and its longest wait can only fall.
use Rattle.std.specs.Prelude.{ℕ, ◌+◌, ◌*◌, ◌/◌, ◌<◌, ◌≤◌, ◌≡◌, ◌⊎◌, Bool, true, false, ◌&&◌, List, length, set}
use Rattle.std.proofs.Common.{sym, subst, ◌∙◌, inl, inr, ⊎_elim, arith, mul-le-mul_right, get_or-set_same, get_or-set_other}
use Rattle.std.proofs.Math.Path.{ap}
use Rattle.std.proofs.Math.Decide.{dec_le, ℕ_discrete}
use Rattle.std.proofs.Math.Dec.{leb}
use Rattle.terms.specs.Words.{when}
use Rattle.terms.proofs.Over.{sum_le}
use Rattle.terms.proofs.Tests.{not_both}
use Rattle.timing.specs.declared.Figures.{Figures}
use Rattle.timing.specs.Timing.{hold, present}
use Rattle.admission.specs.Admission.{slots, slot_of, in_table, period_of, load, longest_wait, Ranges, passes, Part}
use Rattle.admission.specs.Admission.Laws.{present_in, wait_upper, wait_one}
use Rattle.admission.specs.Admission.Text.{load_is}
use Rattle.admission.proofs.Laws.{passes_in, passes_out}

module _ (t' t : List Figures) (part : Part t' t) where
  -- who is in the smaller table stands in the larger one with the same figures
  same : (k : ℕ) → k < slots → in_table t' k ≡ true → slot_of t' k ≡ slot_of t k
  same k h e = ⊎_elim (λ q. q) (λ n. absurd (not_both e n)) (part k h)

  module _ (l p : ℕ) where
    -- what one server adds to the load
    abbrev term : Figures → ℕ
    term f = when (present f && leb f.period.0 p) (f.budget.0 * (l / f.period.0))

    load_less : load t' l p ≤ load t l p
    load_less =
        rw (load_is t' l p, load_is t l p) (sum_le slots (λ i. term (slot_of t' i)) (λ i. term (slot_of t i)) (λ i h. one i (part i h)))
      where
        one : (i : ℕ) → (slot_of t' i ≡ slot_of t i) ⊎ (in_table t' i ≡ false) → term (slot_of t' i) ≤ term (slot_of t i)
        one i (inl e) = omega (arith, ap term e)
        one i (inr n) =
            let f = slot_of t' i in
            omega (arith, ap (λ (b : Bool). when (b && leb f.period.0 p) (f.budget.0 * (l / f.period.0))) n)

    ranges_less : (h : ℕ) → Ranges t' p h → Ranges t p h
    ranges_less h w =
        let e = same w.j w.j_slot (present_in t' w.j (omega (arith, w.j_longer))) in
        let f = same w.x w.x_slot w.x_present in
        record {
          j = w.j;
          r = w.r;
          x = w.x;
          j_slot = w.j_slot;
          j_longer = omega (arith, w.j_longer, ap (λ (g : Figures). g.period.0) e);
          x_slot = w.x_slot;
          x_present = sym (ap present f) ∙ w.x_present;
          x_shorter = omega (arith, w.x_shorter, ap (λ (g : Figures). g.period.0) f);
          x_uses = omega (arith, w.x_uses, ap (λ (g : Figures). (hold g w.r).0) f);
          is = w.is ∙ ap (λ (g : Figures). (hold g w.r).0) e;
        }

    wait_less : longest_wait t' p ≤ longest_wait t p
    wait_less = ⊎_elim (λ w. wait_upper t p _ (ranges_less _ w)) (λ z. omega arith) (wait_one t' p)

    fits_less : load t l p + longest_wait t p * (l / p) ≤ l → load t' l p + longest_wait t' p * (l / p) ≤ l
    fits_less h = omega (arith, load_less, mul-le-mul_right (l / p) wait_less)

  pub passes_fewer : (l : ℕ) → passes t l ≡ true → passes t' l ≡ true
  passes_fewer l e = passes_in t' l (λ k h i.
      let s = same k h i in
      fits_less l (period_of t' k)
      (subst (λ (n : ℕ). load t l n + longest_wait t n * (l / n) ≤ l) (sym (ap (λ (f : Figures). f.period.0) s))
      (passes_out t l e k h (sym (ap present s) ∙ i))))

-- one server less
pub passes_less_one : (t : List Figures) (l i : ℕ) (f : Figures) → present f ≡ false → i < length t → passes t l ≡ true → passes (set t i f) l ≡ true
passes_less_one t l i f n h = passes_fewer (set t i f) t (λ k b. go k (ℕ_discrete k i)) l
  where
    go : (k : ℕ) → Dec (k ≡ i) → (slot_of (set t i f) k ≡ slot_of t k) ⊎ (in_table (set t i f) k ≡ false)
    go k (yes e) = let q : slot_of (set t i f) k ≡ f = rw e (get_or-set_same t i f _ h) in inr (ap present q ∙ n)
    go k (no z) = inl (get_or-set_other t i k f _ z)

-- each prefix of it: the slots below n, the rest not in the table
pub passes_prefix : (t t' : List Figures) (l n : ℕ) → ((k : ℕ) → k < n → slot_of t' k ≡ slot_of t k) → ((k : ℕ) → n ≤ k → in_table t' k ≡ false)
    → passes t l ≡ true → passes t' l ≡ true
passes_prefix t t' l n low high = passes_fewer t' t (λ k b. go k (dec_le n k)) l
  where
    go : (k : ℕ) → Dec (n ≤ k) → (slot_of t' k ≡ slot_of t k) ⊎ (in_table t' k ≡ false)
    go k (yes h) = inr (high k h)
    go k (no z) = inl (low k (omega arith))
