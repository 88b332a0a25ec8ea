-- The test passes exactly if the published inequality holds for every k: a fraction a / b of the frame L is the part v of it with v * b = a * L.
use Prim.Native.Nat.{ℕ, zero, suc, ◌+◌, ◌*◌, ◌/◌, ◌<◌, ◌≤◌}
use mathlib.Core.Path.{◌≡◌, refl, sym, ap, subst}
use mathlib.Core.Bool.{Bool, true, false, ◌&&◌}
use mathlib.Core.List.{List}
use native.Mathlib.Omega.{arith}
use native.Mathlib.Nat.{mul-pos, mul-le-mul_right, le_of_mul-le-mul_right}
use lib.Dec.{leb}
use Rattle.terms.specs.Words.{when, sum}
use Rattle.terms.proofs.Tests.{and_left}
use Rattle.timing.specs.declared.Figures.{Figures}
use Rattle.admission.specs.Admission.{slots, in_table, period_of, budget_of, load, longest_wait, passes}
use Rattle.admission.specs.Admission.Laws.{present_out}
use Rattle.admission.specs.Admission.Text.{load_is}
use Rattle.admission.proofs.Laws.{passes_in, passes_out}
use Rattle.admission.specs.Published.{Fraction, plus, AtMostOne, when_counts, total, alpha, Holds}

module _ (l : ℕ) (pos : 0 < l) where
  -- v is the part of l that the fraction x says
  record Says (v : ℕ) (x : Fraction) : Type 0 where
    under_pos : 0 < x.under
    same : v * x.under ≡ x.over * l

  says_plus : {v w : ℕ} {x y : Fraction} → Says v x → Says w y → Says (v + w) (plus x y)
  says_plus {v} {w} {x} {y} a b = record {
    under_pos = mul-pos a.under_pos b.under_pos;
    same = omega (arith, ap (λ (n : ℕ). n * y.under) a.same, ap (λ (n : ℕ). n * x.under) b.same);
  }

  says_nothing : Says 0 (record { over = 0; under = 1 })
  says_nothing = record { under_pos = omega arith; same = omega arith }

  -- a in each period p that divides l
  says_part : (a p : ℕ) → 0 < p → l / p * p ≡ l → Says (a * (l / p)) (record { over = a; under = p })
  says_part a p h e = record { under_pos = h; same = omega (arith, ap (λ (n : ℕ). a * n) e) }

  says_total : (f : ℕ → Fraction) (g : ℕ → ℕ) (n : ℕ) → ((i : ℕ) → i < n → Says (g i) (f i)) → Says (sum g n) (total f n)
  unfolding sum total
  says_total f g zero h = says_nothing
  says_total f g (suc n) h = says_plus (says_total f g n (λ i k. h i (omega arith))) (h n (omega arith))

  -- a fraction is at most 1 exactly if its part is at most all
  at_most : {v : ℕ} {x : Fraction} → Says v x → AtMostOne x → v ≤ l
  at_most {v} {x} a h =
      let m : v * x.under ≤ l * x.under = omega (arith, a.same, mul-le-mul_right l h) in
      le_of_mul-le-mul_right m a.under_pos

  at_most_one : {v : ℕ} {x : Fraction} → Says v x → v ≤ l → AtMostOne x
  at_most_one {v} {x} a h =
      let m : x.over * l ≤ x.under * l = omega (arith, a.same, mul-le-mul_right x.under h) in
      le_of_mul-le-mul_right m pos

  module _ (t : List Figures) (divides : (i : ℕ) → i < slots → in_table t i ≡ true → l / period_of t i * period_of t i ≡ l) where
    -- both sides of equation 2.13 for k, as a fraction and as a part of the frame
    says_k : (k : ℕ) → k < slots → in_table t k ≡ true
        → Says (load t l (period_of t k) + longest_wait t (period_of t k) * (l / period_of t k))
        (plus (total (λ i. when_counts (in_table t i && leb (period_of t i) (period_of t k)) (alpha t i)) slots)
        (record { over = longest_wait t (period_of t k); under = period_of t k }))
    says_k k h e =
        subst (λ (n : ℕ). Says (n + longest_wait t (period_of t k) * (l / period_of t k))
        (plus (total (λ i. when_counts (in_table t i && leb (period_of t i) (period_of t k)) (alpha t i)) slots)
        (record { over = longest_wait t (period_of t k); under = period_of t k }))) (sym (load_is t l (period_of t k)))
        (says_plus (says_total _ _ slots (λ i b. counts i b _ refl))
        (says_part (longest_wait t (period_of t k)) (period_of t k) (present_out t k e) (divides k h e)))
      where
        counts : (i : ℕ) → i < slots → (c : Bool) → (in_table t i && leb (period_of t i) (period_of t k)) ≡ c
            → Says (when c (budget_of t i * (l / period_of t i))) (when_counts c (alpha t i))
        counts i b true c =
            let here = and_left (in_table t i) (leb (period_of t i) (period_of t k)) c in
            says_part (budget_of t i) (period_of t i) (present_out t i here) (divides i b here)
        counts i b false c = says_nothing

    -- both directions
    pub passes_published : passes t l ≡ true → (k : ℕ) → k < slots → in_table t k ≡ true → Holds t k
    unfolding Holds
    passes_published e k h i = at_most_one (says_k k h i) (passes_out t l e k h i)

    pub published_passes : ((k : ℕ) → k < slots → in_table t k ≡ true → Holds t k) → passes t l ≡ true
    unfolding Holds
    published_passes f = passes_in t l (λ k h i. at_most (says_k k h i) (f k h i))
