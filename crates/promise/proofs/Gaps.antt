-- A table with gaps that admission let pass is lawful for the argument of promise 3, and a set slot leaves the others the same.
use Prim.Native.Nat.{ℕ, ◌+◌, ◌-◌, ◌*◌, ◌/◌, ◌<◌}
use mathlib.Core.Path.{◌≡◌, refl, sym, ap, subst, ◌∙◌}
use mathlib.Core.Logic.{◌≢◌}
use mathlib.Core.Bool.{true, false}
use mathlib.Core.List.{List}
use native.Mathlib.Omega.{arith}
use native.Mathlib.Decide.{ℕ_discrete}
use lib.ListN.{length, set, length-set}
use lib.Seq.{get_or-set_same, get_or-set_other}
use Rattle.terms.proofs.Tests.{not_both}
use Rattle.timing.specs.declared.Figures.{Figures}
use Rattle.timing.specs.Timing.{present, Ranged}
use Rattle.admission.specs.Admission.{slots, slot_of, period_of, budget_of, hold_of, in_table, passes}
use Rattle.admission.proofs.Fewer.{passes_less_one}
use Rattle.guarantee.specs.Table.{Table}
use Rattle.guarantee.specs.Lawful.{Lawful}
use Rattle.guarantee.specs.TableDividing.{table}
use Rattle.guarantee.specs.Changing.{Same}
use Rattle.promise.proofs.Lawful.{KeptIn, lawful_in}

-- what a table keeps, wherever its servers stand
pub record Stands (l : ℕ) (t : List Figures) : Type 0 where
  pub long : length t ≡ slots
  pub kept : KeptIn slots l (in_table t) t

abbrev pub gapped : ℕ → List Figures → Table
gapped l t = table l slots (in_table t) (period_of t) (budget_of t) (hold_of t)

module _ (l : ℕ) (t : List Figures) (w : Stands l t) where
  pub lawful_gapped : Lawful (gapped l t)
  lawful_gapped = lawful_in slots l (in_table t) t w.kept

  module _ (i : ℕ) (f : Figures) where
    -- slot i is set: the others have the same servers
    pub same_others : (j : ℕ) → j ≢ i → Same (gapped l t) (gapped l (set t i f)) j
    same_others j ne =
        let e : slot_of (set t i f) j ≡ slot_of t j = get_or-set_other t i j f _ ne in
        record {
          present = ap present e;
          P = ap (λ (g : Figures). g.period.0) e;
          Q = ap (λ (g : Figures). g.budget.0) e;
          slop = refl;
          tr = λ q z d. ap (λ (g : Figures). d - (q * g.period.0 + z) / g.budget.0) e;
          rest = λ q z d. refl;
        }

    -- what is left and what is new, if anything, stands
    pub stands_set : i < slots → (present f ≡ true → Ranged f × (l / f.period.0 * f.period.0 ≡ l)) → passes (set t i f) l ≡ true
        → Stands l (set t i f)
    stands_set h new p = record {
      long = length-set t i f ∙ w.long;
      kept = record {
        few = omega arith;
        frame_pos = w.kept.frame_pos;
        servers = λ k b q. q;
        ranged = λ k b q. by k q (λ (g : Figures). Ranged g) (λ r. (new r).0) (w.kept.ranged k b);
        divides = λ k b q. by k q (λ (g : Figures). l / g.period.0 * g.period.0 ≡ l) (λ r. (new r).1) (w.kept.divides k b);
        passed = p;
      };
    }
      where
        by : (k : ℕ) → in_table (set t i f) k ≡ true → (A : Figures → Type 0) → (present f ≡ true → A f) → (in_table t k ≡ true → A (slot_of t k))
            → A (slot_of (set t i f) k)
        by k p A here there = go (ℕ_discrete k i)
          where
            go : Dec (k ≡ i) → A (slot_of (set t i f) k)
            go (yes e) =
                let q : slot_of (set t i f) k ≡ f = rw e (get_or-set_same t i f _ (omega (arith, w.long))) in
                subst A (sym q) (here (sym (ap present q) ∙ p))
            go (no z) =
                let q : slot_of (set t i f) k ≡ slot_of t k = get_or-set_other t i k f _ z in
                subst A (sym q) (there (sym (ap present q) ∙ p))

    -- a removal asks for no test
    pub stands_less : i < slots → present f ≡ false → Stands l (set t i f)
    stands_less h n = stands_set h (λ e. absurd (not_both e n)) (passes_less_one t l i f n (omega (arith, w.long)) w.kept.passed)
