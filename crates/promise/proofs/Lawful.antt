-- A table that admission let pass is lawful for the argument of promise 3: the load, the waits and the ranges are the same in its words.
use Prim.Native.Nat.{ℕ, ◌*◌, ◌/◌, ◌<◌, ◌≤◌}
use mathlib.Core.Path.{◌≡◌, refl}
use mathlib.Core.Logic.{◌⊎◌, inl, inr}
use mathlib.Core.Bool.{Bool, true}
use mathlib.Core.List.{List}
use native.Mathlib.Omega.{arith}
use Rattle.quantity.specs.Quantity.{largest_frame}
use Rattle.timing.specs.declared.Figures.{Figures}
use Rattle.timing.specs.Timing.{Ranged}
use Rattle.admission.specs.Admission.{slots, slot_of, period_of, budget_of, hold_of, in_table, load, passes, Ranges}
use Rattle.admission.specs.Admission.Laws.{load_parts}
use Rattle.admission.proofs.Laws.{ADM}
use Rattle.sheet.proofs.Standing.{Standing}
use Rattle.guarantee.specs.Table.{Table, Wait, nobody, holder}
use Rattle.guarantee.specs.Lawful.{Lawful}
use Rattle.guarantee.specs.Table as abstract
use Rattle.guarantee.specs.Servers.{Servers, plain}
use Rattle.guarantee.specs.TableDividing.{table}
use Rattle.guarantee.proofs.TableForm.{plain_limits}
use Rattle.guarantee.proofs.TableDividing.{passed_lawful}

-- what admission keeps of a table of n servers and a frame l
pub record Kept (n l : ℕ) (t : List Figures) : Type 0 where
  pub standing : Standing n t
  pub frame_pos : 0 < l
  pub frame_high : l ≤ largest_frame
  pub ranged : (k : ℕ) → k < n → Ranged (slot_of t k)
  pub divides : (k : ℕ) → k < n → l / period_of t k * period_of t k ≡ l
  pub passed : passes t l ≡ true

-- the same of the servers of a table wherever they stand: in the slots below n for which `here` holds
pub record KeptIn (n l : ℕ) (here : ℕ → Bool) (t : List Figures) : Type 0 where
  pub few : n ≤ slots
  pub frame_pos : 0 < l
  pub servers : (i : ℕ) → i < n → here i ≡ true → in_table t i ≡ true
  pub ranged : (i : ℕ) → i < n → here i ≡ true → Ranged (slot_of t i)
  pub divides : (i : ℕ) → i < n → here i ≡ true → l / period_of t i * period_of t i ≡ l
  pub passed : passes t l ≡ true

module _ (n l : ℕ) (here : ℕ → Bool) (t : List Figures) (w : KeptIn n l here t) where
  abbrev T : Table
  T = table l n here (period_of t) (budget_of t) (hold_of t)

  slot : {i : ℕ} → i < n → i < slots
  slot h = omega (arith, w.few)

  -- the argument's load is within ours, and its waits are ours
  load_same : (p : ℕ) → abstract.load T p ≤ load t l p
  unfolding abstract.load
  load_same p = load_parts t l p n here w.few w.servers

  wait_same : (p h : ℕ) → Wait T p h → (h ≡ 0) ⊎ Ranges t p h
  wait_same p h nobody = inl refl
  wait_same p h (holder {j} {r} {x} b c e u m) = inr record {
    j = j;
    r = r;
    x = x;
    j_slot = slot b.0;
    j_longer = c;
    x_slot = slot e.0;
    x_present = w.servers x e.0 e.1;
    x_shorter = m;
    x_uses = u;
    is = refl;
  }

  -- the argument's laws of such a table
  pub lawful_in : Lawful T
  lawful_in = passed_lawful l n here (period_of t) (budget_of t) (hold_of t) (record {
    limits = plain_limits n here (period_of t) (budget_of t) (hold_of t)
        (λ i h. (w.ranged i h.0 h.1).period_low)
        (λ i h. (w.ranged i h.0 h.1).budget_low)
        (λ i h r. (w.ranged i h.0 h.1).holds_high r);
    frame_pos = w.frame_pos;
    divides = λ {i} h. w.divides i h.0 h.1;
    admission = λ {k} {h} b z.
        omega (
          arith,
          load_same (period_of t k),
          ADM t l w.passed k h (slot b.0) (w.servers k b.0 b.1) (wait_same (period_of t k) h z),
        );
  })

-- our table: n servers, in the first n slots
module _ (n l : ℕ) (t : List Figures) where
  abbrev pub servers_of : Servers
  servers_of = plain n (λ i. true) (period_of t) (budget_of t) (hold_of t)

  abbrev pub table_of : Table
  table_of = table l n (λ i. true) (period_of t) (budget_of t) (hold_of t)

  pub lawful_table : Kept n l t → Lawful table_of
  lawful_table w = lawful_in n l (λ i. true) t (record {
    few = w.standing.few;
    frame_pos = w.frame_pos;
    servers = λ i h e. w.standing.servers i h;
    ranged = λ i h e. w.ranged i h;
    divides = λ i h e. w.divides i h;
    passed = w.passed;
  })
