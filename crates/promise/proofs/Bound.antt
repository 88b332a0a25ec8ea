-- A started board that is one of the argument's, with what happened on it: a call that moves one slot's life makes a step of the argument.
use Prim.Native.Nat.{ℕ, ◌+◌, ◌-◌, ◌*◌, ◌/◌, ◌<◌, ◌≤◌, ◌^◌}
use mathlib.Core.Path.{◌≡◌, refl, sym, ap, ap₂, ◌∙◌}
use mathlib.Core.Logic.{◌≢◌}
use mathlib.Core.Bool.{true, false, not}
use mathlib.Core.List.{List, [], ◌++◌, append-nil}
use native.Mathlib.Omega.{arith}
use native.Mathlib.Nat.{le_antisymm, le-div_iff_mul-le}
use native.Mathlib.Decide.{dec_le, ℕ_discrete}
use lib.Dec.{leb, eqb}
use borrow.Author.Tests.{leb-false, not-false}
use lib.ListN.{length, length-set}
use lib.Seq.{get_or-set_same, get_or-set_other}
use Rattle.std.specs.Prelude.{Result, Ok, Err}
use Rattle.terms.proofs.Tests.{either, by_test}
use Rattle.quantity.specs.declared.Instant.{Instant}
use Rattle.quantity.specs.Quantity.{clock_end}
use Rattle.resources.specs.declared.Set.{Set}
use Rattle.resources.specs.Resources.{resources, has}
use Rattle.events.specs.Events.{Event}
use Rattle.refusals.specs.declared.Refusal.{Refusal}
use Rattle.refusals.specs.Refusals as refusals
use Rattle.timing.specs.declared.Figures.{Figures}
use Rattle.timing.specs.declared.Life.{Life}
use Rattle.timing.specs.Timing.{begun, is_stopped, tr, replenished}
use Rattle.timing.specs.Timing.Laws.{tr_A0, tr_least, replenished_left, replenished_state, replenished_exact}
use Rattle.admission.specs.Admission.{slots, slot_of, period_of, in_table}
use Rattle.board.specs.declared.Board.{Board}
use Rattle.board.specs.Board.{figures_at, life_at, with_life, with_sets}
use Rattle.board.specs.Calls.{standing}
use Rattle.guarantee.specs.Table.{Table}
use Rattle.guarantee.specs.Board.{View}
use Rattle.guarantee.specs.Step.{Locking, none, Bits}
use Rattle.guarantee.specs.Step as steps
use Rattle.guarantee.specs.Reached.{Reached, next}
use Rattle.guarantee.specs.History.{history}
use Rattle.guarantee.proofs.Steps.{Sound}
use Rattle.guarantee.proofs.Guarantee.{sound}
use Rattle.guarantee.proofs.Use.{Telling, Changing, calls}
use Rattle.promise.proofs.Lawful.{Kept, table_of, lawful_table}
use Rattle.promise.proofs.Naming.{server_of}
use Rattle.promise.proofs.Look.{view_of, look}

-- the checks that server calls share are passed: a slot of the table, not stopped
standing_slot : (b : Board) (i : ℕ) {j : ℕ} → standing b i ≡ Ok j → (i < slots) × (in_table b.table i ≡ true)
unfolding standing
standing_slot b i {j} =
    by_test Says (not b.running) (λ e z. absurd (cc)) (λ e.
    by_test Says (leb slots i) (λ f z. absurd (cc)) (λ f.
    by_test Says (not (in_table b.table i)) (λ g z. absurd (cc)) (λ g z. (leb-false slots i f, not-false (in_table b.table i) g))))
  where
    Says : Result ℕ Refusal → Type 0
    Says found = found ≡ Ok j → (i < slots) × (in_table b.table i ≡ true)

-- and they refuse with 1, 8 or 16: with no other number k
pub standing_no : (b : Board) (i k : ℕ) {why : Refusal} → eqb 1 k ≡ false → eqb 8 k ≡ false → eqb 16 k ≡ false → standing b i ≡ Err why
    → eqb (refusals.number_of why) k ≡ false
unfolding standing
standing_no b i k {why} one eight stopped =
    let Not : Result ℕ Refusal → Type 0 = λ found. found ≡ Err why → eqb (refusals.number_of why) k ≡ false in
    either Not (not b.running) (refused one)
    (either Not (leb slots i) (refused eight)
    (either Not (not (in_table b.table i)) (refused eight) (either Not (is_stopped (life_at b i).state) (refused stopped) (λ e. absurd (cc)))))
  where
    refused : {r : Refusal} → eqb (refusals.number_of r) k ≡ false → ◌≡◌ {A = Result ℕ Refusal} (Err r) (Err why) → eqb (refusals.number_of why) k ≡ false
    refused {r} h e = let same : r ≡ why = cc in rw same at h

module _ (n l : ℕ) (t : List Figures) (w : Kept n l t) where
  abbrev pub T : Table
  T = table_of n l t

  pub record Bound (b : Board) (es : List Event) : Type 0 where
    pub frame : b.frame.0 ≡ l
    pub runs : b.running ≡ true
    pub table : b.table ≡ t
    pub long : length b.lives ≡ slots
    pub clock : b.clock.0 ≤ clock_end
    pub locked : b.locked.0 < 2 ^ resources
    pub closed : b.closed.0 < 2 ^ resources
    pub dates : (i : ℕ) → (life_at b i).deadline.0 ≤ b.clock.0 + period_of t i
    pub reached : Reached T (look b)
    pub told : history T reached ≡ es

  -- it keeps the argument's invariants
  pub sound_bound : (b : Board) (es : List Event) → Bound b es → Sound T (look b)
  sound_bound b es B = sound T (lawful_table n l t w) B.reached

  -- nothing happened
  pub still : (b : Board) (es : List Event) → Bound b es → Bound b (es ++ [])
  still b es B = rw append-nil B

  pub figures_are : (b : Board) (es : List Event) → Bound b es → (i : ℕ) → figures_at b i ≡ slot_of t i
  figures_are b es B i = ap (λ (x : List Figures). slot_of x i) B.table

  -- the caller is a server of the table
  pub served : (b : Board) (es : List Event) → Bound b es → (i : ℕ) → in_table b.table i ≡ true → i < n
  served b es B i here = server_of n l t w i (sym (ap (λ (x : List Figures). in_table x i) B.table) ∙ here)

  -- and so is one that passes the checks that server calls share, in a slot
  pub served_standing : (b : Board) (es : List Event) → Bound b es → (i : ℕ) {j : ℕ} → standing b i ≡ Ok j → (i < slots) × (i < n)
  served_standing b es B i z = let (slot, here) = standing_slot b i z in (slot, served b es B i here)

  -- the argument's replenishment instant and replenished view are ours
  pub tr_same : (i : ℕ) → i < n → (x : Life) → (tr (slot_of t i) x).0 ≡ T.tr i x.left.0 0 x.deadline.0
  tr_same i h x = le_antisymm (tr_least f x pos (T.tr i q 0 d) (omega (arith, (lawful_table n l t w).laws.A0 (h, refl) q 0 d))) (go (dec_le d (tr f x).0))
    where
      f : Figures
      f = slot_of t i

      q : ℕ
      q = x.left.0

      d : ℕ
      d = x.deadline.0

      pos : 0 < f.budget.0
      pos = (w.ranged i h).budget_low

      go : Dec (d ≤ (tr f x).0) → d - (q * f.period.0 + 0) / f.budget.0 ≤ (tr f x).0
      go (yes k) = omega arith
      go (no z) =
          let e : d ≡ (tr f x).0 + (d - (tr f x).0) = omega arith in
          let k : (d - (tr f x).0) * f.budget.0 ≤ q * f.period.0 + 0 = omega (arith, tr_A0 f x, ap (λ (m : ℕ). f.budget.0 * m) e) in
          omega (arith, (le-div_iff_mul-le pos).1 k)

  pub renewed_view : (i : ℕ) → i < n → (s : Instant) → s.0 ≤ clock_end → view_of (replenished (slot_of t i) s) ≡ steps.replenished T i s.0 0
  renewed_view i h s k =
      let f = slot_of t i in
      rw (replenished_state f s, replenished_left f s, replenished_exact f s (w.ranged i h) (omega arith)) refl

  pub renewed_date : (i : ℕ) → i < n → (s : Instant) (now : ℕ) → s.0 ≤ now → now ≤ clock_end → (replenished (slot_of t i) s).deadline.0 ≤ now + period_of t i
  renewed_date i h s now k m = rw (replenished_exact (slot_of t i) s (w.ranged i h) (omega arith)) (omega arith)

  module _ (b : Board) (es : List Event) (B : Bound b es) (i : ℕ) (slot : i < slots) where
    -- slot i's life becomes x, and the locked resources s
    pub moved : (x : Life) (s c : Set) (k : Locking) (v v' : View) (fs : List Event) → view_of (life_at b i) ≡ v → view_of x ≡ v'
        → Changing T (look b) i v v' k fs → Bits k (has b.locked) (has s) → s.0 < 2 ^ resources → c.0 < 2 ^ resources
        → x.deadline.0 ≤ b.clock.0 + period_of t i → Bound (with_sets b i x s c) (es ++ fs)
    unfolding with_sets history
    moved x s c k v v' fs e e' change bits low high date =
        let (step, says) = steps_to in
        record {
          frame = B.frame;
          runs = B.runs;
          table = B.table;
          long = length-set b.lives i x ∙ B.long;
          clock = B.clock;
          locked = low;
          closed = high;
          dates = λ j. dated j (ℕ_discrete j i);
          reached = next B.reached step;
          told = ap₂ (λ (p q : List Event). p ++ q) B.told says;
        }
      where
        same : life_at (with_sets b i x s c) i ≡ x
        same = get_or-set_same b.lives i x begun (omega (arith, B.long))

        others : (j : ℕ) → j ≢ i → life_at (with_sets b i x s c) j ≡ life_at b j
        others j ne = get_or-set_other b.lives i j x begun ne

        steps_to : Telling T (look b) (look (with_sets b i x s c)) fs
        steps_to = calls T (look b) (look (with_sets b i x s c)) i k v v' fs e (ap view_of same ∙ e') change refl bits (λ j ne. ap view_of (others j ne))

        dated : (j : ℕ) → Dec (j ≡ i) → (life_at (with_sets b i x s c) j).deadline.0 ≤ b.clock.0 + period_of t j
        dated j (yes q) = rw (q, same) date
        dated j (no ne) = rw (others j ne) (B.dates j)

    -- only slot i's life changes
    pub lived : (x : Life) (v v' : View) (fs : List Event) → view_of (life_at b i) ≡ v → view_of x ≡ v' → Changing T (look b) i v v' none fs
        → x.deadline.0 ≤ b.clock.0 + period_of t i → Bound (with_life b i x) (es ++ fs)
    unfolding with_life with_sets
    lived x v v' fs e e' change date = moved x b.locked b.closed none v v' fs e e' change (λ r. refl) B.locked B.closed date
