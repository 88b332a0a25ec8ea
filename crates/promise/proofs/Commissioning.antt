-- Every board that opening and admitting lead to has a lawful table: each admission was judged, and leaves the earlier figures as they were.
use Prim.Native.Nat.{ℕ, suc, ◌*◌, ◌/◌, ◌<◌, ◌≤◌}
use mathlib.Core.Path.{◌≡◌, refl, sym, ap, subst, ◌∙◌}
use mathlib.Core.Logic.{⊎_elim}
use mathlib.Core.Bool.{true, not}
use mathlib.Core.List.{List}
use native.Mathlib.Omega.{arith}
use lib.ListN.{set, replicate}
use borrow.Author.Tests.{lt-ltb, ne_eqb}
use Rattle.terms.proofs.Over.{last_or_below}
use Rattle.terms.proofs.Tests.{not_both}
use Rattle.quantity.specs.declared.Length.{Length}
use Rattle.quantity.specs.Quantity.{length_of}
use Rattle.quantity.proofs.Laws.{length_of_exact}
use Rattle.timing.specs.declared.Figures.{Figures}
use Rattle.timing.specs.Timing.{present, Ranged}
use Rattle.admission.specs.Admission.{slots, slot_of, placed, figures_of, nobody}
use Rattle.admission.proofs.Laws.{passes_in}
use Rattle.board.specs.declared.Board.{Board}
use Rattle.board.specs.Calls.{fresh, admitted}
use Rattle.guarantee.specs.Lawful.{Lawful}
use Rattle.sheet.specs.Commissioned.{Commissioned, opening, admission}
use Rattle.board.proofs.Commissions.{number, open_done, open_low, Done, admit_done}
use Rattle.sheet.proofs.Standing.{Standing, standing_empty, vacant_at, slot_same, slot_other, standing_with}
use Rattle.promise.proofs.Lawful.{Kept, table_of, lawful_table}

-- nobody is in the table yet
pub kept_fresh : (frame : ℕ) → 1 ≤ frame → frame ≤ 1000000000 → Kept 0 (length_of frame).0 (replicate slots nobody)
kept_fresh frame low high = record {
  standing = standing_empty;
  frame_pos = omega (arith, ap (λ (l : Length). l.0) (length_of_exact frame (omega arith)));
  frame_high = omega (arith, ap (λ (l : Length). l.0) (length_of_exact frame (omega arith)));
  ranged = λ k h. absurd (omega arith);
  divides = λ k h. absurd (omega arith);
  passed = passes_in (replicate slots nobody) (length_of frame).0 (λ k h e. absurd (not_both e (standing_empty.rest k (omega arith))));
}

-- a newcomer in slot n, the others as they were
placed_at : (t : List Figures) (n : ℕ) (f : Figures) → n < slots → placed t n f ≡ set t n f
unfolding placed
placed_at t n f h = simp (lt-ltb _ _ h)

module _ (n : ℕ) (b : Board) (p q : ℕ) (hs : List ℕ) (k : Kept n b.frame.0 b.table) where
  abbrev f : Figures
  f = figures_of p q hs

  kept_placed : (i : ℕ) → i ≡ n → n < slots → Done b p q hs i (admitted b p q hs) → Kept (suc n) b.frame.0 (placed b.table i f)
  kept_placed i e few d =
      let t : placed b.table i f ≡ set b.table n f = ap (λ (m : ℕ). placed b.table m f) e ∙ placed_at b.table n f few in
      record {
        standing = subst (Standing (suc n)) (sym t) (standing_with k.standing f few here);
        frame_pos = k.frame_pos;
        frame_high = k.frame_high;
        ranged = λ m h. each (λ (g : Figures). Ranged g) few t d.newcomer.ranged k.ranged m h;
        divides = λ m h. each (λ (g : Figures). b.frame.0 / g.period.0 * g.period.0 ≡ b.frame.0) few t d.newcomer.divides k.divides m h;
        passed = d.newcomer.passed;
      }
    where
      -- the newcomer is in the table: its period is not 0
      here : present f ≡ true
      here = let z : f.period.0 ≡ 0 → ⊥ = λ q. omega (arith, d.newcomer.ranged.period_low) in ap not (ne_eqb _ _ z)

      -- what holds of the newcomer and of those before it
      each : (P : Figures → Type 0) → n < slots → placed b.table i f ≡ set b.table n f → P f → ((m : ℕ) → m < n → P (slot_of b.table m))
          → (m : ℕ) → m < suc n → P (slot_of (placed b.table i f) m)
      each P few t new old m h =
          subst P (sym (ap (λ (l : List Figures). slot_of l m) t))
          (⊎_elim (λ (z : m ≡ n). subst P (sym (ap (λ (j : ℕ). slot_of (set b.table n f) j) z ∙ slot_same k.standing f few)) new)
          (λ (z : m < n). subst P (sym (slot_other k.standing f few m (λ y. omega arith))) (old m z)) (last_or_below h))

  -- one server more, and nothing else of the board
  pub record More (d : Board) : Type 0 where
    pub more : Kept (suc n) d.frame.0 d.table
    pub phase : d.running ≡ b.running
    pub lives : d.lives ≡ b.lives
    pub clock : d.clock ≡ b.clock
    pub locked : d.locked ≡ b.locked
    pub closed : d.closed ≡ b.closed

  pub kept_admitted : number (admitted b p q hs) ≡ 0 → More (admitted b p q hs).board
  kept_admitted e =
      let (i, v, d) = admit_done b p q hs e in
      let (same, few) = vacant_at k.standing v in
      subst More (sym d.next) (record { more = kept_placed i same few d; phase = refl; lives = refl; clock = refl; locked = refl; closed = refl })

pub kept : {n : ℕ} {b : Board} → Commissioned n b → Kept n b.frame.0 b.table
unfolding fresh
kept (opening b frame e) =
    let (high, q) = open_done b frame e in
    subst (λ (d : Board). Kept 0 d.frame.0 d.table) (sym q) (kept_fresh frame (open_low b frame e) high)
kept (admission {n} {b} p q hs w len e) = (kept_admitted n b p q hs (kept w) e).more

-- the argument's laws hold of its table
pub lawful : {n : ℕ} {b : Board} → Commissioned n b → Lawful (table_of n b.frame.0 b.table)
lawful {n} {b} w = lawful_table n b.frame.0 b.table (kept w)
