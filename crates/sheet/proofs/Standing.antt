-- A table whose servers stand in the slots below n, with no gap: one more server goes to slot n, and the sheet lists them.
use Prim.Native.Nat.{ℕ, zero, suc, ◌+◌, ◌-◌, ◌<◌, ◌≤◌}
use mathlib.Core.Path.{◌≡◌, refl, sym, ap, ◌∙◌}
use mathlib.Core.Logic.{⊎_elim}
use mathlib.Core.Bool.{Bool, true, false, not}
use mathlib.Core.List.{List, [], ◌∷◌, ◌++◌, append-nil}
use lib.ListN.{length, set, replicate, length-set}
use lib.Seq.{get_or-set_same, get_or-set_other}
use native.Mathlib.Omega.{arith}
use native.Mathlib.Decide.{dec_le}
use Rattle.terms.specs.Words.{pick, list}
use Rattle.terms.proofs.Over.{last_or_below}
use Rattle.timing.specs.declared.Figures.{Figures}
use Rattle.timing.specs.Timing.{present}
use Rattle.admission.specs.Admission.{slots, slot_of, in_table, nobody}
use Rattle.std.specs.Prelude.{Some}
use Rattle.board.specs.Calls.{vacancy}
use Rattle.board.proofs.Search.{no_slot, same_slot, search_none, search_first}
use Rattle.sheet.specs.Sheet.{body_of, bodies_of}

pub record Standing (n : ℕ) (t : List Figures) : Type 0 where
  pub few : n ≤ slots
  pub long : length t ≡ slots
  pub servers : (k : ℕ) → k < n → in_table t k ≡ true
  pub rest : (k : ℕ) → n ≤ k → in_table t k ≡ false

empty_table : (n k : ℕ) → in_table (replicate n nobody) k ≡ false
empty_table zero k = refl
empty_table (suc n) zero = refl
empty_table (suc n) (suc k) = empty_table n k

pub standing_empty : Standing 0 (replicate slots nobody)
standing_empty = record {
  few = omega arith;
  long = refl;
  servers = λ k z. absurd (omega arith);
  rest = λ k z. empty_table slots k;
}

module _ {n : ℕ} {t : List Figures} (w : Standing n t) where
  -- the lowest slot that is not in the table
  pub vacant_at : {i : ℕ} → vacancy t ≡ Some i → (i ≡ n) × (n < slots)
  unfolding vacancy
  vacant_at {i} e = go (dec_le slots n)
    where
      go : Dec (slots ≤ n) → (i ≡ n) × (n < slots)
      go (yes h) = absurd (no_slot (sym (search_none (λ k. not (in_table t k)) slots (λ k l. ap not (w.servers k (omega arith)))) ∙ e))
      go (no z) =
          let below = search_none (λ k. not (in_table t k)) n (λ k l. ap not (w.servers k l)) in
          let here = search_first (λ k. not (in_table t k)) slots n (omega arith) below (ap not (w.rest n (omega arith))) in
          (same_slot (sym e ∙ here), omega arith)

  -- with one more server
  module _ (f : Figures) (l : n < slots) where
    pub slot_same : slot_of (set t n f) n ≡ f
    slot_same = get_or-set_same t n f _ (omega (arith, w.long))

    pub slot_other : (k : ℕ) → (k ≡ n → ⊥) → slot_of (set t n f) k ≡ slot_of t k
    slot_other k ne = get_or-set_other t n k f _ ne

    pub standing_with : present f ≡ true → Standing (suc n) (set t n f)
    standing_with p = record {
      few = omega arith;
      long = length-set t n f ∙ w.long;
      servers = λ k z. ⊎_elim (λ (e : k ≡ n). rw e (ap (λ (g : Figures). present g) slot_same ∙ p))
          (λ (m : k < n). ap (λ (g : Figures). present g) (slot_other k (λ e. omega arith)) ∙ w.servers k m) (last_or_below z);
      rest = λ k z. ap (λ (g : Figures). present g) (slot_other k (λ e. omega arith)) ∙ w.rest k (omega arith);
    }

  -- the bodies of the sheet are those of the slots below n
  bodies_list : (k : ℕ) → k ≤ n → bodies_of t k ≡ list (λ j. body_of (slot_of t j)) k
  unfolding bodies_of list
  bodies_list zero l = refl
  bodies_list (suc k) l =
      let f = slot_of t k in
      ap (λ (p : Bool). bodies_of t k ++ pick p (body_of f ∷ []) []) (w.servers k (omega arith))
      ∙ ap (λ l. l ++ (body_of f ∷ [])) (bodies_list k (omega arith))

  bodies_beyond : (k : ℕ) → bodies_of t (n + k) ≡ bodies_of t n
  unfolding bodies_of
  bodies_beyond zero = let e : n + 0 ≡ n = omega arith in ap (bodies_of t) e
  bodies_beyond (suc k) =
      let e : n + suc k ≡ suc (n + k) = omega arith in
      let f = slot_of t (n + k) in
      ap (bodies_of t) e
      ∙ ap (λ (p : Bool). bodies_of t (n + k) ++ pick p (body_of f ∷ []) []) (w.rest (n + k) (omega arith))
      ∙ append-nil (bodies_of t (n + k)) ∙ bodies_beyond k

  pub bodies_all : bodies_of t slots ≡ list (λ j. body_of (slot_of t j)) n
  bodies_all =
      let e : n + (slots - n) ≡ slots = omega (arith, w.few) in
      ap (bodies_of t) (sym e) ∙ bodies_beyond (slots - n) ∙ bodies_list n (omega arith)
