-- A line by its length and its first two bytes: where the first field is not one byte there is no letter, and so no call.
use Prim.Native.Nat.{ℕ, suc, ◌-◌, ◌≤◌, ◌<◌}
use mathlib.Core.Path.{◌≡◌, refl, sym, ◌∙◌}
use mathlib.Core.Bool.{Bool, true, false}
use mathlib.Core.List.{List, [], ◌∷◌}
use native.Mathlib.Omega.{arith}
use borrow.Author.Tests.{eq-eqb, eqb-true, ne_eqb, le-leb, lt-leb}
use lib.Dec.{eqb, leb}
use lib.ListN.{length, get_or, take, drop}
use lib.Seq.{take_all}
use Rattle.std.specs.Prelude.{Option, Some, None}
use Rattle.arrayvec.specs.ArrayVec.{ArrayVec}
use Rattle.terms.specs.Words.{pick}
use Rattle.lines.specs.Text.{onto, fields_of, are_numbers, values_of}
use Rattle.lines.specs.Calls.{asks, call_by, call_of, letter_of, fields_call, line_of, malformed}
use Rattle.lines.specs.Steps.{gathered}
use Rattle.lines.proofs.Gathering.{called_by, gathered_call}

same_either : {A : Type 0} (t : Bool) (x : A) → pick t x x ≡ x
same_either true x = refl
same_either false x = refl

-- no letter, no call
no_letter : (f : List ℕ) (fs : List (List ℕ)) → letter_of f ≡ 0 → fields_call (f ∷ fs) ≡ malformed
unfolding fields_call call_of call_by asks
no_letter f fs e = simp e (same_either (are_numbers fs) malformed)

-- a letter, and what is behind it
lettered : (c : ℕ) (fs : List (List ℕ)) → fields_call ((c ∷ []) ∷ fs) ≡ called_by c (gathered fs)
unfolding fields_call letter_of
lettered c fs = sym (gathered_call c fs)

wordy : (c d : ℕ) (fs : List (List ℕ)) → fields_call (onto c (onto d fs)) ≡ malformed
unfolding onto letter_of
wordy c d [] = no_letter (c ∷ d ∷ []) [] refl
wordy c d (f ∷ fs) = no_letter (c ∷ d ∷ f) fs (simp (ne_eqb (suc (suc (length f))) 1 (λ e. omega arith)))

either_way : (l : List ℕ) → fields_call (fields_of l) ≡ malformed → line_of l ≡ malformed
unfolding line_of
either_way l e = simp e (same_either (leb (length l) 255) malformed)

pub line_long : (l : List ℕ) → 255 < length l → line_of l ≡ malformed
unfolding line_of
line_long l h = simp (lt-leb _ _ h)

pub line_empty : (l : List ℕ) → length l ≡ 0 → line_of l ≡ malformed
unfolding fields_of letter_of
line_empty [] h = either_way [] (no_letter [] [] refl)
line_empty (c ∷ l) h = absurd (omega arith)

pub line_spaced : (l : List ℕ) → (length l ≡ 0 → ⊥) → get_or l 0 0 ≡ 32 → line_of l ≡ malformed
unfolding fields_of letter_of
line_spaced [] h e = absurd (h refl)
line_spaced (c ∷ l) h e = either_way (c ∷ l) (simp (eq-eqb c 32 e) (no_letter [] (fields_of l) refl))

-- a space is no letter
spaced : (n : Option (ArrayVec ℕ)) → called_by 32 n ≡ malformed
unfolding call_of call_by asks
spaced None = refl
spaced (Some n) = refl

pub line_alone : (l : List ℕ) → 1 ≤ length l → length l < 2 → line_of l ≡ call_of (get_or l 0 0) []
unfolding line_of fields_of onto letter_of gathered are_numbers values_of
line_alone [] h k = absurd (omega arith)
line_alone (c ∷ []) h k = go (eqb c 32) refl
  where
    go : (t : Bool) → eqb c 32 ≡ t
        → fields_call (pick t ([] ∷ ([] ∷ [])) ((c ∷ []) ∷ [])) ≡ call_of c []
    go true e = rw (eqb-true c 32 e) (no_letter [] ([] ∷ []) refl ∙ sym (spaced (Some (record { items = [] }))))
    go false e = lettered c []
line_alone (c ∷ d ∷ l) h k = absurd (omega arith)

pub line_numbers : (l : List ℕ) → 2 ≤ length l → length l ≤ 255 → get_or l 1 0 ≡ 32
    → line_of l ≡ called_by (get_or l 0 0) (gathered (fields_of (take (length l - 2) (drop 2 l))))
unfolding line_of fields_of onto letter_of
line_numbers [] h k f = absurd (omega arith)
line_numbers (c ∷ []) h k f = absurd (omega arith)
line_numbers (c ∷ d ∷ l) h k f =
    rw (take_all (suc (suc (length l)) - 2) l (omega arith)) (simp (le-leb _ _ k, eq-eqb d 32 f) (go (eqb c 32) refl))
  where
    go : (t : Bool) → eqb c 32 ≡ t
        → fields_call (pick t ([] ∷ [] ∷ fields_of l) ((c ∷ []) ∷ fields_of l)) ≡ called_by c (gathered (fields_of l))
    go true e = rw (eqb-true c 32 e) (no_letter [] ([] ∷ fields_of l) refl ∙ sym (spaced (gathered (fields_of l))))
    go false e = lettered c (fields_of l)

pub line_wordy : (l : List ℕ) → (length l ≡ 1 → ⊥) → (2 ≤ length l → get_or l 1 0 ≡ 32 → ⊥) → line_of l ≡ malformed
unfolding fields_of letter_of
line_wordy [] h f = line_empty [] refl
line_wordy (c ∷ []) h f = absurd (h refl)
line_wordy (c ∷ d ∷ l) h f = either_way (c ∷ d ∷ l) (simp (ne_eqb d 32 (f (omega arith))) (go (eqb c 32)))
  where
    go : (t : Bool) → fields_call (pick t ([] ∷ onto d (fields_of l)) (onto c (onto d (fields_of l)))) ≡ malformed
    go true = no_letter [] (onto d (fields_of l)) refl
    go false = wordy c d (fields_of l)
