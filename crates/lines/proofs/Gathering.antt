-- Gathering field by field comes to all numbers, or to none: by going through the fields with the numbers gathered so far.
use Prim.Native.Nat.{ℕ, suc, ◌+◌, ◌≤◌, ◌<◌}
use mathlib.Core.Path.{◌≡◌, refl, sym, ap, ◌∙◌}
use mathlib.Core.Bool.{Bool, true, false, ◌&&◌}
use mathlib.Core.List.{List, [], ◌∷◌, ◌++◌, append-nil}
use native.Mathlib.Omega.{arith}
use borrow.Author.Tests.{le-leb, lt-leb, leb-false, ne_eqb}
use lib.Dec.{leb}
use lib.ListN.{length, get_or, length-append}
use lib.Seq.{append_snoc, ext_get_or}
use Rattle.std.specs.Prelude.{Option, Some, None, Result, Ok, Err}
use Rattle.std.specs.Result.{IsOk, OnOk, result_ok}
use Rattle.arrayvec.specs.ArrayVec.{ArrayVec}
use Rattle.terms.specs.Words.{pick, list}
use Rattle.terms.proofs.Over.{list_length, list_at}
use Rattle.lines.specs.declared.Line.{Line}
use Rattle.lines.specs.declared.Call.TheVariants.{Admit}
use Rattle.lines.specs.Text.{is_number, value_of, are_numbers, values_of}
use Rattle.lines.specs.Calls.{asks, call_by, call_of, malformed}
use Rattle.lines.specs.Steps.{number_of, gathered}
use Rattle.lines.proofs.Decimal.{and_false}

-- all of them, if a test holds
abbrev held_if : Bool → List ℕ → Option (ArrayVec ℕ)
held_if t v = pick t (Some (record { items = v })) None

-- numbers, and those of the fields behind them
abbrev pub gathered_behind : List ℕ → List (List ℕ) → Option (ArrayVec ℕ)
gathered_behind v fs = held_if (are_numbers fs && leb (length v + length fs) 10) (v ++ values_of fs)

pub gathered_whole : (fs : List (List ℕ)) → gathered_behind [] fs ≡ gathered fs
unfolding gathered
gathered_whole fs = let e : 0 + length fs ≡ length fs = omega arith in rw e refl

-- what a result's clause says at a value, where the value is what `ok` gave
pub on_ok : {T E P : Type 0} (r : Result T E) (x : T) → Some x ≡ result_ok r → OnOk r P → IsOk r × P
on_ok (Ok y) x e h = (refl, h)
on_ok (Err y) x e h = absurd (cc)

-- one step of gathering: a field that is no number, a number that finds no room, and one that does
module _ (v : List ℕ) (f : List ℕ) (fs gs : List (List ℕ)) (first : gs ≡ f ∷ fs) where
  pub gathered_unread : None ≡ number_of f → gathered_behind v gs ≡ None
  unfolding number_of are_numbers
  gathered_unread e = rw first (go (is_number f) e)
    where
      go : (t : Bool) → None ≡ pick t (Some (value_of f)) None
          → held_if ((t && are_numbers fs) && leb (length v + suc (length fs)) 10) (v ++ values_of (f ∷ fs)) ≡ None
      go true e = absurd (cc)
      go false e = refl

  pub gathered_full : 10 ≤ length v → gathered_behind v gs ≡ None
  gathered_full h = rw first (simp (lt-leb (length v + suc (length fs)) 10 (omega arith), and_false))

  pub gathered_more : (x : ℕ) → Some x ≡ number_of f → gathered_behind v gs ≡ gathered_behind (v ++ (x ∷ [])) fs
  unfolding number_of are_numbers values_of
  gathered_more x e = rw first (go (is_number f) e)
    where
      go : (t : Bool) → Some x ≡ pick t (Some (value_of f)) None
          → held_if ((t && are_numbers fs) && leb (length v + suc (length fs)) 10) (v ++ (value_of f ∷ values_of fs))
          ≡ gathered_behind (v ++ (x ∷ [])) fs
      go true e =
          let k : x ≡ value_of f = cc in
          let m : length (v ++ (value_of f ∷ [])) + length fs ≡ length v + suc (length fs) = rw length-append (omega arith) in
          rw k (simp (m, append_snoc))
      go false e = absurd (cc)

pub gathered_end : (v : List ℕ) (gs : List (List ℕ)) → gs ≡ [] → length v ≤ 10 → gathered_behind v gs ≡ Some (record { items = v })
unfolding are_numbers values_of
gathered_end v gs e h = rw e (simp (le-leb (length v + 0) 10 (omega arith), append-nil))

values_length : (fs : List (List ℕ)) → length (values_of fs) ≡ length fs
unfolding values_of
values_length [] = refl
values_length (f ∷ fs) = ap suc (values_length fs)

-- more than ten numbers are no call's
too_many : (c n : ℕ) (f : ℕ → ℕ) → 10 < n → call_by c n f ≡ malformed
unfolding call_by asks
too_many c n f h =
    simp (ne_eqb n 0 (λ e. omega arith), ne_eqb n 1 (λ e. omega arith), ne_eqb n 2 (λ e. omega arith), ne_eqb n 10 (λ e. omega arith), and_false)

-- the call that a letter asks for with what is gathered
abbrev pub called_by : ℕ → Option (ArrayVec ℕ) → Line
called_by c None = malformed
called_by c (Some n) = call_of c n.items

pub gathered_call : (c : ℕ) (fs : List (List ℕ)) → called_by c (gathered fs) ≡ pick (are_numbers fs) (call_of c (values_of fs)) malformed
unfolding gathered call_of
gathered_call c fs = go (are_numbers fs) (leb (length fs) 10) refl
  where
    go : (t l : Bool) → leb (length fs) 10 ≡ l
        → called_by c (held_if (t && l) (values_of fs)) ≡ pick t (call_of c (values_of fs)) malformed
    go true true e = refl
    go true false e =
        sym (too_many c (length (values_of fs)) (λ i. get_or (values_of fs) i 0) (omega (arith, values_length fs, leb-false (length fs) 10 e)))
    go false l e = refl

-- an admission's period and budget, and what is behind them
module _ (period budget : ℕ) (holds : List ℕ) where
  behind : ℕ → ℕ
  behind r = get_or (period ∷ budget ∷ holds) (2 + r) 0

  holds_behind : length holds ≡ 8 → list behind 8 ≡ holds
  unfolding behind
  holds_behind e =
      ext_get_or 0 (list behind 8) holds (list_length behind 8 ∙ sym e)
      (λ i l. let k : i < 8 = rw list_length at l in
      let n : 2 + i ≡ suc (suc i) = omega arith in
      list_at behind 8 i 0 k ∙ rw n refl)

  pub admission_eight : length holds ≡ 8 → call_of 65 (period ∷ budget ∷ holds) ≡ record { call = Admit period budget; holds = holds }
  unfolding call_of call_by asks behind
  admission_eight e =
      simp e (ap (λ (h : List ℕ). record { call = Admit period budget; holds = h }) (holds_behind e))

  pub admission_other : (length holds ≡ 8 → ⊥) → call_of 65 (period ∷ budget ∷ holds) ≡ malformed
  unfolding call_of call_by asks
  admission_other h = simp (ne_eqb (suc (suc (length holds))) 10 (λ e. h (omega arith)))
