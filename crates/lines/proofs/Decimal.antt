-- Reading digit by digit comes to the number that the digits say: what was passed only grows, so what is too large once stays so.
use Prim.Native.Nat.{ℕ, suc, ◌+◌, ◌-◌, ◌*◌, ◌≤◌, ◌<◌}
use mathlib.Core.Path.{◌≡◌, refl, sym}
use mathlib.Core.Bool.{Bool, true, false, not, ◌&&◌, ◌||◌}
use mathlib.Core.List.{List, [], ◌∷◌}
use native.Mathlib.Omega.{arith}
use native.Mathlib.Numerals.{add-one}
use borrow.Author.Tests.{le-leb, lt-leb, lt-ltb, ne_eqb, leb-true, leb-false}
use lib.Dec.{leb, eqb}
use lib.ListN.{length, get_or, drop, drop_of_length-le}
use lib.Seq.{drop-cons}
use Rattle.std.specs.Prelude.{Some, None}
use Rattle.std.specs.Option.{option_and_then}
use Rattle.terms.specs.Words.{pick}
use Rattle.lines.specs.Text.{is_digit, is_number, are_digits, value_of, value_from, largest_number}
use Rattle.lines.specs.Steps.{number_of, pushed, pushed_all}

pub and_false : (x : Bool) → (x && false) ≡ false
and_false true = refl
and_false false = refl

or_true : (x : Bool) → (x || true) ≡ true
or_true true = refl
or_true false = refl

-- a list of one
pub alone : (s : List ℕ) → length s ≡ 1 → s ≡ get_or s 0 0 ∷ []
alone [] h = absurd (omega arith)
alone (c ∷ []) h = refl
alone (c ∷ d ∷ s) h = absurd (omega arith)

pub value_from_grows : (s : List ℕ) (v : ℕ) → v ≤ value_from v s
unfolding value_from
value_from_grows [] v = omega arith
value_from_grows (c ∷ s) v = omega (arith, value_from_grows s (v * 10 + (c - 48)))

-- one step of reading
pub pushed_all_next : (s : List ℕ) (n i : ℕ) → i < length s
    → pushed_all n (drop i s) ≡ option_and_then (λ m. pushed_all m (drop (i + 1) s)) (pushed n (get_or s i 0))
unfolding pushed_all
pushed_all_next s n i h = rw (drop-cons s i 0 h, add-one)

pub pushed_all_some : (s : List ℕ) (n m i : ℕ) → i < length s → Some m ≡ pushed n (get_or s i 0)
    → pushed_all n (drop i s) ≡ pushed_all m (drop (i + 1) s)
unfolding pushed_all
pushed_all_some s n m i h e = rw (drop-cons s i 0 h, add-one, ← e) refl

pub pushed_all_none : (s : List ℕ) (n i : ℕ) → i < length s → None ≡ pushed n (get_or s i 0) → pushed_all n (drop i s) ≡ None
unfolding pushed_all
pushed_all_none s n i h e = rw (drop-cons s i 0 h, ← e) refl

pub pushed_all_end : (s : List ℕ) (n i : ℕ) → length s ≤ i → pushed_all n (drop i s) ≡ Some n
unfolding pushed_all
pushed_all_end s n i h = rw (drop_of_length-le s h)

pub pushed_all_is : (s : List ℕ) (v : ℕ) → v ≤ largest_number
    → pushed_all v s ≡ pick (are_digits s && leb (value_from v s) largest_number) (Some (value_from v s)) None
unfolding pushed_all pushed are_digits value_from
pushed_all_is [] v h = simp (le-leb _ _ h)
pushed_all_is (c ∷ s) v h = go (is_digit c) (leb (v * 10 + (c - 48)) largest_number) refl refl (pushed_all_is s (v * 10 + (c - 48)))
  where
    go : (d l : Bool) → is_digit c ≡ d → leb (v * 10 + (c - 48)) largest_number ≡ l
        → (v * 10 + (c - 48) ≤ largest_number
        → pushed_all (v * 10 + (c - 48)) s
        ≡ pick (are_digits s && leb (value_from (v * 10 + (c - 48)) s) largest_number) (Some (value_from (v * 10 + (c - 48)) s)) None)
        → option_and_then (λ m. pushed_all m s) (pushed v c)
        ≡ pick ((is_digit c && are_digits s) && leb (value_from (v * 10 + (c - 48)) s) largest_number)
        (Some (value_from (v * 10 + (c - 48)) s)) None
    go false l ed el ih = simp ed
    go true true ed el ih = simp (ed, el) (ih (leb-true _ _ el))
    go true false ed el ih =
        let f = lt-leb (value_from (v * 10 + (c - 48)) s) largest_number
        (omega (arith, value_from_grows s (v * 10 + (c - 48)), leb-false (v * 10 + (c - 48)) largest_number el)) in
        simp (ed, el, f, and_false)

-- a field by its length and its first digit
pub number_empty : (s : List ℕ) → length s ≡ 0 → number_of s ≡ None
unfolding number_of is_number
number_empty [] h = refl
number_empty (c ∷ s) h = absurd (omega arith)

pub number_zero : (s : List ℕ) → length s ≡ 1 → get_or s 0 0 ≡ 48 → number_of s ≡ Some 0
unfolding number_of is_number are_digits value_of value_from
number_zero s h e = rw (alone s h, e)

pub number_led : (s : List ℕ) → 2 ≤ length s → get_or s 0 0 ≡ 48 → number_of s ≡ None
unfolding number_of is_number
number_led s h e = simp (e, ne_eqb (length s) 1 (λ k. omega arith), and_false)

pub number_plain : (s : List ℕ) → (length s ≡ 0 → ⊥) → (2 ≤ length s → get_or s 0 0 ≡ 48 → ⊥) → number_of s ≡ pushed_all 0 s
unfolding number_of is_number value_of
number_plain [] h e = absurd (h refl)
number_plain (c ∷ []) h e = simp (or_true (not (eqb c 48))) (sym (pushed_all_is (c ∷ []) 0 (omega arith)))
number_plain (c ∷ d ∷ s) h e =
    simp (lt-ltb 0 (suc (suc (length s))) (omega arith), ne_eqb c 48 (e (omega arith))) (sym (pushed_all_is (c ∷ d ∷ s) 0 (omega arith)))
