-- What std's methods find: the place of a byte, and the stretches between spaces, one by one. The first field is what stands before the first space, and the
-- others are the fields of what stands behind it.
use Prim.Native.Nat.{ℕ, suc, ◌+◌, ◌-◌, ◌≤◌, ◌<◌}
use mathlib.Core.Path.{◌≡◌, refl, sym, ap, subst, ◌∙◌}
use native.Mathlib.Omega.{arith}
use mathlib.Core.Bool.{Bool, true, false}
use mathlib.Core.List.{List, [], ◌∷◌}
use native.Mathlib.Numerals.{add-one}
use native.Mathlib.Decide.{dec_lt}
use borrow.Author.Tests.{eq-eqb, ne_eqb, lt-ltb, le-ltb}
use lib.Dec.{ltb, eqb, leb-suc-suc}
use lib.ListN.{length, get_or, take, drop, length-drop, drop_of_length-le}
use lib.Seq.{drop-cons, drop-drop}
use Rattle.std.specs.Prelude.{cond, Option, Some, None}
use Rattle.std.specs.List.{slice_split, onto_first, position, position_or_len}
use Rattle.std.proofs.lemmas.Iterator.{YieldsList}
use Rattle.std.proofs.lemmas.List.Recursion.{is_position_or_len}
use Rattle.terms.specs.Words.{pick}
use Rattle.lines.specs.Text.{onto, fields_of, before}

-- one step of a search
pub before_here : (s : List ℕ) (b i : ℕ) → i < length s → get_or s i 0 ≡ b → before b (drop i s) ≡ 0
unfolding before
before_here s b i h e = rw (drop-cons s i 0 h) (simp (eq-eqb _ _ e))

pub before_on : (s : List ℕ) (b i : ℕ) → i < length s → (get_or s i 0 ≡ b → ⊥) → before b (drop i s) ≡ suc (before b (drop (i + 1) s))
unfolding before
before_on s b i h e = rw (drop-cons s i 0 h, add-one) (simp (ne_eqb _ _ e))

pub before_end : (s : List ℕ) (b i : ℕ) → length s ≤ i → before b (drop i s) ≡ 0
unfolding before
before_end s b i h = rw (drop_of_length-le s h)

pub before_position : (b : ℕ) (s : List ℕ) → before b s ≡ position_or_len (λ x. eqb x b) s
unfolding before
before_position b s = is_position_or_len (before b) (λ x. eqb x b) refl (λ x xs. step (eqb x b) (before b xs)) s
  where
    step : (t : Bool) (n : ℕ) → pick t 0 (suc n) ≡ cond t 0 (1 + n)
    step true n = refl
    step false n = omega arith

before_most : (b : ℕ) (s : List ℕ) → before b s ≤ length s
unfolding before
before_most b [] = omega arith
before_most b (c ∷ s) = go (eqb c b) (before_most b s)
  where
    go : (t : Bool) → before b s ≤ length s → pick t 0 (suc (before b s)) ≤ suc (length s)
    go true h = omega arith
    go false h = omega arith

module _ (b : ℕ) (s : List ℕ) where
  abbrev found : ℕ → Option ℕ
  found n = cond (ltb n (length s)) (Some n) None

  pub before_none : None ≡ position (λ x. eqb x b) s → before b s ≡ length s
  before_none e = go (dec_lt (before b s) (length s)) (subst (λ n. None ≡ found n) (sym (before_position b s)) e)
    where
      go : Dec (before b s < length s) → None ≡ found (before b s) → before b s ≡ length s
      go (yes h) e = let t = lt-ltb (before b s) (length s) h in absurd (cc)
      go (no h) e = omega (arith, before_most b s)

  pub before_some : (n : ℕ) → Some n ≡ position (λ x. eqb x b) s → (before b s ≡ n) × (n < length s)
  before_some n e = go (dec_lt (before b s) (length s)) (subst (λ m. Some n ≡ found m) (sym (before_position b s)) e)
    where
      go : Dec (before b s < length s) → Some n ≡ found (before b s) → (before b s ≡ n) × (n < length s)
      go (yes h) e = let t = lt-ltb (before b s) (length s) h in let k : before b s ≡ n = cc in (k, omega arith)
      go (no h) e = let t = le-ltb (before b s) (length s) (omega arith) in absurd (cc)

onto_same : (c : ℕ) (fs : List (List ℕ)) → onto c fs ≡ onto_first c fs
unfolding onto
onto_same c [] = refl
onto_same c (f ∷ fs) = refl

pub fields_split : (s : List ℕ) → slice_split (λ c. eqb c 32) s ≡ fields_of s
unfolding fields_of
fields_split [] = refl
fields_split (c ∷ s) = rw (fields_split s) (go (eqb c 32))
  where
    go : (t : Bool) → cond t ([] ∷ fields_of s) (onto_first c (fields_of s)) ≡ pick t ([] ∷ fields_of s) (onto c (fields_of s))
    go true = refl
    go false = sym (onto_same c (fields_of s))

-- the first field, and the others
pub fields_next : (s : List ℕ)
    → fields_of s ≡ take (before 32 s) s ∷ pick (ltb (before 32 s) (length s)) (fields_of (drop (suc (before 32 s)) s)) []
unfolding fields_of before onto
fields_next [] = refl
fields_next (c ∷ s) = go (eqb c 32) refl (fields_next s)
  where
    go : (t : Bool) → eqb c 32 ≡ t
        → fields_of s ≡ take (before 32 s) s ∷ pick (ltb (before 32 s) (length s)) (fields_of (drop (suc (before 32 s)) s)) []
        → fields_of (c ∷ s)
        ≡ take (before 32 (c ∷ s)) (c ∷ s)
        ∷ pick (ltb (before 32 (c ∷ s)) (length (c ∷ s))) (fields_of (drop (suc (before 32 (c ∷ s))) (c ∷ s))) []
    go true e ih = simp (e, lt-ltb 0 (suc (length s)) (omega arith))
    go false e ih = simp (e, ih, leb-suc-suc)

-- the field that stands at a place, where its end is found
module _ (l : List ℕ) (at end : ℕ) (within : at ≤ length l) (found : end ≡ at + before 32 (drop at l)) where
  size : end - at ≡ before 32 (drop at l)
  size = omega arith

  pub fields_more : end < length l → fields_of (drop at l) ≡ take (end - at) (drop at l) ∷ fields_of (drop (end + 1) l)
  fields_more h =
      let t = lt-ltb (before 32 (drop at l)) (length (drop at l)) (rw length-drop (omega arith)) in
      let e : at + suc (before 32 (drop at l)) ≡ end + 1 = omega arith in
      fields_next (drop at l) ∙ simp (t, drop-drop, e) (rw size)

  pub fields_last : length l ≤ end → fields_of (drop at l) ≡ take (end - at) (drop at l) ∷ []
  fields_last h =
      let t = le-ltb (before 32 (drop at l)) (length (drop at l)) (rw length-drop (omega arith)) in
      fields_next (drop at l) ∙ simp t (rw size)

-- a loop over an iterator that gives a list: it takes the list's first, and ends where nothing is left
module _ {S A B : Type 0} {steps : S → Option A → S → Type 0} {v : A → B} where
  pub yields_none : (s t : S) (ys : List B) → YieldsList steps v s ys → steps s None t → ys ≡ []
  yields_none s t [] w h = refl
  yields_none s t (y ∷ ys) w h = absurd (w.runs.0 t h)

  pub yields_some : (s t : S) (x : A) (ys : List B) → YieldsList steps v s ys → steps s (Some x) t
      → (ys ≡ v x ∷ drop 1 ys) × YieldsList steps v t (drop 1 ys)
  yields_some s t x [] w h = absurd (w.runs x t h)
  yields_some s t x (y ∷ ys) w h = let m = w.runs.1 x t h in (ap (λ z. z ∷ ys) (sym m.0), record { runs = m.1 })
