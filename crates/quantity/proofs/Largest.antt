-- The greatest of a list of lengths, as `max` finds it, is the largest of their numbers: by taking the first one apart.
use Prim.Native.Nat.{ℕ, zero, suc, max}
use mathlib.Core.Path.{◌≡◌, refl, sym, ap, ◌∙◌}
use mathlib.Core.List.{List, [], ◌∷◌, map}
use lib.ListN.{length, get_or}
use Rattle.std.proofs.Common.{arith, rules}
use Rattle.std.specs.List.{fold, reduce}
use Rattle.std.specs.Option.{unwrap_or}
use Rattle.std.specs.Ordering.{max_by_ordering, nat_cmp, ord_max}
use Rattle.terms.specs.Words.{largest}
use Rattle.quantity.specs.declared.Length.{Length}
use Rattle.quantity.specs.contracts.LengthOrd.TheImpl as length_ord
use Rattle.quantity.specs.Quantity.{ticks, larger}

largest_first : (f : ℕ → ℕ) (n : ℕ) → largest f (suc n) ≡ max (f 0) (largest (λ k. f (suc k)) n)
unfolding largest
largest_first f zero = omega arith
largest_first f (suc n) = omega (arith, largest_first f n)

-- of two lengths, the one that `max` keeps
abbrev pub kept : Length → Length → Length
kept l m = max_by_ordering (nat_cmp l.0 m.0) l m

kept_is : (l m : Length) → (kept l m).0 ≡ max l.0 m.0
kept_is l m = search rules

-- it is the larger of them
pub kept_larger : (l m : Length) → kept l m ≡ larger l m
unfolding larger
kept_larger l m = ap ticks (kept_is l m)

-- and so is the `max` of two lengths, which the derived order gives
max_is : (l m : Length) → (ord_max (length_ord.ghosts).cmp l m).0 ≡ max l.0 m.0
max_is l m = search rules

pub max_larger : (l m : Length) → ord_max (length_ord.ghosts).cmp l m ≡ larger l m
unfolding larger
max_larger l m = ap ticks (max_is l m)

-- of what each element of a list says
module _ {A : Type 0} (d : A) (of : A → Length) where
  abbrev at_place : List A → ℕ → ℕ
  at_place xs k = (of (get_or xs k d)).0

  fold_largest : (l : Length) (xs : List A) → (fold kept l (map of xs)).0 ≡ max l.0 (largest (at_place xs) (length xs))
  unfolding largest
  fold_largest l [] = omega arith
  fold_largest l (x ∷ xs) = omega (arith, fold_largest (kept l (of x)) xs, kept_is l (of x), largest_first (at_place (x ∷ xs)) (length xs))

  whole_largest : (xs : List A) → unwrap_or (reduce kept (map of xs)) (ticks 0) ≡ ticks (largest (at_place xs) (length xs))
  unfolding largest
  whole_largest [] = refl
  whole_largest (x ∷ xs) = ap ticks (omega (arith, fold_largest (of x) xs, largest_first (at_place (x ∷ xs)) (length xs)))

  pub greatest_of : (xs : List A) (n : ℕ) → length xs ≡ n → unwrap_or (reduce kept (map of xs)) (ticks 0) ≡ ticks (largest (λ k. (of (get_or xs k d)).0) n)
  greatest_of xs n e = rw (sym e) (whole_largest xs)

-- of the lengths themselves
pub greatest : (ls : List Length) (n : ℕ) → length ls ≡ n → unwrap_or (reduce kept ls) (ticks 0) ≡ ticks (largest (λ k. (get_or ls k (ticks 0)).0) n)
greatest ls n e = ap (λ ms. unwrap_or (reduce kept ms) (ticks 0)) (sym (same ls)) ∙ greatest_of (ticks 0) (λ l. l) ls n e
  where
    same : (ms : List Length) → map (λ l. l) ms ≡ ms
    same [] = refl
    same (m ∷ ms) = ap (λ ns. m ∷ ns) (same ms)
