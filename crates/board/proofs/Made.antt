-- An array made by a function of the index that gives h i at i is the list of h 0, h 1, ..: the calls leave the function as it was.
use Prim.Native.Nat.{ℕ, zero, suc, ◌+◌, ◌<◌, ◌≤◌}
use mathlib.Core.Path.{◌≡◌, sym, subst, ◌∙◌}
use mathlib.Core.List.{List}
use native.Mathlib.Omega.{arith}
use native.Mathlib.Decide.{ℕ_discrete}
use denote.Param.Members.{Mut}
use lib.Seq.{ext_get_or}
use Rattle.std.proofs.Common.{slice_index_or}
use Rattle.std.specs.Fn.{Called}
use Rattle.std.specs.Array.{IsFromFnResult, IsFromFnResultFrom}
use Rattle.terms.specs.Words.{list}
use Rattle.terms.proofs.Over.{list_length, list_at}

module _ {F B : Type 0} (g : Mut F (ℕ × Unit {0}) B) (f : F) (h : ℕ → B) (m : ℕ)
    (acts : (i : ℕ) (y : B) (q : F) → i < m → Called g f (i, tt) y q → (q ≡ f) × (y ≡ h i)) where
  made_at : (ys : List B) (n i : ℕ) → i + n ≤ m → IsFromFnResultFrom g f ys i n → (j : ℕ) → i ≤ j → j < i + n → (d : B) → slice_index_or ys j d ≡ h j
  made_at ys zero i l made j low high d = absurd (omega arith)
  made_at ys (suc n) i l (q, y, at, called, rest) j low high d =
      let (same, is) = acts i y q (omega arith) called in
      let later : IsFromFnResultFrom g f ys (i + 1) n = subst (λ p. IsFromFnResultFrom g p ys (i + 1) n) same rest in
      go is (λ h. made_at ys n (i + 1) (omega arith) later j h (omega arith) d) (ℕ_discrete j i)
    where
      go : y ≡ h i → (i + 1 ≤ j → slice_index_or ys j d ≡ h j) → Dec (j ≡ i) → slice_index_or ys j d ≡ h j
      go is rec (yes e) = rw e (at.1 d ∙ is)
      go is rec (no ne) = rec (omega arith)

  pub made_list : (d : B) (ys : List B) → IsFromFnResult g f ys m → ys ≡ list h m
  made_list d ys made =
      ext_get_or d ys (list h m) (made.long ∙ sym (list_length h m))
      (λ i l. made_at ys m 0 (omega arith) made.each i (omega arith) (omega (arith, made.long)) d ∙ sym (list_at h m i d (omega (arith, made.long))))
