-- The numbers of a body that figures were written as are those figures: each stands in its four bytes.
use Prim.Native.Nat.{ℕ, zero, suc, ◌+◌, ◌*◌, ◌<◌}
use mathlib.Core.Path.{◌≡◌, sym, ap, ◌∙◌}
use mathlib.Core.Logic.{⊎_elim}
use mathlib.Core.List.{List, ◌++◌}
use lib.ListN.{take, drop, length-drop}
use lib.Seq.{drop-drop, take_all, take_at, drop_at, take-append-le, drop-append-le}
use native.Mathlib.Omega.{arith}
use Rattle.terms.proofs.Over.{last_or_below}
use Rattle.timing.specs.declared.Figures.{Figures}
use Rattle.timing.specs.Timing.{hold}
use Rattle.fields.specs.Numbers.{bytes_of, number_in}
use Rattle.fields.proofs.Numbers.{bytes_length, number_in_lem, number_kept}
use Rattle.sheet.specs.Sheet.{holds_of, body_of, number_at}
use Rattle.sheet.proofs.Laws.{holds_length}

-- the number of four bytes that a number was written as
pub word_back : (l : List ℕ) (x : ℕ) → l ≡ bytes_of 4 x → x < 4294967296 → number_in 4 l ≡ x
word_back l x e h = ap (number_in 4) e ∙ number_in_lem 4 (bytes_of 4 x) (bytes_length 4 x) ∙ number_kept 4 x h

module _ (f : Figures) where
  hold_part : (n r : ℕ) → r < n → take 4 (drop (4 * r) (holds_of f n)) ≡ bytes_of 4 (hold f r).0
  unfolding holds_of
  hold_part zero r l = absurd (omega arith)
  hold_part (suc n) r l = ⊎_elim last (λ m. before m (hold_part n r m)) (last_or_below l)
    where
      last : r ≡ n → take 4 (drop (4 * r) (holds_of f n ++ bytes_of 4 (hold f n).0)) ≡ bytes_of 4 (hold f r).0
      last e =
          let w = bytes_of 4 (hold f n).0 in
          rw e (ap (take 4) (drop_at (holds_of f n) w (4 * n) (holds_length f n)) ∙ take_all 4 w (omega (arith, bytes_length 4 (hold f n).0)))

      before : r < n → take 4 (drop (4 * r) (holds_of f n)) ≡ bytes_of 4 (hold f r).0
          → take 4 (drop (4 * r) (holds_of f n ++ bytes_of 4 (hold f n).0)) ≡ bytes_of 4 (hold f r).0
      before m is =
          let w = bytes_of 4 (hold f n).0 in
          let long = holds_length f n in
          ap (take 4) (drop-append-le (4 * r) (holds_of f n) w (omega arith))
          ∙ take-append-le 4 (drop (4 * r) (holds_of f n)) w (rw length-drop (omega arith)) ∙ is

  pub period_back : f.period.0 < 4294967296 → number_at (body_of f) 0 ≡ f.period.0
  unfolding number_at body_of
  period_back h =
      word_back _ f.period.0 (take_at (bytes_of 4 f.period.0) (bytes_of 4 f.budget.0 ++ holds_of f 8) 4 (bytes_length 4 f.period.0)) h

  behind_period : drop 4 (body_of f) ≡ bytes_of 4 f.budget.0 ++ holds_of f 8
  unfolding body_of
  behind_period = drop_at (bytes_of 4 f.period.0) (bytes_of 4 f.budget.0 ++ holds_of f 8) 4 (bytes_length 4 f.period.0)

  pub budget_back : f.budget.0 < 4294967296 → number_at (body_of f) 1 ≡ f.budget.0
  unfolding number_at
  budget_back h =
      word_back _ f.budget.0 (ap (take 4) behind_period ∙ take_at (bytes_of 4 f.budget.0) (holds_of f 8) 4 (bytes_length 4 f.budget.0)) h

  pub hold_back : (r : ℕ) → r < 8 → (hold f r).0 < 4294967296 → number_at (body_of f) (r + 2) ≡ (hold f r).0
  unfolding number_at
  hold_back r l h =
      let there : 4 * (r + 2) ≡ 8 + 4 * r = omega arith in
      let behind : drop 8 (body_of f) ≡ holds_of f 8 =
      sym (drop-drop 4 4 (body_of f)) ∙ ap (drop 4) behind_period ∙ drop_at (bytes_of 4 f.budget.0) (holds_of f 8) 4 (bytes_length 4 f.budget.0) in
      word_back _ (hold f r).0
      (ap (λ k. take 4 (drop k (body_of f))) there ∙ ap (take 4) (sym (drop-drop (4 * r) 8 (body_of f)) ∙ ap (drop (4 * r)) behind) ∙ hold_part 8 r l) h
