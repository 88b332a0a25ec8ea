-- The body of the figures that a body was read as is that body: each four bytes are those of their number.
use Prim.Native.Nat.{ℕ, zero, suc, ◌+◌, ◌*◌, ◌<◌, ◌≤◌}
use mathlib.Core.Path.{◌≡◌, refl, sym, ap, ◌∙◌}
use mathlib.Core.List.{List, ◌++◌}
use lib.ListN.{length, take, drop, length-drop, take-append-drop}
use lib.Seq.{take-add, drop-drop, take_all, length-take-le}
use native.Mathlib.Omega.{arith}
use Rattle.quantity.specs.declared.Length.{Length}
use Rattle.quantity.specs.Quantity.{ticks}
use Rattle.timing.specs.declared.Figures.{Figures}
use Rattle.timing.specs.Timing.{hold}
use Rattle.fields.specs.Numbers.{Bytes, bytes_of, number_of}
use Rattle.fields.proofs.Numbers.{bytes_kept, number_in_lem}
use Rattle.fields.proofs.Heads.{part_bytes}
use Rattle.sheet.specs.Sheet.{holds_of, body_of, number_at}

module _ (body : List ℕ) (h : Bytes body) (forty : length body ≡ 40) where
  word_kept : (k : ℕ) → k < 10 → bytes_of 4 (number_at body k) ≡ take 4 (drop (4 * k) body)
  unfolding number_at
  word_kept k l =
      let part = take 4 (drop (4 * k) body) in
      let four : length part ≡ 4 = length-take-le 4 (drop (4 * k) body) (rw length-drop (omega arith)) in
      ap (bytes_of 4) (number_in_lem 4 part four) ∙ ap (λ w. bytes_of w (number_of part)) (sym four) ∙ bytes_kept part (part_bytes body 4 (4 * k) h)

  module _ (f : Figures) (holds : (r : ℕ) → r < 8 → hold f r ≡ ticks (number_at body (r + 2))) where
    holds_kept : (n : ℕ) → n ≤ 8 → holds_of f n ≡ take (4 * n) (drop 8 body)
    unfolding holds_of
    holds_kept zero l = refl
    holds_kept (suc n) l =
        let there : 4 * (n + 2) ≡ 8 + 4 * n = omega arith in
        let on : 4 * suc n ≡ 4 * n + 4 = omega arith in
        let word : bytes_of 4 (hold f n).0 ≡ take 4 (drop (4 * n) (drop 8 body)) =
        ap (λ (x : Length). bytes_of 4 x.0) (holds n (omega arith)) ∙ word_kept (n + 2) (omega arith)
        ∙ ap (λ k. take 4 (drop k body)) there ∙ ap (take 4) (sym (drop-drop (4 * n) 8 body)) in
        ap (λ l. l ++ bytes_of 4 (hold f n).0) (holds_kept n (omega arith)) ∙ ap (λ l. take (4 * n) (drop 8 body) ++ l) word
        ∙ sym (take-add (4 * n) 4 (drop 8 body)) ∙ ap (λ k. take k (drop 8 body)) (sym on)

    pub body_kept : f.period ≡ ticks (number_at body 0) → f.budget ≡ ticks (number_at body 1) → body_of f ≡ body
    unfolding body_of
    body_kept p q =
        let rest : drop 8 body ≡ drop 4 (drop 4 body) = sym (drop-drop 4 4 body) in
        let period : bytes_of 4 f.period.0 ≡ take 4 body = ap (λ (x : Length). bytes_of 4 x.0) p ∙ word_kept 0 (omega arith) in
        let budget : bytes_of 4 f.budget.0 ≡ take 4 (drop 4 body) = ap (λ (x : Length). bytes_of 4 x.0) q ∙ word_kept 1 (omega arith) in
        let others : holds_of f 8 ≡ drop 4 (drop 4 body) =
        holds_kept 8 (omega arith) ∙ take_all 32 (drop 8 body) (rw length-drop (omega arith)) ∙ rest in
        ap (λ l. l ++ (bytes_of 4 f.budget.0 ++ holds_of f 8)) period
        ∙ ap (λ l. take 4 body ++ (l ++ holds_of f 8)) budget
        ∙ ap (λ l. take 4 body ++ (take 4 (drop 4 body) ++ l)) others
        ∙ ap (λ l. take 4 body ++ l) (take-append-drop 4 (drop 4 body))
        ∙ take-append-drop 4 body
