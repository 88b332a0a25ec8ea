-- Where no bit is left, nothing above is locked: the ceiling so far is the ceiling of all eight.
use Rattle.quantity.specs.declared.Length.{Length}
use Rattle.std.proofs.Common.{◌≡◌, ℕ, ◌+◌, ◌-◌, ◌/◌, ◌^◌, Bool, ap, sym, ◌∙◌, arith}
use Rattle.terms.specs.Words.{pick}
use Rattle.resources.specs.Resources.{has}
use Rattle.resources.proofs.Laws.{has_beyond}
use Rattle.std.specs.Prelude.{Option, None}
use Rattle.board.specs.Board.{lowest, ceiling_of, ceiling}
use Rattle.board.proofs.Lowest.{lowest_rest}
use Rattle.board.proofs.Board.ceiling.Goals as goal

pub returns : goal.returns
unfolding ceiling
returns c =
    let w = c.loop-bits in
    let s = c.args.self in
    let f : ℕ → Option Length = λ k. pick (has s.locked k) (ceiling_of s k) None in
    let z : s.locked.0 / 2 ^ w.r ≡ 0 = sym w.invariant.1 ∙ c.loop-bits-test.false in
    let e : w.r + (8 - w.r) ≡ 8 = omega arith in
    w.invariant.2 ∙ sym (lowest_rest f w.r (8 - w.r) (λ j l. ap (λ (t : Bool). pick t (ceiling_of s j) None) (has_beyond s.locked w.r j z l)))
    ∙ ap (λ (n : ℕ). lowest f n) e
