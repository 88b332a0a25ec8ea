-- The best slot is the first.
use Rattle.std.proofs.Common.{◌≡◌, ap, sym, ◌∙◌, arith}
use Rattle.board.specs.Steps.{best_of, chosen}
use Rattle.board.proofs.First.{first_is}
use Rattle.board.proofs.Board.first.Goals as goal

pub returns : goal.returns
returns g c =
    let w = c.loop-slot in
    let b = c.args.self in
    let slot : c.map.result ≡ chosen w.best = grind arith in
    let all : w.slot ≡ 16 = omega arith in
    λ s t. slot ∙ ap chosen (w.invariant.0 s t ∙ ap (best_of b s) all) ∙ sym (first_is b s)
