-- A run in range that ends by the clock's end is the named server's.
use Rattle.std.proofs.Common.{◌≡◌, ℕ, ◌+◌, true, false, not, sym, ◌∙◌, rules, tests}
use Rattle.std.specs.Prelude.{ltb, leb, ◌&&◌}
use Rattle.quantity.specs.Quantity.{later, length_of, longest_run, clock_end}
use Rattle.board.specs.declared.Board.{Board}
use Rattle.board.specs.Board.{named}
use Rattle.board.specs.Run.{run_by, runs}
use Rattle.board.proofs.Ticks.{past_end}
use Rattle.board.proofs.Board.run.Goals as goal

goes : (b : Board) (n : ℕ) → not b.running ≡ false → (leb 1 n && leb n longest_run) ≡ true → ltb clock_end (b.clock.0 + n) ≡ false
    → run_by b (named b) n ≡ runs b n
unfolding runs
goes b n on inside time = simp (on, inside, time)

pub returns : goal.returns
returns c =
    let inside : (leb 1 c.args.n && leb c.args.n longest_run) ≡ true = search (rules, tests) in
    let time : ltb clock_end (later c.args.self.clock (length_of c.args.n)).0 ≡ false = search (rules, tests) in
    c.run_by.ensures ∙ goes c.args.self c.args.n c.if-not-self.false inside (sym (past_end c.args.self.clock c.args.n inside) ∙ time)
