-- No history leads to the answer 14: before start a lock is answered 1, and after it nobody finds a lock taken.
use mathlib.Core.Path.{sym, subst}
use mathlib.Core.Logic.{◌≢◌}
use native.Mathlib.Omega.{arith}
use borrow.Author.Tests.{eqb-false}
use Rattle.board.specs.declared.Outcome.{Outcome}
use Rattle.board.specs.Board.{number_of}
use Rattle.board.specs.Calls.{locks}
use Rattle.promise.specs.Runs.{NeverTaken}
use Rattle.promise.proofs.Locking.{lock_untaken}
use Rattle.promise.proofs.Histories.{Stage, unstarted, running, stage, lock_early}

pub never_taken : NeverTaken
never_taken b es h i r = go (stage h)
  where
    go : Stage b es → number_of (locks b i r).answer ≢ 14
    go (unstarted c z) = subst (λ (o : Outcome). number_of o.answer ≢ 14) (sym (lock_early b c.phase i r)) (λ k. omega arith)
    go (running n l t w B) = eqb-false _ _ (lock_untaken n l t w b es B i r)
