-- A pause goes on with the rest of the run, and the event that ends it is the run's.
use Rattle.std.proofs.Common.{◌≡◌, ℕ, suc, ◌+◌, ◌-◌, ap, sym, ◌∙◌, arith}
use Rattle.quantity.specs.declared.Instant.{Instant}
use Rattle.board.specs.Run.{ran_from}
use Rattle.board.proofs.Stays.{moved}
use Rattle.board.proofs.Loop.{turn_whole, ends_same, pause_on, pause_event}
use Rattle.board.proofs.Board.pause.Goals as goal
use Rattle.board.proofs.Board.pause.Goals.{then-n-pauses, else-n-pauses+then-has_come}

pub loop-pauses-preserved : goal.loop-pauses-preserved
loop-pauses-preserved c =
    let w = c.loop-pauses in
    let a = c.args in
    let k = w.pauses in
    let e : a.n - k ≡ suc (a.n - (k + 1)) = omega arith in
    let h = sym c.has_come.ensures ∙ c.if-has_come.false in
    let on = pause_on a.self c.requires w.now _ _ c.plus-now.ensures c.first_wait-wait.ensures h k (a.n - (k + 1)) in
    (omega arith, w.invariant.1, sym on ∙ ap (λ (x : ℕ). ran_from (moved a.self w.now) k x) (sym e) ∙ w.invariant.2)

pub returns : goal.returns
returns c =
    let w = c.loop-pauses in
    let a = c.args in
    let k = w.pauses in
    let b = moved a.self w.now in
    c.end_run.ensures
    ∙ elim c.if-n-pauses.branch [
      | then-n-pauses x ↦
          let e : a.n - k ≡ 0 = omega (arith, x.if-n-pauses.true) in
          ends_same (ap (λ (t : Instant). moved a.self t) x.now-is) x.pauses-is (x.reason-is ∙ w.invariant.1) ∙ turn_whole b k
          ∙ ap (λ (x : ℕ). ran_from b k x) (sym e) ∙ w.invariant.2
      | else-n-pauses+then-has_come x ↦
          let e : a.n - k ≡ suc (a.n - (k + 1)) = omega (arith, x.if-n-pauses.false) in
          let h = sym x.has_come.ensures ∙ x.if-has_come.true in
          ends_same (ap (λ (t : Instant). moved a.self t) x.now-is) x.pauses-is x.reason-is
          ∙ sym (pause_event a.self c.requires w.now _ _ x.plus-now.ensures c.first_wait-wait.ensures h k (a.n - (k + 1)))
          ∙ ap (λ (x : ℕ). ran_from b k x) (sym e) ∙ w.invariant.2
    ]
