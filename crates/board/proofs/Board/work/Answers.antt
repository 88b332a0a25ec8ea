-- A tick goes on with the rest of the run, and the event that ends it is the run's.
use Rattle.std.proofs.Common.{◌≡◌, ℕ, suc, ◌+◌, ◌-◌, ap, sym, ◌∙◌, arith}
use Rattle.board.specs.declared.Board.{Board}
use Rattle.board.specs.Board.{with_life}
use Rattle.board.specs.Run.{ran_from}
use Rattle.board.specs.Steps.{ran_to}
use Rattle.board.proofs.Stays.{moved}
use Rattle.board.proofs.Ticks.{whole_if}
use Rattle.board.proofs.Loop.{turn_whole, ends_same, worked_to, worked_same, name_on, work_on, work_event}
use Rattle.board.proofs.Board.work.Goals as goal
use Rattle.board.proofs.Board.work.Goals.{then-n-ticks, else-n-ticks+then-not-goes_on}

pub loop-ticks-preserved : goal.loop-ticks-preserved
loop-ticks-preserved c =
    let w = c.loop-ticks in
    let a = c.args in
    let k = w.ticks in
    let l = w.life in
    let t = w.now in
    let e : a.n - k ≡ suc (a.n - (k + 1)) = omega arith in
    let r = c.end_by-reason.ensures in
    let move = c.plus-now.ensures in
    let figures = c.figures-f.ensures in
    let tick = c.tick-after.ensures in
    let settle = c.settle-life.ensures in
    let wait = c.first_wait-wait.ensures in
    let g = sym c.goes_on.ensures ∙ c.if-not-goes_on.false in (
      omega arith,
      whole_if _ g,
      name_on a.self a.slot c.requires l t w.invariant.2 _ _ _ _ _ _ move figures tick settle wait r g,
      sym (work_on a.self a.slot c.requires l t w.invariant.2 _ _ _ _ _ _ move figures tick settle wait r g k (a.n - (k + 1)))
          ∙ ap (λ (x : ℕ). ran_from (worked_to a.self a.slot l t) k x) (sym e) ∙ w.invariant.3,
    )

pub returns : goal.returns
unfolding with_life
returns c =
    let w = c.loop-ticks in
    let a = c.args in
    let k = w.ticks in
    let l = w.life in
    let t = w.now in
    let b = worked_to a.self a.slot l t in
    c.end_run.ensures
    ∙ ap (λ (x : Board). ran_to (moved x c.if-n-ticks.now) c.if-n-ticks.ticks c.if-n-ticks.reason) c.with_life-b.ensures
    ∙ elim c.if-n-ticks.branch [
      | then-n-ticks x ↦
          let e : a.n - k ≡ 0 = omega (arith, x.if-n-ticks.true) in
          ends_same (worked_same a.self a.slot x.life-is x.now-is) x.ticks-is (x.reason-is ∙ w.invariant.1) ∙ turn_whole b k
          ∙ ap (λ (x : ℕ). ran_from b k x) (sym e) ∙ w.invariant.3
      | else-n-ticks+then-not-goes_on x ↦
          let e : a.n - k ≡ suc (a.n - (k + 1)) = omega (arith, x.if-n-ticks.false) in
          let g = sym x.goes_on.ensures ∙ x.if-not-goes_on.true in
          ends_same (worked_same a.self a.slot x.life-is x.now-is) x.ticks-is x.reason-is
          ∙ sym (work_event a.self a.slot c.requires l t w.invariant.2 _ _ _ _ _ _ x.plus-now.ensures c.figures-f.ensures x.tick-after.ensures x.settle-life.ensures c.first_wait-wait.ensures x.end_by-reason.ensures g k (a.n - (k + 1)))
          ∙ ap (λ (x : ℕ). ran_from b k x) (sym e) ∙ w.invariant.3
    ]
