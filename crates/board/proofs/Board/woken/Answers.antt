-- Each call gives the woken life of its slot.
use Rattle.std.proofs.Common.{rules, tests}
use Rattle.timing.specs.Timing.{begun}
use Rattle.board.specs.Run.{woken_at}
use Rattle.board.proofs.Made.{made_list}
use Rattle.board.proofs.Board.woken.Goals as goal

pub returns : goal.returns
returns c = made_list _ _ (woken_at c.args.self) 16 (λ i y q l k. search (rules, tests)) begun _ c.from_fn.ensures.items
