-- What the bench program answers to a line, and what it shows of the board (document 01, "The bench program").
use Rattle.std.specs.Prelude.{ℕ, not, None, List}
use Rattle.terms.specs.Words.{pick}
use Rattle.refusals.specs.declared.Refusal.TheVariants.{NotWellFormed}
use Rattle.board.specs.declared.Board.{Board}
use Rattle.board.specs.declared.Outcome.{Outcome}
use Rattle.board.specs.Board.{named, number_of, value_of}
use Rattle.board.specs.Calls.{refuse, opened, admitted, started, arrives, done_by, locks, unlocks}
use Rattle.board.specs.Run.{runs}
use Rattle.lines.specs.declared.Line.{Line}
use Rattle.lines.specs.declared.Call.{Call}
use Rattle.lines.specs.declared.Call.TheVariants as call
use Rattle.desk.specs.declared.Told.{Told}
use Rattle.desk.specs.declared.Shown.{Shown}

-- the call that a line asks for; a line that asks for none gets 19, and the board stays as it is
unfoldable pub called : Board → Call → List ℕ → Outcome
called b (call.Open frame) hs = opened b frame
called b (call.Admit p q) hs = admitted b p q hs
called b call.Start hs = started b
called b (call.Arrive i) hs = arrives b i
called b (call.Done i) hs = done_by b i
called b (call.Lock i r) hs = locks b i r
called b (call.Unlock i) hs = unlocks b i
called b (call.Run n) hs = runs b n
called b call.Malformed hs = refuse b NotWellFormed

-- the next board, and the answer's number and value
unfoldable pub told : Outcome → Told
told o = record { board = o.board; number = number_of o.answer; value = value_of o.answer }

unfoldable pub served : Board → Line → Told
served b l = told (called b l.call l.holds)

-- before start the clock is 0 and nobody is named
unfoldable pub shown : Board → Shown
shown b = pick (not b.running) (record { clock = 0; named = None }) (record { clock = b.clock.0; named = named b })
