-- A call has one outcome: its contract says which.
use mathlib.Core.Path.{◌≡◌, sym, ◌∙◌}
use Rattle.board.specs.declared.Board.{Board}
use Rattle.board.specs.declared.Outcome.{Outcome}
use Rattle.board.specs.Machine.{Call, Allowed}

pub determined : (b : Board) (c : Call) (o p : Outcome) → Allowed b c o → Allowed b c p → o ≡ p
determined b c o p e f = e ∙ sym f
