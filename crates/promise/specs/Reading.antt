-- A board that was read from a sheet is the board of a history: what is promised of every history is promised of it and of all calls after.
use Rattle.std.specs.Prelude.{ℕ, ◌≡◌, List, [], Ok}
use Rattle.board.specs.declared.Board.{Board}
use Rattle.sheet.specs.Sheet.{read_of}
use Rattle.promise.specs.History.{History}

abbrev pub ReadIn : Type 0
ReadIn = (sheet : List ℕ) (b : Board) → read_of sheet ≡ Ok b → History b []
