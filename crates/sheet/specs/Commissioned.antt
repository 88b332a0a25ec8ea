-- The boards that opening and admitting lead to, with the number of their servers.
use Rattle.std.specs.Prelude.{ℕ, suc, ◌≡◌, List, length}
use Rattle.board.specs.declared.Board.{Board}
use Rattle.board.specs.Board.{number_of}
use Rattle.board.specs.Calls.{opened, admitted}

pub data Commissioned : ℕ → Board → Type 0 where
  opening : (b : Board) (frame : ℕ) → number_of (opened b frame).answer ≡ 0 → Commissioned 0 (opened b frame).board
  admission : {n : ℕ} {b : Board} (p q : ℕ) (hs : List ℕ) → Commissioned n b → length hs ≡ 8 → number_of (admitted b p q hs).answer ≡ 0
      → Commissioned (suc n) (admitted b p q hs).board
