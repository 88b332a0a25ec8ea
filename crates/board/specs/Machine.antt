-- The calls of a board as one machine: each call with what it gives.
use Rattle.std.specs.Prelude.{ℕ, zero, suc, List, ◌≡◌}
use Rattle.board.specs.declared.Board.{Board}
use Rattle.board.specs.declared.Outcome.{Outcome}
use Rattle.board.specs.Calls.{opened, admitted, started, arrives, done_by, locks, unlocks}
use Rattle.board.specs.Run.{ticked, runs}

pub data Call : Type 0 where
  Open : ℕ → Call
  Admit : ℕ → ℕ → List ℕ → Call
  Start : Call
  Arrive : ℕ → Call
  Done : ℕ → Call
  Lock : ℕ → ℕ → Call
  Unlock : ℕ → Call
  Run : ℕ → Call

-- the outcome of a call
unfoldable pub made : Board → Call → Outcome
made b (Open frame) = opened b frame
made b (Admit p q hs) = admitted b p q hs
made b Start = started b
made b (Arrive i) = arrives b i
made b (Done i) = done_by b i
made b (Lock i r) = locks b i r
made b (Unlock i) = unlocks b i
made b (Run n) = runs b n

-- what a call's contract says of its outcome
abbrev pub Allowed : Board → Call → Outcome → Type 0
Allowed b c o = o ≡ made b c

-- the board after n single ticks
unfoldable pub single : Board → ℕ → Board
single b zero = b
single b (suc n) = single (ticked b).board n
