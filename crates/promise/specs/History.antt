-- Any history of calls: from any supplier, in any order, with any numbers, from where a board was opened to where it is opened anew.
use Rattle.std.specs.Prelude.{ℕ, ◌≡◌, Bool, false, List, [], ◌∷◌, ◌++◌, eqb}
use Rattle.events.specs.Events.{Event}
use Rattle.board.specs.declared.Board.{Board}
use Rattle.board.specs.Board.{number_of}
use Rattle.board.specs.Calls.{opened}
use Rattle.board.specs.Machine.{Call, Open, Admit, Start, Arrive, Done, Lock, Unlock, Run, made}
use Rattle.board.specs.Events.{told}

-- the call opens the board anew: a frame that is taken
abbrev pub anew : Board → Call → Bool
anew b (Open frame) = eqb (number_of (opened b frame).answer) 0
anew b (Admit p q hs) = false
anew b Start = false
anew b (Arrive i) = false
anew b (Done i) = false
anew b (Lock i r) = false
anew b (Unlock i) = false
anew b (Run n) = false

-- History b es: calls led to the board b, and es is what happened on the way, in the order in which it happened.
-- It begins where a board is opened, whatever board that was; servers are admitted and the board is started by calls like any other,
-- and a call that is refused belongs to it.
pub data History : Board → List Event → Type 0 where
  opening : (b : Board) (frame : ℕ) → number_of (opened b frame).answer ≡ 0 → History (opened b frame).board []
  calling : {b : Board} {es : List Event} → History b es → (c : Call) → anew b c ≡ false → History (made b c).board (es ++ told b c)

-- The same of a list of calls: the board after them, what happened in them, and that none opens the board anew
unfoldable pub after : Board → List Call → Board
after b [] = b
after b (c ∷ cs) = after (made b c).board cs

unfoldable pub happened : Board → List Call → List Event
happened b [] = []
happened b (c ∷ cs) = told b c ++ happened (made b c).board cs

abbrev pub Unopened : Board → List Call → Type 0
Unopened b [] = Unit {0}
Unopened b (c ∷ cs) = (anew b c ≡ false) × Unopened (made b c).board cs

-- any list of calls goes on with a history
abbrev pub AnyCalls : Type 0
AnyCalls = (b : Board) (es : List Event) → History b es → (cs : List Call) → Unopened b cs → History (after b cs) (es ++ happened b cs)
