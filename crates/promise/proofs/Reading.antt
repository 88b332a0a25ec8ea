-- A board that opening and admitting lead to, and so one that was read from a sheet, is the board of a history in which nothing has happened yet.
use Prim.Native.Nat.{ℕ}
use mathlib.Core.Path.{refl}
use mathlib.Core.List.{[]}
use Rattle.board.specs.declared.Board.{Board}
use Rattle.board.specs.Machine.{Admit, made}
use Rattle.board.specs.Events.{told}
use Rattle.sheet.specs.Commissioned.{Commissioned, opening, admission}
use Rattle.sheet.proofs.Accepted.{accepted_board}
use Rattle.promise.specs.History.{History, calling}
use Rattle.promise.specs.History as history
use Rattle.promise.specs.Reading.{ReadIn}

pub commissioned : {n : ℕ} {b : Board} → Commissioned n b → History b []
unfolding made told
commissioned (opening b frame e) = history.opening b frame e
commissioned (admission {n} {b} p q hs w len e) = calling (commissioned w) (Admit p q hs) refl

pub read_in : ReadIn
read_in sheet b e = let (n, form, c) = accepted_board sheet e in commissioned c
