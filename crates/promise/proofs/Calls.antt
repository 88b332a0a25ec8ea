-- A history goes on with any list of calls: call by call.
use mathlib.Core.Path.{sym, subst}
use mathlib.Core.List.{List, [], ◌∷◌, ◌++◌, append-nil, append_assoc}
use Rattle.events.specs.Events.{Event}
use Rattle.board.specs.declared.Board.{Board}
use Rattle.board.specs.Machine.{Call, made}
use Rattle.board.specs.Events.{told}
use Rattle.promise.specs.History.{History, calling, after, happened, Unopened, AnyCalls}

go_on : (cs : List Call) (b : Board) (es : List Event) → History b es → Unopened b cs → History (after b cs) (es ++ happened b cs)
unfolding after happened
go_on [] b es h u = subst (λ (x : List Event). History b x) (sym (append-nil es)) h
go_on (c ∷ cs) b es h (e, u) =
    subst (λ (x : List Event). History (after (made b c).board cs) x) (append_assoc es (told b c) (happened (made b c).board cs))
    (go_on cs (made b c).board (es ++ told b c) (calling h c e) u)

pub any_calls : AnyCalls
any_calls b es h cs u = go_on cs b es h u
