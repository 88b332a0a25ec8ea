-- No call but opening and admitting moves the frame or the table, so what was admitted is read back from a sheet at any time.
use Prim.Native.Nat.{ℕ, zero, suc, ◌+◌}
use mathlib.Core.Path.{◌≡◌, refl, ◌∙◌}
use mathlib.Core.Bool.{Bool, true, false, not}
use Rattle.terms.proofs.Tests.{either}
use Rattle.refusals.specs.declared.Refusal.{Refusal}
use Rattle.board.specs.declared.Board.{Board}
use Rattle.board.specs.declared.Outcome.{Outcome}
use Rattle.std.specs.Prelude.{Option, Some, None}
use Rattle.board.specs.Board.{named, out, with_life, with_sets}
use Rattle.board.specs.Calls.{refuse, started, commissioning, arrives, done_by, locks, unlocks}
use Rattle.board.specs.Run.{any_due, roused, worked, paused, ticked_to, ticked_by, ticked, goes_on, ran_from, passes, runs}
use Rattle.board.specs.declared.Answer.{Answer}
use Rattle.timing.specs.declared.Life.{Life}
use Rattle.resources.specs.declared.Set.{Set}
use Rattle.sheet.specs.Commissioned.{Commissioned}
use Rattle.sheet.specs.Sheet.{sheet_for, read_of, accepted}
use Rattle.sheet.proofs.ReadBack.{read_back_any}
use Rattle.board.proofs.Walk.{arrive_walk, done_walk, lock_walk, unlock_walk, run_walk}

-- the same frame and table
abbrev pub Same : Board → Board → Type 0
Same b d = (d.frame ≡ b.frame) × (d.table ≡ b.table)

same_on : (b c d : Board) → Same b c → Same c d → Same b d
same_on b c d (p, q) (r, s) = (r ∙ p, s ∙ q)

roused_same : (b : Board) → Same b (roused b)
unfolding roused
roused_same b = either (λ (d : Board). Same b d) (any_due b) (refl, refl) (refl, refl)

ticked_by_same : (b : Board) (c : Option ℕ) → Same b (ticked_by b c).board
unfolding ticked_by ticked_to worked paused
ticked_by_same b None = roused_same (paused b)
ticked_by_same b (Some m) = roused_same (worked b m)

ticked_same : (b : Board) → Same b (ticked b).board
unfolding ticked
ticked_same b = ticked_by_same b (named b)

ran_same : (n : ℕ) (b : Board) (k : ℕ) → Same b (ran_from b k n).board
unfolding ran_from
ran_same zero b k = (refl, refl)
ran_same (suc n) b k = go (goes_on (ticked b).reason) refl (ran_same n (ticked b).board (k + 1))
  where
    go : (t : Bool) → goes_on (ticked b).reason ≡ t → Same (ticked b).board (ran_from (ticked b).board (k + 1) n).board → Same b (ran_from b k (suc n)).board
    go true e h = rw e (same_on b (ticked b).board (ran_from (ticked b).board (k + 1) n).board (ticked_same b) h)
    go false e h = rw e (ticked_same b)

module _ (b : Board) where
  abbrev Stays : Outcome → Type 0
  Stays o = Same b o.board

  -- the four ways in which a call ends
  refused : (why : Refusal) → Stays (refuse b why)
  refused why = (refl, refl)

  alive : (i : ℕ) (l : Life) (a : Answer) → Stays (out (with_life b i l) a)
  unfolding with_life
  alive i l a = (refl, refl)

  sets : (i : ℕ) (l : Life) (s c : Set) (a : Answer) → Stays (out (with_sets b i l s c) a)
  unfolding with_sets
  sets i l s c a = (refl, refl)

  pass_of : (n : ℕ) → Stays (passes b n)
  unfolding passes
  pass_of n = ran_same n b 0

  start_same : Stays (started b)
  unfolding started
  start_same = either Stays (not (commissioning b)) (refl, refl) (refl, refl)

-- the boards that calls other than opening and admitting lead to from b
pub data Later (b : Board) : Board → Type 0 where
  now : Later b b
  start : {d : Board} → Later b d → Later b (started d).board
  arrive : {d : Board} (i : ℕ) → Later b d → Later b (arrives d i).board
  done : {d : Board} (i : ℕ) → Later b d → Later b (done_by d i).board
  lock : {d : Board} (i r : ℕ) → Later b d → Later b (locks d i r).board
  unlock : {d : Board} (i : ℕ) → Later b d → Later b (unlocks d i).board
  run : {d : Board} (n : ℕ) → Later b d → Later b (runs d n).board

pub later_same : (b e : Board) → Later b e → Same b e
later_same b e now = (refl, refl)
later_same b e (start {d = c} w) = same_on b c (started c).board (later_same b c w) (start_same c)
later_same b e (arrive {d = c} i w) = same_on b c (arrives c i).board (later_same b c w) (arrive_walk c (Stays c) (refused c) (alive c) (sets c) (pass_of c) i)
later_same b e (done {d = c} i w) = same_on b c (done_by c i).board (later_same b c w) (done_walk c (Stays c) (refused c) (alive c) (sets c) (pass_of c) i)
later_same b e (lock {d = c} i r w) = same_on b c (locks c i r).board (later_same b c w) (lock_walk c (Stays c) (refused c) (alive c) (sets c) (pass_of c) i r)
later_same b e (unlock {d = c} i w) = same_on b c (unlocks c i).board (later_same b c w) (unlock_walk c (Stays c) (refused c) (alive c) (sets c) (pass_of c) i)
later_same b e (run {d = c} n w) = same_on b c (runs c n).board (later_same b c w) (run_walk c (Stays c) (refused c) (alive c) (sets c) (pass_of c) n)

-- a board written at any time reads back as the commissioning board that was admitted
pub reads_back : {n : ℕ} {b : Board} (d : Board) → Commissioned n b → Later b d → read_of (sheet_for d) ≡ accepted b
reads_back {n} {b} d w l = let (f, t) = later_same b d l in read_back_any d w f t
