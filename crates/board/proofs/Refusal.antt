-- A refused call leaves the board as it was: every way through a definition either refuses or answers with another number.
use Prim.Native.Nat.{ℕ, ◌≤◌}
use mathlib.Core.Path.{◌≡◌, refl}
use mathlib.Core.List.{List}
use mathlib.Core.Logic.{inl, inr}
use mathlib.Core.Bool.{not, ◌&&◌}
use native.Mathlib.Omega.{arith}
use lib.Dec.{leb}
use Rattle.terms.proofs.Tests.{either}
use Rattle.quantity.specs.Quantity.{largest_frame}
use Rattle.refusals.specs.declared.Refusal.{Refusal}
use Rattle.refusals.specs.declared.Refusal.TheVariants.{WrongPhase, TableFull, FrameOutOfRange}
use Rattle.board.specs.declared.Board.{Board}
use Rattle.board.specs.declared.Outcome.{Outcome}
use Rattle.board.specs.declared.Answer.{Answer}
use Rattle.board.specs.declared.Answer.TheVariants as answer
use Rattle.timing.specs.declared.Figures.{Figures}
use Rattle.timing.specs.declared.Life.{Life}
use Rattle.resources.specs.declared.Set.{Set}
use Rattle.std.specs.Prelude.{Option, Some, None, Result, Ok, Err}
use Rattle.board.specs.Board.{with_life, with_sets, out, number_of, value_of}
use Rattle.board.specs.Calls.{refuse, opened, commissioning, vacancy, admitted_as, admitted_in, admitted, started}
use Rattle.board.specs.Run.{passes}
use Rattle.board.proofs.Walk.{Served, arrive_ends, done_ends, lock_ends, unlock_ends, run_ends}
use Rattle.board.specs.Machine.{Call, Open, Admit, Start, Arrive, Done, Lock, Unlock, Run, made}

module _ (b : Board) where
  -- with a refusal's number, the board is b and the value is 0
  pub Kept : Outcome → Type 0
  Kept o = 1 ≤ number_of o.answer → number_of o.answer ≤ 19 → (o.board ≡ b) × (value_of o.answer ≡ 0)

  refused : (why : Refusal) → Kept (refuse b why)
  unfolding Kept
  refused why low high = (refl, refl)

  -- the numbers of the other answers
  served : (c : Board) (a : Answer) → Served a → Kept (out c a)
  unfolding Kept
  served c a (inl e) low high = absurd (omega arith)
  served c a (inr l) low high = absurd (omega arith)

  fine : (c : Board) (v : ℕ) → Kept (out c (answer.Done v))
  fine c v = served c (answer.Done v) (inl refl)

  admit_as : (i : ℕ) (judged : Result Figures Refusal) → Kept (admitted_as b i judged)
  unfolding admitted_as
  admit_as i (Ok f) = fine _ i
  admit_as i (Err why) = refused why

  admit_in : (c : Option ℕ) (p q : ℕ) (hs : List ℕ) → Kept (admitted_in b c p q hs)
  unfolding admitted_in
  admit_in None p q hs = refused TableFull
  admit_in (Some i) p q hs = admit_as i _

  -- the ways out of the calls of a server and of a run
  alive : (i : ℕ) (l : Life) (a : Answer) → Served a → Kept (out (with_life b i l) a)
  alive i l a = served (with_life b i l) a

  sets : (i : ℕ) (l : Life) (s c : Set) (a : Answer) → Served a → Kept (out (with_sets b i l s c) a)
  sets i l s c a = served (with_sets b i l s c) a

  pass_of : (n : ℕ) → Kept (passes b n)
  unfolding passes
  pass_of n = fine _ _

  kept : (c : Call) → Kept (made b c)
  unfolding made opened admitted started
  kept (Open frame) = either Kept (leb 1 frame && leb frame largest_frame) (fine _ 0) (refused FrameOutOfRange)
  kept (Admit p q hs) = either Kept (not (commissioning b)) (refused WrongPhase) (admit_in (vacancy b.table) p q hs)
  kept Start = either Kept (not (commissioning b)) (refused WrongPhase) (fine _ 0)
  kept (Arrive i) = arrive_ends b Kept refused alive sets pass_of i
  kept (Done i) = done_ends b Kept refused alive sets pass_of i
  kept (Lock i r) = lock_ends b Kept refused alive sets pass_of i r
  kept (Unlock i) = unlock_ends b Kept refused alive sets pass_of i
  kept (Run n) = run_ends b Kept refused alive sets pass_of n

  -- a call answered 1 to 19 leaves the board as it was, and its value is 0
  pub refusal_keeps : (c : Call) → 1 ≤ number_of (made b c).answer → number_of (made b c).answer ≤ 19
      → ((made b c).board ≡ b) × (value_of (made b c).answer ≡ 0)
  unfolding Kept
  refusal_keeps c low high = kept c low high
