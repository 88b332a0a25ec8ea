-- A run, one tick at a time: what the definition says of one tick more.
use Prim.Native.Nat.{ℕ, suc, ◌+◌, ◌≤◌}
use mathlib.Core.Path.{◌≡◌, refl, sym, ap, ◌∙◌}
use mathlib.Core.Bool.{true, false, ◌&&◌}
use native.Mathlib.Omega.{arith}
use native.Mathlib.Decide.{dec_le}
use lib.Dec.{leb, ltb}
use borrow.Author.Tests.{leb-true, le-ltb, lt-ltb}
use Rattle.terms.proofs.Tests.{not_both, and_right}
use Rattle.quantity.specs.declared.Instant.{Instant}
use Rattle.quantity.specs.declared.Length.{Length}
use Rattle.quantity.specs.Quantity.{later, length_of, longest_run, clock_end}
use Rattle.quantity.proofs.Laws.{length_of_exact, later_is}
use Rattle.board.specs.declared.Board.{Board}
use Rattle.board.specs.declared.Reason.{Reason}
use Rattle.board.specs.declared.Reason.TheVariants.{Whole, Changed, Reached}
use Rattle.board.specs.Run.{goes_on, ticked, ran_from}

pub whole_if : (r : Reason) → goes_on r ≡ true → r ≡ Whole
whole_if Whole e = refl
whole_if Changed e = absurd (not_both e refl)
whole_if Reached e = absurd (not_both e refl)

module _ (b : Board) (k m : ℕ) where
  pub ran_on : goes_on (ticked b).reason ≡ true → ran_from b k (suc m) ≡ ran_from (ticked b).board (k + 1) m
  unfolding ran_from
  ran_on h = simp h

  pub ran_event : goes_on (ticked b).reason ≡ false → ran_from b k (suc m) ≡ record { board = (ticked b).board; ticks = k + 1; reason = (ticked b).reason }
  unfolding ran_from
  ran_event h = simp h

pub ran_whole : (b : Board) (k : ℕ) → ran_from b k 0 ≡ record { board = b; ticks = k; reason = Whole }
unfolding ran_from
ran_whole b k = refl

-- a run in range ends past the clock's end exactly if the sum does
pub past_end : (t : Instant) (n : ℕ) → (leb 1 n && leb n longest_run) ≡ true → ltb clock_end (later t (length_of n)).0 ≡ ltb clock_end (t.0 + n)
past_end t n e =
    let h = leb-true _ _ (and_right (leb 1 n) (leb n longest_run) e) in
    let u : (length_of n).0 ≡ n = ap (λ (l : Length). l.0) (length_of_exact n (omega arith)) in
    go (dec_le (t.0 + n) clock_end) u h
  where
    go : Dec (t.0 + n ≤ clock_end) → (length_of n).0 ≡ n → n ≤ longest_run → ltb clock_end (later t (length_of n)).0 ≡ ltb clock_end (t.0 + n)
    go (yes l) u h = le-ltb _ _ (omega (arith, later_is t (length_of n))) ∙ sym (le-ltb _ _ l)
    go (no z) u h = lt-ltb _ _ (omega (arith, later_is t (length_of n))) ∙ sym (lt-ltb _ _ (omega arith))
