-- A run tells as many ticks of the named server as it answers: each single tick tells one of it, its name stays, and a replenishment is no tick.
use Prim.Native.Nat.{ℕ, zero, suc, ◌+◌, ◌<◌}
use mathlib.Core.Path.{◌≡◌, refl, ap, ◌∙◌}
use mathlib.Core.Bool.{Bool, true, false}
use mathlib.Core.List.{List, []}
use native.Mathlib.Omega.{arith}
use lib.Dec.{eqb}
use borrow.Author.Tests.{eq-eqb}
use Rattle.terms.specs.Words.{pick, when}
use Rattle.terms.proofs.Tests.{either}
use Rattle.quantity.specs.declared.Instant.{Instant}
use Rattle.events.specs.Events.{Event, ticks}
use Rattle.timing.specs.declared.Life.{Life}
use Rattle.timing.specs.Timing.{due}
use Rattle.board.specs.declared.Board.{Board}
use Rattle.std.specs.Prelude.{Option, Some, None}
use Rattle.board.specs.Board.{value_of, named, is_slot}
use Rattle.board.specs.Run.{ticked, runs}
use Rattle.board.specs.Machine.{made, single}
use Rattle.board.specs.Events.{told, ticks_told, tick_told, renewal, renewals}
use Rattle.board.proofs.Ones.{name_in_run}
use Rattle.guarantee.proofs.LateTicks.{ticks_both}
use Rattle.promise.specs.Runs.{Counts}

module _ (j : ℕ) where
  renewal_none : (i : ℕ) (y : Life) (now : Instant) → ticks j (renewal i y now) ≡ 0
  unfolding renewal ticks
  renewal_none i y now = either (λ (es : List Event). ticks j es ≡ 0) (due y now) refl refl

  renewals_none : (f : ℕ → Life) (now : Instant) (n : ℕ) → ticks j (renewals f now n) ≡ 0
  unfolding renewals ticks
  renewals_none f now zero = refl
  renewals_none f now (suc n) =
      omega (arith, ticks_both j (renewals f now n) (renewal n (f n) now), renewals_none f now n, renewal_none n (f n) now)

  tick_counts : (b : Board) (c : Option ℕ) → ticks j (tick_told b c) ≡ when (is_slot c j) 1
  unfolding tick_told ticks
  tick_counts b None = renewals_none _ _ _
  tick_counts b (Some m) = ap (λ (x : ℕ). when (eqb m j) 1 + x) (renewals_none _ _ _) ∙ omega arith

  -- one more
  when_more : (x : Bool) (k : ℕ) → when x 1 + when x k ≡ when x (suc k)
  when_more true k = omega arith
  when_more false k = refl

  when_none : (x : Bool) → 0 ≡ when x 0
  when_none true = refl
  when_none false = refl

  ticks_count : (k : ℕ) (b : Board) (c : Option ℕ) → ((i : ℕ) → i < k → named (single b i) ≡ c) → ticks j (ticks_told b k) ≡ when (is_slot c j) k
  unfolding ticks_told ticks single
  ticks_count zero b c h = when_none (is_slot c j)
  ticks_count (suc k) b c h =
      let e = ap (λ (d : Option ℕ). ticks j (tick_told b d)) (h 0 (omega arith)) ∙ tick_counts b c in
      let rest = ticks_count k (ticked b).board c (λ i l. h (suc i) (omega arith)) in
      ticks_both j (tick_told b (named b)) (ticks_told (ticked b).board k) ∙ omega (arith, e, rest) ∙ when_more (is_slot c j) k

pub counts : Counts
unfolding told made
counts b n z j =
    ap (λ (t : Bool). ticks j (pick t (ticks_told b (value_of (runs b n).answer)) [])) (eq-eqb _ _ z)
    ∙ ticks_count j (value_of (runs b n).answer) b (named b) (name_in_run b n z)
