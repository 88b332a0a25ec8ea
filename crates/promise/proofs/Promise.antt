-- Promise 3 of every history: each board that it leads to is one of the argument's, and each of its events one of the argument's events.
use Prim.Native.Nat.{ℕ, ◌+◌, ◌*◌, ◌<◌, ◌≤◌}
use mathlib.Core.Path.{◌≡◌, refl, sym, ap, ◌∙◌}
use mathlib.Core.List.{List, [], ◌∷◌, ◌++◌}
use native.Mathlib.Omega.{arith}
use lib.ListN.{get_or, length}
use Rattle.terms.proofs.Tests.{not_both}
use Rattle.events.specs.Events.{Event, Replenished, ticks, last_start, left_after, deadline_after}
use Rattle.timing.specs.declared.Figures.{Figures}
use Rattle.timing.specs.declared.Life.{Life}
use Rattle.timing.specs.Timing.{begun, is_ready}
use Rattle.admission.specs.Admission.{slots, in_table, period_of, budget_of}
use Rattle.board.specs.declared.Board.{Board}
use Rattle.board.specs.declared.Outcome.{Outcome}
use Rattle.board.specs.Board.{life_at, number_of}
use Rattle.board.specs.Machine.{single}
use Rattle.guarantee.proofs.Guarantee.{guarantee}
use Rattle.guarantee.proofs.Lives as lives
use Rattle.guarantee.proofs.Ranges.{left_told, deadline_told}
use Rattle.promise.specs.Promise.{InTime, Deadline, DeadlineInside, Accounts, Share, Overholders}
use Rattle.promise.proofs.Lawful.{Kept, lawful_table}
use Rattle.promise.proofs.Look.{owes_in, deadline_is, budget_is}
use Rattle.promise.proofs.Naming.{server_of}
use Rattle.promise.proofs.Bound.{T, Bound}
use Rattle.promise.proofs.Passing.{inside_run}
use Rattle.promise.proofs.Histories.{Commissioning, Stage, unstarted, running, stage, begun_at, run_early}

-- statement 1 of the argument, on our board
bound_in_time : (n l : ℕ) (t : List Figures) (w : Kept n l t) (b : Board) (es : List Event) → Bound n l t w b es → (i : ℕ) → InTime b i
bound_in_time n l t w b es B i ready left =
    let k = guarantee (T n l t w) (lawful_table n l t w) B.reached i (owes_in _ _ (life_at b i).state ready left) in
    omega (arith, k, deadline_is (life_at b i).left.0 (life_at b i).deadline.0 (life_at b i).state)

-- before start nobody is ready
unstarted_in_time : (b : Board) → Commissioning b → (i : ℕ) → InTime b i
unstarted_in_time b c i ready left =
    let e = ap (λ (x : List Life). get_or x i begun) c.lives ∙ begun_at slots i in
    absurd (not_both ready (ap (λ (x : Life). is_ready x.state) e))

pub deadline : Deadline
deadline b es h i = go (stage h)
  where
    go : Stage b es → InTime b i
    go (unstarted c z) = unstarted_in_time b c i
    go (running n l t w B) = bound_in_time n l t w b es B i

pub deadline_inside : DeadlineInside
deadline_inside b es h m z k l i = go (stage h)
  where
    go : Stage b es → InTime (single b k) i
    go (unstarted c _) = absurd (omega (arith, sym (ap (λ (o : Outcome). number_of o.answer) (run_early b c.phase m)) ∙ z))
    go (running n l' t w B) = bound_in_time n l' t w (single b k) _ (inside_run n l' t w b es B m z k l) i

-- nothing happened before start
something : (before : List Event) (e : Event) (after rest : List Event) → [] ≡ (before ++ e ∷ after) ++ rest → ⊥
something [] e after rest q = omega (arith, ap (λ (x : List Event). length x) q)
something (x ∷ before) e after rest q = omega (arith, ap (λ (x : List Event). length x) q)

pub share : Share
share b es h i here before s after rest e = go (stage h)
  where
    go : Stage b es → ticks i after * period_of b.table i + budget_of b.table i * s ≤ budget_of b.table i * (last_start i s after + period_of b.table i)
    go (unstarted c z) = absurd (something before (Replenished i s) after rest (sym z ∙ e))
    go (running n l t w B) =
        rw B.table
        (omega (
          arith,
          lives.share (T n l t w) (lawful_table n l t w) i (server_of n l t w i (sym (ap (λ (x : List Figures). in_table x i) B.table) ∙ here), refl) B.reached
              before s after rest (B.told ∙ e),
        ))

-- the life of each server along the events ends at what the board keeps of it
unstarted_accounts : (b : Board) → Commissioning b → (i P Q : ℕ) → ((life_at b i).left.0 ≡ left_after i Q 0 []) × ((life_at b i).deadline.0 ≡ deadline_after i P 0 [])
unfolding left_after deadline_after
unstarted_accounts b c i P Q =
    let e = ap (λ (x : List Life). get_or x i begun) c.lives ∙ begun_at slots i in
    (ap (λ (x : Life). x.left.0) e, ap (λ (x : Life). x.deadline.0) e)

module _ (n l : ℕ) (t : List Figures) (w : Kept n l t) (b : Board) (es : List Event) (B : Bound n l t w b es) (i : ℕ) (server : i < n) where
  bound_left : (life_at b i).left.0 ≡ left_after i (budget_of t i) 0 es
  bound_left =
      sym (budget_is _ _ (life_at b i).state) ∙ sym (left_told i _ _ _ _ (lives.lives (T n l t w) (lawful_table n l t w) i (server, refl) B.reached))
      ∙ ap (λ (x : List Event). left_after i (budget_of t i) 0 x) B.told

  bound_deadline : (life_at b i).deadline.0 ≡ deadline_after i (period_of t i) 0 es
  bound_deadline =
      sym (deadline_is _ _ (life_at b i).state) ∙ sym (deadline_told i _ _ _ _ (lives.lives (T n l t w) (lawful_table n l t w) i (server, refl) B.reached))
      ∙ ap (λ (x : List Event). deadline_after i (period_of t i) 0 x) B.told

pub accounts : Accounts
accounts b es h i here = go (stage h)
  where
    go : Stage b es → ((life_at b i).left.0 ≡ left_after i (budget_of b.table i) 0 es) × ((life_at b i).deadline.0 ≡ deadline_after i (period_of b.table i) 0 es)
    go (unstarted c z) = rw z (unstarted_accounts b c i (period_of b.table i) (budget_of b.table i))
    go (running n l t w B) =
        let server = server_of n l t w i (sym (ap (λ (x : List Figures). in_table x i) B.table) ∙ here) in
        rw B.table (bound_left n l t w b es B i server, bound_deadline n l t w b es B i server)

pub overholders : Overholders
overholders b es h j stopped i ne here = (deadline b es h i, share b es h i here)
