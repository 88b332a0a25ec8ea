-- What the rules of one server state, for the crates above: each follows from the rule's text by its tests.
use Rattle.std.specs.Prelude.{ℕ, ◌+◌, ◌-◌, ◌*◌, ◌/◌, ◌<◌, ◌≤◌, ◌≡◌, ◌⊎◌, Bool, true, false, get_or}
use Rattle.std.proofs.Math.Path.{refl, ap}
use native.Mathlib.Omega.{arith}
use Rattle.std.proofs.Math.Nat.{mul-le-mul_left, mul-le-mul_right, mul-add, mul-div-le, le_of_mul-le-mul_left, zero-mul, zero-div, sub-zero}
use Rattle.std.proofs.Common.{le-div_iff_mul-le}
use Rattle.std.proofs.Math.Decide.{dec_le}
use borrow.Author.Tests.{not-false, lt-ltb, le-ltb, eq-eqb, ne_eqb}
use Rattle.terms.specs.Words.{largest}
use Rattle.terms.proofs.Over.{largest_upper, largest_one}
use Rattle.quantity.specs.declared.Instant.{Instant}
use Rattle.quantity.specs.declared.Length.{Length}
use Rattle.quantity.specs.Quantity.{before, at, ticks, shorter, last_instant, clock_end, longest_period}
use Rattle.quantity.proofs.Laws.{later_exact}
use Rattle.timing.specs.declared.Figures.{Figures}
use Rattle.timing.specs.declared.Life.{Life}
use Rattle.timing.specs.declared.State.{State}
use Rattle.timing.specs.declared.State.TheVariants.{Idle, Ready, Suspended, Spent, Stopped}
use Rattle.timing.specs.declared.Lock.{Lock}
use Rattle.timing.specs.declared.Lock.TheVariants.{Free, On}
use Rattle.timing.specs.declared.Ruling.TheVariants as ruling
use Rattle.timing.specs.Timing.{hold, Ranged, largest_hold, in_state, tr, replenished, waits, arrived, lacking, asked, comes, ended, settled, due_in, due, woken_in, woken, held_on, ran}

-- the replenishment instant: P the period, Q the budget, q what is left of it, d the deadline
module _ (f : Figures) (l : Life) where
  -- how long before the deadline it is
  back : ℕ
  back = l.left.0 * f.period.0 / f.budget.0

  -- A0: it is not before d - q / alpha, with alpha = Q / P
  pub tr_A0 : f.budget.0 * l.deadline.0 ≤ f.budget.0 * (tr f l).0 + l.left.0 * f.period.0
  unfolding tr back
  tr_A0 =
      let d = l.deadline.0 in
      let m : d ≤ d - back + back = omega arith in
      omega (arith, mul-le-mul_left f.budget.0 m, mul-add f.budget.0 (d - back) back, mul-div-le (l.left.0 * f.period.0) f.budget.0)

  -- and it is the least whole instant that is not
  pub tr_least : 0 < f.budget.0 → (t : ℕ) → f.budget.0 * l.deadline.0 ≤ f.budget.0 * t + l.left.0 * f.period.0 → (tr f l).0 ≤ t
  unfolding tr back
  tr_least p t h = go (dec_le l.deadline.0 t)
    where
      go : Dec (l.deadline.0 ≤ t) → l.deadline.0 - l.left.0 * f.period.0 / f.budget.0 ≤ t
      go (yes b) = omega arith
      go (no z) =
          let e : l.deadline.0 ≡ t + (l.deadline.0 - t) = omega arith in
          let k : (l.deadline.0 - t) * f.budget.0 ≤ l.left.0 * f.period.0 = omega (arith, h, ap (λ (n : ℕ). f.budget.0 * n) e) in
          omega (arith, (le-div_iff_mul-le p).1 k)

  -- with at most the whole budget left it is at most a period before
  back_le : 0 < f.budget.0 → l.left.0 ≤ f.budget.0 → back ≤ f.period.0
  unfolding back
  back_le p h =
      let k : f.budget.0 * back ≤ f.budget.0 * f.period.0 = omega (arith, mul-div-le (l.left.0 * f.period.0) f.budget.0, mul-le-mul_right f.period.0 h) in
      le_of_mul-le-mul_left k p

  -- A1
  pub tr_A1 : 0 < f.budget.0 → l.left.0 ≤ f.budget.0 → l.deadline.0 ≤ (tr f l).0 + f.period.0
  unfolding tr back
  tr_A1 p h = omega (arith, back_le p h)

  -- A2
  pub tr_A2 : l.left.0 ≡ 0 → tr f l ≡ l.deadline
  unfolding tr
  tr_A2 e = simp (e, zero-mul, zero-div, sub-zero)

  pub tr_by_deadline : (tr f l).0 ≤ l.deadline.0
  unfolding tr
  tr_by_deadline = omega arith

  -- nothing is cut at 0 once the deadline is a period away from the clock's begin
  pub tr_exact : 0 < f.budget.0 → l.left.0 ≤ f.budget.0 → f.period.0 ≤ l.deadline.0
      → (tr f l).0 + l.left.0 * f.period.0 / f.budget.0 ≡ l.deadline.0
  unfolding tr back
  tr_exact p h k = omega (arith, back_le p h)

-- replenish from s: q = Q, d = s + P, ready, not started, holding nothing; the figures stand apart and stay
module _ (f : Figures) (s : Instant) where
  pub replenished_left : (replenished f s).left ≡ f.budget
  unfolding replenished
  replenished_left = refl

  pub replenished_state : (replenished f s).state ≡ Ready false Free
  unfolding replenished
  replenished_state = refl

  pub replenished_deadline : s.0 + f.period.0 ≤ last_instant → (replenished f s).deadline ≡ at (s.0 + f.period.0)
  unfolding replenished
  replenished_deadline h = later_exact s f.period h

  -- on a board in its ranges nothing saturates
  pub replenished_exact : Ranged f → s.0 ≤ clock_end + longest_period → (replenished f s).deadline ≡ at (s.0 + f.period.0)
  replenished_exact r h = replenished_deadline (omega (arith, r.period_high))

-- there is no hold of a resource above 7
pub hold_outside : (f : Figures) (r : ℕ) → 8 ≤ r → hold f r ≡ ticks 0
unfolding hold
hold_outside f r h = simp (le-ltb _ _ h)

pub hold_inside : (f : Figures) (r : ℕ) → r < 8 → hold f r ≡ get_or f.holds r (ticks 0)
unfolding hold
hold_inside f r h = simp (lt-ltb _ _ h)

-- the largest of the holds: at least each, and one of them or 0
pub largest_hold_upper : (f : Figures) (r : ℕ) → (hold f r).0 ≤ (largest_hold f).0
unfolding largest_hold
largest_hold_upper f r = go (dec_le 8 r)
  where
    go : Dec (8 ≤ r) → (hold f r).0 ≤ largest (λ k. (hold f k).0) 8
    go (yes h) = rw (hold_outside f r h) (omega arith)
    go (no z) = largest_upper (λ k. (hold f k).0) 8 r (omega arith)

pub largest_hold_one : (f : Figures) → ((r : ℕ) × (r < 8) × ((largest_hold f).0 ≡ (hold f r).0)) ⊎ ((largest_hold f).0 ≡ 0)
unfolding largest_hold
largest_hold_one f = largest_one (λ k. (hold f k).0) 8

-- arrive: before tr suspended until tr, else replenished from now
module _ (f : Figures) (l : Life) (now : Instant) where
  pub arrived_later : now.0 < (tr f l).0 → arrived f l now ≡ waits l (tr f l)
  unfolding arrived
  arrived_later h = simp (lt-ltb _ _ h)

  pub arrived_now : (tr f l).0 ≤ now.0 → arrived f l now ≡ record { life = replenished f now; ruling = ruling.Done }
  unfolding arrived
  arrived_now h = simp (le-ltb _ _ h)

  -- lock: granted with the largest hold at hand, else suspended until tr, else renewed from tr
  module _ (r : ℕ) where
    pub asked_granted : (largest_hold f).0 ≤ l.left.0 → asked f l r now ≡ record { life = in_state l (Ready true (On r (ticks 0))); ruling = ruling.Done }
    unfolding asked
    asked_granted h = simp (le-ltb _ _ h)

    pub asked_later : l.left.0 < (largest_hold f).0 → now.0 < (tr f l).0 → asked f l r now ≡ waits l (tr f l)
    unfolding asked lacking
    asked_later h k = simp (lt-ltb _ _ h, lt-ltb _ _ k)

    pub asked_renewed : l.left.0 < (largest_hold f).0 → (tr f l).0 ≤ now.0
        → asked f l r now ≡ record { life = replenished f (tr f l); ruling = ruling.Renewed }
    unfolding asked lacking
    asked_renewed h k = simp (lt-ltb _ _ h, le-ltb _ _ k)

  -- the spent rule: a ready server with nothing left and no lock; every other stays
  module _ (started : Bool) where
    pub settled_spent : l.state ≡ Ready started Free → l.left.0 ≡ 0 → now.0 < l.deadline.0 → settled f l now ≡ in_state l Spent
    unfolding settled ended comes
    settled_spent e z h = simp (e, eq-eqb _ _ z, lt-ltb _ _ h)

    pub settled_renewed : l.state ≡ Ready started Free → l.left.0 ≡ 0 → l.deadline.0 ≤ now.0 → settled f l now ≡ replenished f l.deadline
    unfolding settled ended comes
    settled_renewed e z h = simp (e, eq-eqb _ _ z, le-ltb _ _ h)

    pub settled_left : l.state ≡ Ready started Free → 0 < l.left.0 → settled f l now ≡ l
    unfolding settled ended
    settled_left e h = let n : l.left.0 ≡ 0 → ⊥ = λ z. omega arith in simp (e, ne_eqb _ _ n)

    pub settled_holds : (r : ℕ) (n : Length) → l.state ≡ Ready started (On r n) → settled f l now ≡ l
    unfolding settled
    settled_holds r n e = simp e

  -- an instant that has come: suspended until it, or spent until the deadline; every other stays
  pub woken_suspended : (t : Instant) → l.state ≡ Suspended t → t.0 ≤ now.0 → woken f l now ≡ replenished f t
  unfolding woken comes
  woken_suspended t e h = simp (e, le-ltb _ _ h)

  pub woken_waits : (t : Instant) → l.state ≡ Suspended t → now.0 < t.0 → woken f l now ≡ l
  unfolding woken comes
  woken_waits t e h = simp (e, lt-ltb _ _ h)

  pub woken_spent : l.state ≡ Spent → l.deadline.0 ≤ now.0 → woken f l now ≡ replenished f l.deadline
  unfolding woken comes
  woken_spent e h = simp (e, le-ltb _ _ h)

  pub woken_spent_waits : l.state ≡ Spent → now.0 < l.deadline.0 → woken f l now ≡ l
  unfolding woken comes
  woken_spent_waits e h = simp (e, lt-ltb _ _ h)

  pub woken_ready : (started : Bool) (k : Lock) → l.state ≡ Ready started k → woken f l now ≡ l
  unfolding woken
  woken_ready started k e = simp e

  pub woken_idle : l.state ≡ Idle → woken f l now ≡ l
  unfolding woken
  woken_idle e = simp e

  pub woken_stopped : l.state ≡ Stopped → woken f l now ≡ l
  unfolding woken
  woken_stopped e = simp e

-- who is not due stays as it is
pub woken_not_due : (f : Figures) (l : Life) (now : Instant) → due l now ≡ false → woken f l now ≡ l
unfolding due woken comes
woken_not_due f l now = go l.state refl
  where
    go : (s : State) → l.state ≡ s → due_in l.state l now ≡ false → woken_in l.state f l now ≡ l
    go Idle e h = simp e
    go (Ready started k) e h = simp e
    go Stopped e h = simp e
    go (Suspended t) e h = simp (e, not-false (before now t) (simp e at h))
    go Spent e h = simp (e, not-false (before now l.deadline) (simp e at h))

-- one tick of the server that runs
pub ran_ready : (l : Life) (started : Bool) (k : Lock) → l.state ≡ Ready started k
    → ran l ≡ record { state = Ready true (held_on k); left = shorter l.left (ticks 1); deadline = l.deadline }
unfolding ran
ran_ready l started k e = simp e
