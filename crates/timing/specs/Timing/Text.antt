-- The text of the shut definitions, for the proofs of this crate's functions and for worked cases: no crate above builds on it.
use Rattle.std.specs.Prelude.{ℕ, ◌-◌, ◌*◌, ◌/◌, ◌≡◌, refl, false, true, not}
use Rattle.terms.specs.Words.{pick, largest}
use Rattle.quantity.specs.declared.Instant.{Instant}
use Rattle.quantity.specs.Quantity.{at, ticks, later, before, below}
use Rattle.timing.specs.declared.Figures.{Figures}
use Rattle.timing.specs.declared.Life.{Life}
use Rattle.timing.specs.declared.State.TheVariants.{Ready}
use Rattle.timing.specs.declared.Lock.TheVariants.{Free, On}
use Rattle.timing.specs.declared.Ruling.TheVariants as ruling
use Rattle.timing.specs.Timing.{hold, largest_hold, in_state, tr, replenished, waits, arrived, lacking, asked, settled_in, settled, woken_in, woken, ran_in, ran}

pub largest_hold_is : (f : Figures) → largest_hold f ≡ ticks (largest (λ r. (hold f r).0) 8)
unfolding largest_hold
largest_hold_is f = refl

pub tr_is : (f : Figures) (l : Life) → tr f l ≡ at (l.deadline.0 - l.left.0 * f.period.0 / f.budget.0)
unfolding tr
tr_is f l = refl

pub replenished_is : (f : Figures) (s : Instant) → replenished f s ≡ record { state = Ready false Free; left = f.budget; deadline = later s f.period }
unfolding replenished
replenished_is f s = refl

pub arrived_is : (f : Figures) (l : Life) (now : Instant)
    → arrived f l now ≡ pick (before now (tr f l)) (waits l (tr f l)) (record { life = replenished f now; ruling = ruling.Done })
unfolding arrived
arrived_is f l now = refl

pub asked_is : (f : Figures) (l : Life) (r : ℕ) (now : Instant)
    → asked f l r now ≡ pick (not (below l.left (largest_hold f))) (record { life = in_state l (Ready true (On r (ticks 0))); ruling = ruling.Done }) (lacking f l now)
unfolding asked
asked_is f l r now = refl

pub settled_is : (f : Figures) (l : Life) (now : Instant) → settled f l now ≡ settled_in l.state f l now
unfolding settled
settled_is f l now = refl

pub woken_is : (f : Figures) (l : Life) (now : Instant) → woken f l now ≡ woken_in l.state f l now
unfolding woken
woken_is f l now = refl

pub ran_is : (l : Life) → ran l ≡ ran_in l.state l
unfolding ran
ran_is l = refl
