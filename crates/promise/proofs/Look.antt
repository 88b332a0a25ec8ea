-- Our board as the argument's: the clock, a view of each slot's life, and the locked resources.
use Prim.Native.Nat.{ℕ, ◌<◌, ◌≤◌}
use mathlib.Core.Path.{◌≡◌, refl, ap}
use mathlib.Core.Bool.{true, false}
use native.Mathlib.Omega.{arith}
use native.Mathlib.Decide.{dec_le}
use lib.ListN.{length, get_or-eq_default}
use Rattle.terms.proofs.Tests.{not_both}
use Rattle.resources.specs.Resources.{has}
use Rattle.timing.specs.declared.Life.{Life}
use Rattle.timing.specs.declared.State.{State}
use Rattle.timing.specs.declared.State.TheVariants.{Idle, Ready, Suspended, Spent, Stopped}
use Rattle.timing.specs.declared.Lock.TheVariants.{Free, On}
use Rattle.timing.specs.Timing.{begun, is_ready, is_started}
use Rattle.admission.specs.Admission.{slots}
use Rattle.board.specs.declared.Board.{Board}
use Rattle.board.specs.Board.{life_at}
use Rattle.guarantee.specs.Board.{View, idle, ready, suspended, spent, stopped, free, on, Started, Fresh, Owes, deadline, budget}
use Rattle.guarantee.specs.Board as abstract

abbrev pub view_in : State → ℕ → ℕ → View
view_in Idle q d = idle q 0 d
view_in (Ready s Free) q d = ready q 0 d s free
view_in (Ready s (On r n)) q d = ready q 0 d s (on r n.0)
view_in (Suspended t) q d = suspended t.0 q 0 d
view_in Spent q d = spent q 0 d
view_in Stopped q d = stopped q 0 d

abbrev pub view_of : Life → View
view_of l = view_in l.state l.left.0 l.deadline.0

abbrev pub look : Board → abstract.State
look b = record { now = b.clock.0; view = λ i. view_of (life_at b i); locked = has b.locked }

-- the view of a life by its state
pub view_by : (l : Life) (s : State) → l.state ≡ s → view_of l ≡ view_in s l.left.0 l.deadline.0
view_by l s e = ap (λ (x : State). view_in x l.left.0 l.deadline.0) e

module _ (q d : ℕ) where
  -- the deadline and the budget of the view are those of the life
  both_are : (s : State) → (deadline (view_in s q d) ≡ d) × (budget (view_in s q d) ≡ q)
  both_are Idle = (refl, refl)
  both_are (Ready s Free) = (refl, refl)
  both_are (Ready s (On r n)) = (refl, refl)
  both_are (Suspended t) = (refl, refl)
  both_are Spent = (refl, refl)
  both_are Stopped = (refl, refl)

  pub deadline_is : (s : State) → deadline (view_in s q d) ≡ d
  deadline_is s = (both_are s).0

  pub budget_is : (s : State) → budget (view_in s q d) ≡ q
  budget_is s = (both_are s).1

  -- ready, started, fresh and with budget, as a test of the state and as a fact of the view
  pub ready_in : (s : State) → is_ready s ≡ true → abstract.Ready (view_in s q d)
  ready_in (Ready s Free) e = tt
  ready_in (Ready s (On r n)) e = tt
  ready_in Idle e = absurd (not_both e refl)
  ready_in (Suspended t) e = absurd (not_both e refl)
  ready_in Spent e = absurd (not_both e refl)
  ready_in Stopped e = absurd (not_both e refl)

  pub ready_out : (s : State) → abstract.Ready (view_in s q d) → is_ready s ≡ true
  ready_out (Ready s k) a = refl
  ready_out Idle a = elim a [ ]
  ready_out (Suspended _) a = elim a [ ]
  ready_out Spent a = elim a [ ]
  ready_out Stopped a = elim a [ ]

  pub started_in : (s : State) → is_started s ≡ true → Started (view_in s q d)
  started_in (Ready true Free) e = tt
  started_in (Ready true (On r n)) e = tt
  started_in (Ready false k) e = absurd (not_both e refl)
  started_in Idle e = absurd (not_both e refl)
  started_in (Suspended t) e = absurd (not_both e refl)
  started_in Spent e = absurd (not_both e refl)
  started_in Stopped e = absurd (not_both e refl)

  pub started_out : (s : State) → Started (view_in s q d) → is_started s ≡ true
  started_out (Ready true Free) a = refl
  started_out (Ready true (On r n)) a = refl
  started_out (Ready false Free) a = absurd a
  started_out (Ready false (On r n)) a = absurd a
  started_out Idle a = elim a [ ]
  started_out (Suspended _) a = elim a [ ]
  started_out Spent a = elim a [ ]
  started_out Stopped a = elim a [ ]

  pub fresh_in : (s : State) → is_ready s ≡ true → is_started s ≡ false → Fresh (view_in s q d)
  fresh_in (Ready false Free) e f = tt
  fresh_in (Ready false (On r n)) e f = tt
  fresh_in (Ready true k) e f = absurd (not_both refl f)
  fresh_in Idle e f = absurd (not_both e refl)
  fresh_in (Suspended t) e f = absurd (not_both e refl)
  fresh_in Spent e f = absurd (not_both e refl)
  fresh_in Stopped e f = absurd (not_both e refl)

  pub owes_in : (s : State) → is_ready s ≡ true → 0 < q → Owes (view_in s q d)
  owes_in (Ready s Free) e h = h
  owes_in (Ready s (On r n)) e h = h
  owes_in Idle e h = absurd (not_both e refl)
  owes_in (Suspended t) e h = absurd (not_both e refl)
  owes_in Spent e h = absurd (not_both e refl)
  owes_in Stopped e h = absurd (not_both e refl)

-- there is no slot past the array
pub life_beyond : (b : Board) (j : ℕ) → length b.lives ≡ slots → slots ≤ j → life_at b j ≡ begun
life_beyond b j e h = get_or-eq_default b.lives begun (omega arith)

pub slot_of_ready : (b : Board) (j : ℕ) → length b.lives ≡ slots → abstract.Ready ((look b).view j) → j < slots
slot_of_ready b j e a = go (dec_le slots j)
  where
    go : Dec (slots ≤ j) → j < slots
    go (no z) = omega arith
    go (yes h) = absurd (rw (life_beyond b j e h) at a)
