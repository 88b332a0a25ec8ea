-- The ceiling is the least period among the users of what is locked, and clears what is below each of these: by going over resources and slots.
use Prim.Native.Nat.{ℕ, ◌<◌, ◌≤◌}
use mathlib.Core.Path.{◌≡◌, refl, sym, ap, ◌∙◌}
use mathlib.Core.Logic.{⊎_elim}
use mathlib.Core.Bool.{Bool, true, false}
use native.Mathlib.Omega.{arith}
use borrow.Author.Tests.{ltb-true, ltb-false}
use Rattle.terms.specs.Words.{pick}
use Rattle.terms.proofs.Tests.{not_both, true_or_false}
use Rattle.quantity.specs.declared.Length.{Length}
use Rattle.resources.specs.Resources.{has}
use Rattle.admission.specs.Admission.{slots}
use Rattle.board.specs.declared.Board.{Board}
use Rattle.std.specs.Prelude.{Option, Some, None}
use Rattle.board.specs.Board.{figures_at, uses, ceiling_of, ceiling, clears}
use Rattle.board.proofs.Lower.{absent_not, lowest_clears, lowest_holds, lowest_none, none_lowest, Lowest, lowest_least}

-- what one user adds to the ceiling of r, and what one resource adds to the board's
abbrev user_at : Board → ℕ → ℕ → Option Length
user_at b r x = pick (uses b x r) (Some (figures_at b x).period) None

abbrev lock_at : Board → ℕ → Option Length
lock_at b r = pick (has b.locked r) (ceiling_of b r) None

module _ (p : Length) where
  -- p clears what is picked where it clears the ceiling behind the test, and is held back only where the test holds
  picked_clears : (t : Bool) (c : Option Length) → clears p (pick t c None) ≡ true → t ≡ true → clears p c ≡ true
  picked_clears true c e h = e
  picked_clears false c e h = absurd (not_both h refl)

  picked_holds : (t : Bool) (c : Option Length) → clears p (pick t c None) ≡ false → (t ≡ true) × (clears p c ≡ false)
  picked_holds true c e = (refl, e)
  picked_holds false c e = absurd (not_both refl e)

module _ (b : Board) (p : Length) where
  -- a period that clears the ceiling is below the period of every user of every locked resource
  pub all_clear : clears p (ceiling b) ≡ true → (r x : ℕ) → r < 8 → has b.locked r ≡ true → x < slots → uses b x r ≡ true
      → p.0 < (figures_at b x).period.0
  unfolding ceiling ceiling_of
  all_clear e r x l h m u =
      let c = lowest_clears p (lock_at b) 8 e r l in
      let d = picked_clears p (has b.locked r) (ceiling_of b r) c h in
      let k = lowest_clears p (user_at b r) slots d x m in
      ltb-true _ _ (picked_clears p (uses b x r) (Some (figures_at b x).period) k u)

  -- one that does not is at least the period of a user of a locked resource
  pub held_by : clears p (ceiling b) ≡ false
      → (r : ℕ) × (r < 8) × (has b.locked r ≡ true) × (x : ℕ) × (x < slots) × (uses b x r ≡ true) × ((figures_at b x).period.0 ≤ p.0)
  unfolding ceiling ceiling_of
  held_by e =
      let (r, l, c) = lowest_holds p (lock_at b) 8 e in
      let (h, d) = picked_holds p (has b.locked r) (ceiling_of b r) c in
      let (x, m, k) = lowest_holds p (user_at b r) slots d in
      let (u, z) = picked_holds p (uses b x r) (Some (figures_at b x).period) k in
      (r, l, h, x, m, u, ltb-false _ _ z)

  -- a period below that of every user of every locked resource clears the ceiling
  pub clear_if : ((r x : ℕ) → r < 8 → has b.locked r ≡ true → x < slots → uses b x r ≡ true → p.0 < (figures_at b x).period.0)
      → clears p (ceiling b) ≡ true
  clear_if h =
      ⊎_elim (λ t. t) (λ e.
      let (r, l, k, x, m, u, z) = held_by e in
      absurd (omega (arith, h r x l k m u, z))) (true_or_false (clears p (ceiling b)))

  -- a period at least that of a user of a locked resource does not
  pub held_if : (r x : ℕ) → r < 8 → has b.locked r ≡ true → x < slots → uses b x r ≡ true → (figures_at b x).period.0 ≤ p.0
      → clears p (ceiling b) ≡ false
  held_if r x l h m u z = ⊎_elim (λ e. absurd (omega (arith, all_clear e r x l h m u))) (λ t. t) (true_or_false (clears p (ceiling b)))

-- a user of resource r
pub record User (b : Board) (r : ℕ) (x : ℕ) : Type 0 where
  pub slot : x < slots
  pub user : uses b x r ≡ true

-- a resource that is locked, and a user of it
pub record Locked_user (b : Board) (r x : ℕ) : Type 0 where
  pub resource : r < 8
  pub locked : has b.locked r ≡ true
  pub by : User b r x

pick_period : (t : Bool) (p c : Length) → pick t (Some p) None ≡ Some c → (t ≡ true) × (p ≡ c)
pick_period true p c e = (refl, cc)
pick_period false p c e = absurd (absent_not e)

pick_ceiling : (t : Bool) (d : Option Length) (c : Length) → pick t d None ≡ Some c → (t ≡ true) × (d ≡ Some c)
pick_ceiling true d c e = (refl, e)
pick_ceiling false d c e = absurd (absent_not e)

pick_absent : (t : Bool) (p : Length) → pick t (Some p) None ≡ None → t ≡ false
pick_absent true p e = absurd (absent_not (sym e))
pick_absent false p e = refl

module _ (b : Board) where
  -- a resource's ceiling is the period of a user of it, and at most the period of each
  pub record Least_of (r : ℕ) (c : Length) : Type 0 where
    pub who : ℕ
    pub is_user : User b r who
    pub is_period : (figures_at b who).period ≡ c
    pub least : (x : ℕ) → User b r x → c.0 ≤ (figures_at b x).period.0

  -- which c is, if it is the ceiling of r
  pub ceiling_of_least : (r : ℕ) (c : Length) → ceiling_of b r ≡ Some c → Least_of r c
  unfolding ceiling_of
  ceiling_of_least r c e =
      let h = lowest_least (user_at b r) slots c e in
      let (u, q) = pick_period (uses b h.place r) (figures_at b h.place).period c h.one in
      record {
        who = h.place;
        is_user = record { slot = h.inside; user = u };
        is_period = q;
        least = λ x w. h.least x (figures_at b x).period w.slot
            (ap (λ (t : Bool). pick t (Some (figures_at b x).period) None) w.user);
      }

  -- a resource without a ceiling has no user
  pub ceiling_of_none : (r : ℕ) → ceiling_of b r ≡ None → (x : ℕ) → x < slots → uses b x r ≡ false
  unfolding ceiling_of
  ceiling_of_none r e x l = pick_absent (uses b x r) (figures_at b x).period (lowest_none (user_at b r) slots e x l)

  -- and the other way round
  pub none_ceiling_of : (r : ℕ) → ((x : ℕ) → x < slots → uses b x r ≡ false) → ceiling_of b r ≡ None
  unfolding ceiling_of
  none_ceiling_of r h = none_lowest (user_at b r) slots (λ x l. ap (λ (t : Bool). pick t (Some (figures_at b x).period) None) (h x l))

  -- the board's ceiling is the period of a user of a locked resource, and at most the period of each user of each locked resource
  pub record Least (c : Length) : Type 0 where
    pub resource : ℕ
    pub who : ℕ
    pub is_user : Locked_user b resource who
    pub is_period : (figures_at b who).period ≡ c
    pub least : (r x : ℕ) → Locked_user b r x → c.0 ≤ (figures_at b x).period.0

  -- which c is, if it is the board's ceiling
  pub ceiling_least : (c : Length) → ceiling b ≡ Some c → Least c
  unfolding ceiling
  ceiling_least c e =
      let h = lowest_least (lock_at b) 8 c e in
      let (u, q) = pick_ceiling (has b.locked h.place) (ceiling_of b h.place) c h.one in
      let w = ceiling_of_least h.place c q in
      record {
        resource = h.place;
        who = w.who;
        is_user = record { resource = h.inside; locked = u; by = w.is_user };
        is_period = w.is_period;
        least = λ r x v. at_most h r x v (ceiling_of b r) refl;
      }
    where
      at_most : Lowest (lock_at b) 8 c → (r x : ℕ) → Locked_user b r x → (d : Option Length) → ceiling_of b r ≡ d → c.0 ≤ (figures_at b x).period.0
      at_most h r x v None q = absurd (not_both v.by.user (ceiling_of_none r q x v.by.slot))
      at_most h r x v (Some d) q =
          omega (arith, h.least r d v.resource (ap (λ (t : Bool). pick t (ceiling_of b r) None) v.locked ∙ q), (ceiling_of_least r d q).least x v.by)

  -- with no ceiling, no locked resource has a user
  pub ceiling_none : ceiling b ≡ None → (r x : ℕ) → r < 8 → has b.locked r ≡ true → x < slots → uses b x r ≡ false
  unfolding ceiling
  ceiling_none e r x l h m =
      ceiling_of_none r (sym (ap (λ (t : Bool). pick t (ceiling_of b r) None) h) ∙ lowest_none (lock_at b) 8 e r l) x m

  -- and the other way round
  pub none_ceiling : ((r x : ℕ) → r < 8 → has b.locked r ≡ true → x < slots → uses b x r ≡ false) → ceiling b ≡ None
  unfolding ceiling
  none_ceiling h = none_lowest (lock_at b) 8 (λ r l. free r l (has b.locked r) refl)
    where
      free : (r : ℕ) → r < 8 → (t : Bool) → has b.locked r ≡ t → pick t (ceiling_of b r) None ≡ None
      free r l false q = refl
      free r l true q = none_ceiling_of r (λ x m. h r x l q m)
