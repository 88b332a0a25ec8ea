-- Who is named, in the words of the order and the ceiling: by the first of the ready servers, and whether it may go.
use Prim.Native.Nat.{ℕ, ◌<◌}
use mathlib.Core.Path.{◌≡◌, refl, sym, ap, ◌∙◌}
use mathlib.Core.Logic.{◌⊎◌, inl, inr, ⊎_elim}
use mathlib.Core.Bool.{Bool, true, false, ◌||◌}
use Rattle.terms.specs.Words.{pick}
use Rattle.terms.proofs.Tests.{not_both, true_or_false, or_left, or_right, or_out}
use Rattle.resources.specs.Resources.{has}
use Rattle.timing.specs.declared.State.{State}
use Rattle.timing.specs.declared.State.TheVariants.{Idle, Ready, Suspended, Spent, Stopped}
use Rattle.timing.specs.Timing.{is_ready, is_started}
use Rattle.admission.specs.Admission.{slots}
use Rattle.board.specs.declared.Board.{Board}
use Rattle.std.specs.Prelude.{Option, Some, None}
use Rattle.board.specs.Board.{figures_at, life_at, stands, is_first, first, lowest, ceiling_of, ceiling, clears, may_go, named_by, named}
use Rattle.board.proofs.Search.{no_slot, same_slot, search_none, search_only, search_out}
use Rattle.board.proofs.First.{Leads, first_in, first_stands, first_leads, first_none, only}
use Rattle.board.proofs.Lowest.{lowest_rest}

started_ready : (s : State) → is_started s ≡ true → is_ready s ≡ true
started_ready (Ready s k) e = refl
started_ready Idle e = e
started_ready (Suspended t) e = e
started_ready Spent e = e
started_ready Stopped e = e

-- i is the first of the ready servers, or of the started ones
pub record First_of (b : Board) (s : Bool) (i : ℕ) : Type 0 where
  pub below : i < slots
  pub one : stands b s i ≡ true
  pub leads : (j : ℕ) → j < slots → stands b s j ≡ true → Leads b s i j

module _ (b : Board) (s : Bool) where
  pub first_found : (i : ℕ) → first b s ≡ Some i → First_of b s i
  unfolding first
  first_found i e =
      let (l, f) = search_out (is_first b s) slots i e in
      record { below = l; one = first_stands b s i f; leads = first_leads b s i f }

  pub found_first : (i : ℕ) → First_of b s i → first b s ≡ Some i
  unfolding first
  found_first i h =
      let f = first_in b s i h.one h.leads in
      search_only (is_first b s) slots i h.below f (λ j l g. only b s i j h.below l f g)

  pub none_first : ((j : ℕ) → j < slots → stands b s j ≡ false) → first b s ≡ None
  unfolding first
  none_first h =
      search_none (is_first b s) slots (λ j l.
      ⊎_elim (λ f. absurd (not_both (first_stands b s j f) (h j l))) (λ f. f) (true_or_false (is_first b s j)))

module _ (b : Board) where
  -- slot f may go, or is held back by the ceiling
  unfoldable pub Goes : ℕ → Type 0
  Goes f = (is_started (life_at b f).state ≡ true) ⊎ (clears (figures_at b f).period (ceiling b) ≡ true)

  unfoldable pub Held : ℕ → Type 0
  Held f = (is_started (life_at b f).state ≡ false) × (clears (figures_at b f).period (ceiling b) ≡ false)

  goes_out : (f : ℕ) → may_go b f ≡ true → Goes f
  unfolding may_go Goes
  goes_out f e = or_out (is_started (life_at b f).state) (clears (figures_at b f).period (ceiling b)) e

  goes_in : (f : ℕ) → Goes f → may_go b f ≡ true
  unfolding may_go Goes
  goes_in f (inl e) = or_left _ _ e
  goes_in f (inr e) = or_right (is_started (life_at b f).state) _ e

  held_out : (f : ℕ) → may_go b f ≡ false → Held f
  unfolding may_go Held
  held_out f e = neither (is_started (life_at b f).state) _ e
    where
      neither : (x y : Bool) → (x || y) ≡ false → (x ≡ false) × (y ≡ false)
      neither true y q = absurd (not_both refl q)
      neither false y q = (refl, q)

  held_in : (f : ℕ) → Held f → may_go b f ≡ false
  unfolding may_go Held
  held_in f (e, g) = simp (e, g)

  -- why slot m is named: it is first and may go, or the first is held back and m is the first of the started
  pub data Why (m : ℕ) : Type 0 where
    itself : First_of b false m → Goes m → Why m
    instead : (f : ℕ) → First_of b false f → Held f → First_of b true m → Why m

  -- why nobody is: none is ready, or the first is held back and none is started
  pub data Unnamed : Type 0 where
    unready : ((j : ℕ) → j < slots → is_ready (life_at b j).state ≡ false) → Unnamed
    unstarted : (f : ℕ) → First_of b false f → Held f → ((j : ℕ) → j < slots → is_started (life_at b j).state ≡ false) → Unnamed

  -- the named choice, from the first of the ready and whether it may go
  named_none : first b false ≡ None → named b ≡ None
  unfolding named named_by
  named_none e = simp e

  named_itself : (f : ℕ) → first b false ≡ Some f → may_go b f ≡ true → named b ≡ Some f
  unfolding named named_by
  named_itself f e g = simp (e, g)

  named_instead : (f : ℕ) → first b false ≡ Some f → may_go b f ≡ false → named b ≡ first b true
  unfolding named named_by
  named_instead f e g = simp (e, g)

  pub named_why : (m : ℕ) → named b ≡ Some m → Why m
  named_why m e = go (first b false) refl
    where
      go : (c : Option ℕ) → first b false ≡ c → Why m
      go None q = absurd (no_slot (sym (named_none q) ∙ e))
      go (Some f) q = may (may_go b f) refl
        where
          may : (g : Bool) → may_go b f ≡ g → Why m
          may true g =
              let s : f ≡ m = same_slot (sym (named_itself f q g) ∙ e) in
              itself (first_found b false m (q ∙ ap Some s)) (goes_out m (ap (may_go b) (sym s) ∙ g))
          may false g = instead f (first_found b false f q) (held_out f g) (first_found b true m (sym (named_instead f q g) ∙ e))

  pub why_named : (m : ℕ) → Why m → named b ≡ Some m
  why_named m (itself h g) = named_itself m (found_first b false m h) (goes_in m g)
  why_named m (instead f h g k) = named_instead f (found_first b false f h) (held_in f g) ∙ found_first b true m k

  pub nobody_why : named b ≡ None → Unnamed
  nobody_why e = go (first b false) refl
    where
      go : (c : Option ℕ) → first b false ≡ c → Unnamed
      go None q = unready (first_none b false q)
      go (Some f) q = may (may_go b f) refl
        where
          may : (g : Bool) → may_go b f ≡ g → Unnamed
          may true g = absurd (no_slot (sym e ∙ named_itself f q g))
          may false g = unstarted f (first_found b false f q) (held_out f g) (first_none b true (sym (named_instead f q g) ∙ e))

  pub why_nobody : Unnamed → named b ≡ None
  why_nobody (unready h) = named_none (none_first b false h)
  why_nobody (unstarted f h g k) = named_instead f (found_first b false f h) (held_in f g) ∙ none_first b true k

  -- a named slot is a ready server's
  pub named_below : (m : ℕ) → named b ≡ Some m → m < slots
  named_below m e = go (named_why m e)
    where
      go : Why m → m < slots
      go (itself h g) = h.below
      go (instead f h g k) = k.below

  pub named_ready : (m : ℕ) → named b ≡ Some m → is_ready (life_at b m).state ≡ true
  named_ready m e = go (named_why m e)
    where
      go : Why m → is_ready (life_at b m).state ≡ true
      go (itself h g) = h.one
      go (instead f h g k) = started_ready (life_at b m).state k.one

  -- nothing is locked: there is no ceiling
  pub no_ceiling : ((r : ℕ) → has b.locked r ≡ false) → ceiling b ≡ None
  unfolding ceiling lowest
  no_ceiling h = lowest_rest (λ r. pick (has b.locked r) (ceiling_of b r) None) 0 8 (λ r l. simp (h r))

  -- where a started server stands behind each lock, nobody is named only if none is ready
  pub nobody_unready : ((r : ℕ) → has b.locked r ≡ true → (i : ℕ) × (i < slots) × (is_started (life_at b i).state ≡ true))
      → named b ≡ None → (j : ℕ) → j < slots → is_ready (life_at b j).state ≡ false
  unfolding Held
  nobody_unready holder e = go (nobody_why e)
    where
      go : Unnamed → (j : ℕ) → j < slots → is_ready (life_at b j).state ≡ false
      go (unready h) = h
      go (unstarted f h (x, y) k) = absurd (not_both refl (simp (no_ceiling free) at y))
        where
          free : (r : ℕ) → has b.locked r ≡ false
          free r =
              ⊎_elim (λ t. let (i, l, u) = holder r t in absurd (not_both u (k i l))) (λ t. t) (true_or_false (has b.locked r))
