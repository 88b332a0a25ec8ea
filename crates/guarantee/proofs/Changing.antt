-- Promise 3 on a board whose table changes while it runs.
use Prim.Native.Nat.{ℕ, ◌+◌, ◌*◌, ◌≤◌, ◌<◌}
use mathlib.Core.Path.{◌≡◌, refl, sym, ap, ◌∙◌}
use mathlib.Core.List.{List, [], ◌∷◌, ◌++◌, append-nil, append_assoc}
use native.Mathlib.Decide.{ℕ_discrete}
use lib.Dec.{eqb}
use borrow.Author.Tests.{eq-eqb, ne_eqb}
use Rattle.terms.specs.Words.{pick}
use Rattle.events.specs.Events.{Event, Replenished, ticks, last_start}
use Rattle.guarantee.specs.Life.{Life, ends, ran, made, other}
use Rattle.guarantee.specs.Table.{Table, Present}
use Rattle.guarantee.specs.Lawful.{Lawful}
use Rattle.guarantee.specs.Board.{State, Owes, deadline, budget, part}
use Rattle.guarantee.specs.Reached.{Reached, start, next}
use Rattle.guarantee.specs.History.{step_told, history}
use Rattle.guarantee.specs.HeldBack.{HeldBack, Stretch, AtMostOneHold}
use Rattle.guarantee.specs.Changing.{Same, ReachedOver, start as begun, next as stepped, exchange, whole, since}
use Rattle.guarantee.proofs.InTime.{in_time}
use Rattle.guarantee.proofs.Steps.{Sound, step}
use Rattle.guarantee.proofs.Guarantee.{begins}
use Rattle.guarantee.proofs.Lives.{join, step_lives, shared}
use Rattle.guarantee.proofs.HeldBack.{held_owes, waits_briefly}
use Rattle.guarantee.proofs.Exchange.{present_before, exchanged}

-- the table of the moment is lawful, and every board that is reached keeps its invariants
pub lawful_now : {t : Table} {s : State} → ReachedOver t s → Lawful t
lawful_now (begun l h k) = l
lawful_now (stepped r e) = lawful_now r
lawful_now (exchange i r l x) = l

pub sound_over : {t : Table} {s : State} → ReachedOver t s → Sound t s
sound_over {t} {s} (begun l h k) = begins t l.ruled s h k
sound_over (stepped {t} {s} {s'} r e) = step t (lawful_now r) s s' (sound_over r) e
sound_over (exchange {t} {t'} {s} {s'} i r l x) = exchanged t t' s s' i x l.ruled (sound_over r)

-- statement 1: a ready server with budget is before its deadline
pub guarantee_over : {t : Table} {s : State} → ReachedOver t s → (j : ℕ) → Owes (s.view j) → s.now < deadline (s.view j)
guarantee_over {t} {s} r j a = in_time t (lawful_now r).laws s (sound_over r).inv j a

-- a server that is held back waits briefly: it is ready all the time, so nothing is exchanged meanwhile
pub held_back_over : {t : Table} {s : State} → ReachedOver t s → (s' : State) (f : ℕ) → HeldBack t s f → (w : Stretch t f s s')
    → AtMostOneHold t (deadline (s.view f)) w
held_back_over {t} {s} r s' f b w = waits_briefly t (lawful_now r) f s (sound_over r) (held_owes t s (sound_over r) f b) w

-- a life under other rules that say the same is the same life
module _ (i P Q : ℕ) (f g f' g' : ℕ → ℕ → ℕ → ℕ) (tr : (q z d : ℕ) → f' q z d ≡ f q z d) (rest : (q z d : ℕ) → g' q z d ≡ g q z d) where
  relived : {q z d q' z' d' : ℕ} {es : List Event} → Life i P Q f g q z d es q' z' d' → Life i P Q f' g' q z d es q' z' d'
  relived ends = ends
  relived (ran l) = ran (relived l)
  relived (made {q} {z} {d} {c} {s} k b l) = made {q = q} {z = z} {d = d} {c = c} {s = s} (rw (tr q z d) k) (rw (rest q z d) b) (relived l)
  relived (other n l) = other n (relived l)

module _ (i : ℕ) where
  -- the life of slot i since its server was admitted, by the figures of the table of the moment
  abbrev pub LifeSince : (t : Table) → State → List Event → Type 0
  LifeSince t s es = Life i (t.P i) (t.Q i) (t.tr i) (t.rest i) 0 0 0 es (budget (s.view i)) (part (s.view i)) (deadline (s.view i))

  -- its figures stay while it is not exchanged
  kept : (t t' : Table) → Same t t' i → (s : State) (es : List Event) → LifeSince t s es → LifeSince t' s es
  kept t t' e s es l = rw (e.P, e.Q) (relived i (t.P i) (t.Q i) (t.tr i) (t.rest i) (t'.tr i) (t'.rest i) e.tr e.rest l)

  pub lives_over : {t : Table} {s : State} (r : ReachedOver t s) → Present t i → LifeSince t s (since i r)
  unfolding since
  lives_over (begun l h k) b = rw (h i) ends
  lives_over (stepped {t} {s} {s'} r e) b = join t (lawful_now r) i b (lives_over r b) (step_lives t (lawful_now r) i b s s' (sound_over r) e)
  lives_over (exchange {t} {t'} {s} {s'} k r l x) b = go (ℕ_discrete k i) (lives_over r)
    where
      go : Dec (k ≡ i) → (Present t i → LifeSince t s (since i r)) → LifeSince t' s' (pick (eqb k i) [] (since i r))
      go (yes e) less = rw (eq-eqb k i e, ← e, x.anew) ends
      go (no n) less =
          let e = x.figures i (λ q. n (sym q)) in
          rw (ne_eqb k i n, x.others i (λ q. n (sym q))) (kept t t' e s (since i r) (less (present_before t t' x.slots i e b)))

  -- statement 2: however the events since then, or a part of them from its beginning, are cut as before, Replenished i S, after
  pub share_over : {t : Table} {s : State} (r : ReachedOver t s) → Present t i → (before : List Event) (S : ℕ) (after rest : List Event)
      → since i r ≡ (before ++ Replenished i S ∷ after) ++ rest
      → ticks i after * t.P i + t.Q i * S ≤ t.Q i * (last_start i S after + t.P i) + t.slop i
  share_over {t} r b = shared t (lawful_now r) i b (since i r) (lives_over r b)

  -- these are the last of all events of the run
  pub since_last : {t : Table} {s : State} (r : ReachedOver t s) → (es : List Event) × (whole r ≡ es ++ since i r)
  unfolding whole since
  since_last (begun l h k) = ([], refl)
  since_last (stepped {t} r e) = let (es, p) = since_last r in (es, ap (λ (x : List Event). x ++ step_told t e) p ∙ append_assoc es (since i r) (step_told t e))
  since_last (exchange k r l x) = go (ℕ_discrete k i) (since_last r)
    where
      go : Dec (k ≡ i) → (es : List Event) × (whole r ≡ es ++ since i r) → (es : List Event) × (whole r ≡ es ++ pick (eqb k i) [] (since i r))
      go (yes e) w = (whole r, rw (eq-eqb k i e) (sym (append-nil (whole r))))
      go (no n) w = rw (ne_eqb k i n) w

-- a run over one table is such a run: nothing is exchanged in it
module _ (t : Table) (L : Lawful t) where
  pub over_one : {s : State} → Reached t s → ReachedOver t s
  over_one (start h k) = begun L h k
  over_one (next r e) = stepped (over_one r) e

  pub whole_one : {s : State} (r : Reached t s) → whole (over_one r) ≡ history t r
  unfolding over_one whole history
  whole_one (start h k) = refl
  whole_one (next r e) = ap (λ (x : List Event). x ++ step_told t e) (whole_one r)

  pub since_one : (i : ℕ) {s : State} (r : Reached t s) → since i (over_one r) ≡ history t r
  unfolding over_one since history
  since_one i (start h k) = refl
  since_one i (next r e) = ap (λ (x : List Event). x ++ step_told t e) (since_one i r)
