-- Every history leads to a board in commissioning with a lawful table, or to a started board of the argument: by going from call to call.
use Prim.Native.Nat.{ℕ, zero, suc}
use mathlib.Core.Path.{◌≡◌, refl, sym, ap, subst, ◌∙◌}
use mathlib.Core.Bool.{Bool, true, false, not, ◌&&◌}
use mathlib.Core.List.{List, [], ◌++◌, append-nil}
use native.Mathlib.Omega.{arith}
use lib.Dec.{eqb, leb}
use lib.ListN.{get_or, replicate}
use borrow.Author.Tests.{eqb-true, ne_eqb}
use Rattle.terms.proofs.Tests.{not_both, either}
use Rattle.quantity.specs.Quantity.{at, largest_frame}
use Rattle.resources.proofs.Laws.{empty_has}
use Rattle.events.specs.Events.{Event}
use Rattle.timing.specs.declared.Figures.{Figures}
use Rattle.timing.specs.Timing.{begun}
use Rattle.admission.specs.Admission.{slots, judged}
use Rattle.refusals.specs.declared.Refusal.{Refusal}
use Rattle.refusals.specs.declared.Refusal.TheVariants.{WrongPhase}
use Rattle.board.specs.declared.Board.{Board}
use Rattle.board.specs.declared.Outcome.{Outcome}
use Rattle.std.specs.Prelude.{Option, Some, None, Result, Ok, Err}
use Rattle.board.specs.Board.{number_of}
use Rattle.board.specs.Calls.{refuse, empty, fresh, opened, commissioning, vacancy, admitted_as, admitted_in, admitted, started, standing, arrives, done_by, locks, unlocks}
use Rattle.board.specs.Run.{runs}
use Rattle.board.specs.Machine.{Call, Open, Admit, Start, Arrive, Done, Lock, Unlock, Run, made}
use Rattle.board.specs.Events.{told}
use Rattle.guarantee.specs.Reached.{start}
use Rattle.guarantee.specs.History.{history}
use Rattle.board.proofs.Commissions.{open_done, open_low}
use Rattle.promise.specs.History.{anew, History, opening, calling}
use Rattle.promise.proofs.Lawful.{Kept}
use Rattle.promise.proofs.Commissioning.{kept_fresh, kept_admitted}
use Rattle.promise.proofs.Look.{view_of}
use Rattle.promise.proofs.Bound.{Bound}
use Rattle.promise.proofs.Arriving.{arrive_bound}
use Rattle.promise.proofs.Resting.{done_bound}
use Rattle.promise.proofs.Locking.{lock_bound}
use Rattle.promise.proofs.Unlocking.{unlock_bound}
use Rattle.promise.proofs.Passing.{run_bound}

-- not started yet: nobody has done anything
pub record Commissioning (b : Board) : Type 0 where
  pub n : ℕ
  pub kept : Kept n b.frame.0 b.table
  pub phase : b.running ≡ false
  pub lives : b.lives ≡ replicate slots begun
  pub clock : b.clock ≡ at 0
  pub locked : b.locked ≡ empty
  pub closed : b.closed ≡ empty

-- where a history stands
pub data Stage (b : Board) (es : List Event) : Type 0 where
  unstarted : Commissioning b → es ≡ [] → Stage b es
  running : (n l : ℕ) (t : List Figures) (w : Kept n l t) → Bound n l t w b es → Stage b es

-- a call that is refused, or leaves the board, in whatever stage
pub stays : (b d : Board) (es fs : List Event) → d ≡ b → fs ≡ [] → Stage b es → Stage d (es ++ fs)
stays b d es fs e f s = subst (λ (x : Board). Stage x (es ++ fs)) (sym e) (subst (λ (x : List Event). Stage b x) (sym (ap (λ (x : List Event). es ++ x) f ∙ append-nil es)) s)

-- at first all are idle with budget 0 and deadline 0
pub begun_at : (k j : ℕ) → get_or (replicate k begun) j begun ≡ begun
begun_at zero j = refl
begun_at (suc k) zero = refl
begun_at (suc k) (suc j) = begun_at k j

-- opening
open_refused : (b : Board) (frame : ℕ) → eqb (number_of (opened b frame).answer) 0 ≡ false → (opened b frame).board ≡ b
unfolding opened
open_refused b frame =
    either (λ (o : Outcome). eqb (number_of o.answer) 0 ≡ false → o.board ≡ b) (leb 1 frame && leb frame largest_frame) (λ e. absurd (not_both refl e)) (λ e. refl)

-- admitting
module _ (b : Board) (p q : ℕ) (hs : List ℕ) where
  abbrev Keeps : Outcome → Type 0
  Keeps o = eqb (number_of o.answer) 0 ≡ false → o.board ≡ b

  admit_as : (i : ℕ) (judged : Result Figures Refusal) → Keeps (admitted_as b i judged)
  unfolding admitted_as
  admit_as i (Ok f) e = absurd (not_both refl e)
  admit_as i (Err why) e = refl

  admit_in : (c : Option ℕ) → Keeps (admitted_in b c p q hs)
  unfolding admitted_in
  admit_in None = λ e. refl
  admit_in (Some i) = admit_as i (judged b.table i b.frame.0 p q hs)

  admit_refused : Keeps (admitted b p q hs)
  unfolding admitted
  admit_refused = either Keeps (not (commissioning b)) (λ e. refl) (admit_in (vacancy b.table))

-- before start, calls of servers are refused
module _ (b : Board) (e : b.running ≡ false) where
  standing_early : (i : ℕ) → standing b i ≡ Err WrongPhase
  unfolding standing
  standing_early i = rw e refl

  arrive_early : (i : ℕ) → arrives b i ≡ refuse b WrongPhase
  unfolding arrives
  arrive_early i = rw (standing_early i) refl

  done_early : (i : ℕ) → done_by b i ≡ refuse b WrongPhase
  unfolding done_by
  done_early i = rw (standing_early i) refl

  pub lock_early : (i r : ℕ) → locks b i r ≡ refuse b WrongPhase
  unfolding locks
  lock_early i r = rw (standing_early i) refl

  unlock_early : (i : ℕ) → unlocks b i ≡ refuse b WrongPhase
  unfolding unlocks
  unlock_early i = rw (standing_early i) refl

  pub run_early : (n : ℕ) → runs b n ≡ refuse b WrongPhase
  unfolding runs
  run_early n = rw e refl

-- after start, opening, admitting and starting are refused
module _ (b : Board) (e : b.running ≡ true) where
  late : commissioning b ≡ false
  unfolding commissioning
  late = rw e refl

  admit_late : (p q : ℕ) (hs : List ℕ) → admitted b p q hs ≡ refuse b WrongPhase
  unfolding admitted
  admit_late p q hs = rw late refl

  start_late : started b ≡ refuse b WrongPhase
  unfolding started
  start_late = rw late refl

-- starting
module _ (b : Board) (c : Commissioning b) where
  early : commissioning b ≡ true
  unfolding commissioning
  early = let z : b.frame.0 ≡ 0 → ⊥ = λ q. omega (arith, c.kept.frame_pos) in rw (c.phase, ne_eqb _ _ z) refl

  start_bound : Bound c.n b.frame.0 b.table c.kept (started b).board []
  unfolding started history
  start_bound = rw early (record {
    frame = refl;
    runs = refl;
    table = refl;
    long = refl;
    clock = omega arith;
    locked = omega arith;
    closed = omega arith;
    dates = λ i. rw (begun_at slots i) (omega arith);
    reached = start (λ j. ap view_of (begun_at slots j)) (λ r. empty_has r);
    told = refl;
  })

  -- any call before start
  unstarted_call : (es : List Event) → es ≡ [] → (x : Call) → anew b x ≡ false → Stage (made b x).board (es ++ told b x)
  unfolding made told
  unstarted_call es z (Open frame) e = stays b _ es [] (open_refused b frame e) refl (unstarted c z)
  unstarted_call es z (Admit p q hs) e = go (eqb (number_of (admitted b p q hs).answer) 0) refl
    where
      go : (x : Bool) → eqb (number_of (admitted b p q hs).answer) 0 ≡ x → Stage (admitted b p q hs).board (es ++ [])
      go false f = stays b _ es [] (admit_refused b p q hs f) refl (unstarted c z)
      go true f =
          let m = kept_admitted c.n b p q hs c.kept (eqb-true _ _ f) in
          unstarted (record { n = suc c.n; kept = m.more; phase = m.phase ∙ c.phase; lives = m.lives ∙ c.lives; clock = m.clock ∙ c.clock; locked = m.locked ∙ c.locked; closed = m.closed ∙ c.closed }) (append-nil es ∙ z)
  unstarted_call es z Start e =
      subst (λ (x : List Event). Stage (started b).board x) (sym (append-nil es ∙ z)) (running c.n b.frame.0 b.table c.kept start_bound)
  unstarted_call es z (Arrive i) e = let k = arrive_early b c.phase i in stays b _ es _ (ap (λ (o : Outcome). o.board) k) (rw k refl) (unstarted c z)
  unstarted_call es z (Done i) e = stays b _ es [] (ap (λ (o : Outcome). o.board) (done_early b c.phase i)) refl (unstarted c z)
  unstarted_call es z (Lock i r) e = let k = lock_early b c.phase i r in stays b _ es _ (ap (λ (o : Outcome). o.board) k) (rw k refl) (unstarted c z)
  unstarted_call es z (Unlock i) e = let k = unlock_early b c.phase i in stays b _ es _ (ap (λ (o : Outcome). o.board) k) (rw k refl) (unstarted c z)
  unstarted_call es z (Run n) e = let k = run_early b c.phase n in stays b _ es _ (ap (λ (o : Outcome). o.board) k) (rw k refl) (unstarted c z)

-- any call after start
module _ (n l : ℕ) (t : List Figures) (w : Kept n l t) (b : Board) (es : List Event) (B : Bound n l t w b es) where
  running_call : (x : Call) → anew b x ≡ false → Stage (made b x).board (es ++ told b x)
  unfolding made told
  running_call (Open frame) e = stays b _ es [] (open_refused b frame e) refl (running n l t w B)
  running_call (Admit p q hs) e = stays b _ es [] (ap (λ (o : Outcome). o.board) (admit_late b B.runs p q hs)) refl (running n l t w B)
  running_call Start e = stays b _ es [] (ap (λ (o : Outcome). o.board) (start_late b B.runs)) refl (running n l t w B)
  running_call (Arrive i) e = running n l t w (arrive_bound n l t w b es B i)
  running_call (Done i) e = running n l t w (done_bound n l t w b es B i)
  running_call (Lock i r) e = running n l t w (lock_bound n l t w b es B i r)
  running_call (Unlock i) e = running n l t w (unlock_bound n l t w b es B i)
  running_call (Run k) e = running n l t w (run_bound n l t w b es B k)

-- every history
opened_stage : (b : Board) (frame : ℕ) → number_of (opened b frame).answer ≡ 0 → Stage (opened b frame).board []
unfolding fresh
opened_stage b frame e =
    let (high, q) = open_done b frame e in
    subst (λ (d : Board). Stage d []) (sym q) (unstarted (record { n = 0; kept = kept_fresh frame (open_low b frame e) high; phase = refl; lives = refl; clock = refl; locked = refl; closed = refl }) refl)

pub stage : {b : Board} {es : List Event} → History b es → Stage b es
stage (opening b frame e) = opened_stage b frame e
stage (calling {b} {es} h c e) = next (stage h)
  where
    next : Stage b es → Stage (made b c).board (es ++ told b c)
    next (unstarted k z) = unstarted_call b k es z c e
    next (running n l t w B) = running_call n l t w b es B c e
