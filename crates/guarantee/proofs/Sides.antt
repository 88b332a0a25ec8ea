-- Two sides that pass, each its own test, make a table that passes the common test.
use Prim.Native.Nat.{ℕ, ◌+◌, ◌*◌, ◌/◌, ◌≤◌, ◌<◌}
use mathlib.Core.Path.{◌≡◌, refl, ap, ◌∙◌}
use mathlib.Core.Logic.{⊎_elim}
use mathlib.Core.Bool.{Bool, true, false, not, ◌&&◌}
use native.Mathlib.Omega.{arith}
use native.Mathlib.Nat.{mul-le-mul, mul-le-mul_left, mul-le-mul_right, le_of_mul-le-mul_left, le_of_mul-le-mul_right}
use native.Mathlib.Decide.{dec_le, dec_lt}
use lib.Dec.{leb}
use borrow.Author.Tests.{lt-leb}
use Rattle.terms.specs.Words.{when}
use Rattle.terms.proofs.Over.{sum_le}
use Rattle.terms.proofs.Tests.{true_or_false, and_in, and_left}
use Rattle.guarantee.specs.Table.{Rule, Table, Wait, nobody, holder, load}
use Rattle.guarantee.specs.Servers.{Servers, Among, plain}
use Rattle.guarantee.specs.Lawful.{Lawful}
use Rattle.guarantee.specs.RuleCeiling.{Tested}
use Rattle.guarantee.specs.TableForm.{form}
use Rattle.guarantee.specs.TableDividing.{dividing, Admitted}
use Rattle.guarantee.specs.TableRounded.{multiple, rounded}
use Rattle.guarantee.specs.Sides.{of, sided, Apart, Split, SidedDividing, SidedRounded}
use Rattle.guarantee.proofs.Sums.{look, true?, both?, sum_plus, sum_zero}
use Rattle.guarantee.proofs.TableForm as forms
use Rattle.guarantee.proofs.TableRounded.{M_pos, is_multiple, rounded_to}
use Rattle.guarantee.proofs.Admission.{Longest, find, load_less, wait_less}

-- who is on a side is in the table
whole : (v : Servers) (side : ℕ → Bool) (e : Bool → ℕ → ℕ) (b : Bool) {i : ℕ} → Among (sided v side e b) i → Among v i
whole v side e b {i} (l, p) = (l, and_left (v.present i) (of b (side i)) p)

module _ (v : Servers) (side : ℕ → Bool) (e : Bool → ℕ → ℕ) (M : ℕ) (w : ℕ → ℕ) (rule : Rule) (c : ℕ) (N : Bool → ℕ)
    (S : Split v side e M w rule c N) where
  abbrev t : Table
  t = form v M w rule

  abbrev T : Bool → Table
  T b = form (sided v side e b) M w rule

  -- a shorter period weighs more
  heavier : {k j : ℕ} → Among v k → Among v j → v.P j ≤ v.P k → w k ≤ w j
  heavier {k} {j} a b l =
      let pos : 0 < v.P j = positive (dec_lt 0 (v.P j)) in
      le_of_mul-le-mul_right (omega (arith, S.A4 a, S.A4 b, mul-le-mul_left (w k) l)) pos
    where
      positive : Dec (0 < v.P j) → 0 < v.P j
      positive (yes p) = p
      positive (no n) = let z : v.P j ≡ 0 = omega arith in absurd (omega (arith, S.M_pos, S.A4 b, ap (λ (x : ℕ). w j * x) z))

  module _ (k : ℕ) (here : Among v k) where
    abbrev X : ℕ
    X = v.P k

    -- a side's own test holds at any period of the table, also at one of the other side
    module _ (b : Bool) (h : ℕ) (z : Wait (T b) X h) where
      -- at the longest period of its own up to it
      at_own : {j : ℕ} → Longest (T b) X j → c * (load (T b) X + (h + e b X) * w k) ≤ N b
      at_own {j} l =
          let less : e b X ≤ e b (v.P j) = more (dec_lt 0 (e b X)) in
          let u : w k ≤ w j = heavier here (whole v side e b l.here) l.fits in
          let m : h + e b X ≤ h + e b (v.P j) = omega arith in
          let y : load (T b) X + (h + e b X) * w k ≤ load (T b) (v.P j) + (h + e b (v.P j)) * w j
          = omega (arith, load_less (T b) l, mul-le-mul m u) in
          omega (arith, mul-le-mul_left c y, S.passes b l.here (wait_less (T b) l z))
        where
          more : Dec (0 < e b X) → e b X ≤ e b (v.P j)
          more (no n) = omega arith
          more (yes p) = let (i, q, s, g) = S.apart.cause b X p in omega (arith, g, S.apart.grows b (l.longest i q s))

      -- or it has none up to it, and asks for nothing
      module _ (none : (i : ℕ) → i < v.n → ((T b).present i ≡ true) × (v.P i ≤ X) → ⊥) where
        no_load : load (T b) X ≤ 0
        unfolding load
        no_load = omega (arith, sum_le v.n _ (λ i. 0) (λ i l. one i l ((T b).present i) refl (dec_le (v.P i) X)), sum_zero v.n)
          where
            one : (i : ℕ) → i < v.n → (p : Bool) → (T b).present i ≡ p → Dec (v.P i ≤ X) → when (p && leb (v.P i) X) (v.Q i * w i) ≤ 0
            one i l false q d = omega arith
            one i l true q (no y) = rw (lt-leb (v.P i) X (omega arith)) (omega arith)
            one i l true q (yes y) = absurd (none i l (q, y))

        no_wait : {y : ℕ} → Wait (T b) X y → y ≡ 0
        no_wait nobody = refl
        no_wait (holder {x} p q r u l) = absurd (none x r.0 (r.1, l))

        no_parts : Dec (0 < e b X) → e b X ≡ 0
        no_parts (no y) = omega arith
        no_parts (yes p) = let (i, q, s, g) = S.apart.cause b X p in absurd (none i q.0 (q.1, s))

        asks_nothing : c * (load (T b) X + (h + e b X) * w k) ≤ N b
        asks_nothing =
            let y : load (T b) X ≡ 0 = omega (arith, no_load) in
            rw (y, no_wait z, no_parts (dec_lt 0 (e b X))) (omega arith)

      fits : c * (load (T b) X + (h + e b X) * w k) ≤ N b
      fits = ⊎_elim (λ (i, l, q). at_own (find (T b) X i (l, q.0) q.1).1) asks_nothing
          (look v.n (λ i. ((T b).present i ≡ true) × (v.P i ≤ X)) (λ i. both? (true? ((T b).present i)) (dec_le (v.P i) X)))

    -- the load is that of both sides
    load_both : load t X ≤ load (T true) X + load (T false) X
    unfolding load
    load_both = omega (
      arith,
      sum_le v.n _ (λ i. part true i + part false i) (λ i l. one (v.present i) (side i) (leb (v.P i) X) (v.Q i * w i)),
      sum_plus v.n (part true) (part false),
    )
      where
        part : Bool → ℕ → ℕ
        part b i = when ((T b).present i && leb (v.P i) X) (v.Q i * w i)

        one : (p s d : Bool) (u : ℕ) → when (p && d) u ≤ when ((p && of true s) && d) u + when ((p && of false s) && d) u
        one false s d u = omega arith
        one true true d u = omega arith
        one true false d u = omega arith

    -- a wait is one on one of the sides
    record Waits (h : ℕ) : Type 0 where
      one : ℕ
      other : ℕ
      wait_one : Wait (T true) X one
      wait_other : Wait (T false) X other
      sums : h ≤ one + other

    on : (b : Bool) {i : ℕ} → Among v i → of b (side i) ≡ true → Among (sided v side e b) i
    on b {i} (l, p) q = (l, and_in (v.present i) (of b (side i)) p q)

    waits : {h : ℕ} → Wait t X h → Waits h
    waits nobody = record { one = 0; other = 0; wait_one = nobody; wait_other = nobody; sums = omega arith }
    waits (holder {j} {r} {x} p q s u l) = go (dec_lt 0 (v.H j r))
      where
        go : Dec (0 < v.H j r) → Waits (v.H j r)
        go (no z) = record { one = 0; other = 0; wait_one = nobody; wait_other = nobody; sums = omega arith }
        go (yes y) = ⊎_elim
            (λ a. record {
              one = v.H j r;
              other = 0;
              wait_one = holder (on true p (S.apart.one_side p s y u ∙ a)) q (on true s a) u l;
              wait_other = nobody;
              sums = omega arith;
            })
            (λ a. record {
              one = 0;
              other = v.H j r;
              wait_one = nobody;
              wait_other = holder (on false p (ap not (S.apart.one_side p s y u ∙ a))) q (on false s (ap not a)) u l;
              sums = omega arith;
            })
            (true_or_false (side x))

  -- ADM of the whole table
  pub joined : {k h : ℕ} → Among v k → Wait t (v.P k) h → load t (v.P k) + (h + v.extra k) * w k ≤ M
  joined {k} {h} here z =
      let a = waits k here z in
      let x = v.P k in
      let l : h + v.extra k ≤ (a.one + e true x) + (a.other + e false x) = omega (arith, a.sums, S.apart.both here) in
      let y : load t x + (h + v.extra k) * w k
      ≤ (load (T true) x + (a.one + e true x) * w k) + (load (T false) x + (a.other + e false x) * w k)
      = omega (arith, load_both k here, mul-le-mul_right (w k) l) in
      le_of_mul-le-mul_left
      (omega (arith, mul-le-mul_left c y, fits k here true a.one a.wait_one, fits k here false a.other a.wait_other, S.within))
      S.c_pos

-- so the whole passes with the frame on the right
module _ (v : Servers) (side : ℕ → Bool) (e : Bool → ℕ → ℕ) (frame : ℕ) (rule : Rule) (N : Bool → ℕ) where
  -- where the periods divide it
  pub admission : SidedDividing v side e frame rule N → {k h : ℕ} → Among v k → Wait (dividing frame v rule) (v.P k) h
      → load (dividing frame v rule) (v.P k) + (h + v.extra k) * (frame / v.P k) ≤ frame
  admission S = joined v side e frame (λ i. frame / v.P i) rule 1 N (record {
    apart = S.apart;
    c_pos = omega arith;
    M_pos = S.frame_pos;
    A4 = S.divides;
    within = omega (arith, S.within);
    passes = λ b {k} {h} p z. omega (arith, S.passes b p z);
  })

  -- where they need not
  pub rounded_admission : SidedRounded v side e frame rule N → {k h : ℕ} → Among v k → Wait (rounded v rule) (v.P k) h
      → load (rounded v rule) (v.P k) + (h + v.extra k) * (multiple v / v.P k) ≤ multiple v
  rounded_admission S = joined v side e (multiple v) w rule frame (λ b. N b * multiple v) (record {
    apart = S.apart;
    c_pos = S.frame_pos;
    M_pos = M_pos v (λ i b. S.limits.P_pos b);
    A4 = λ {i} b. is_multiple v i b;
    within = omega (arith, mul-le-mul_right (multiple v) S.within);
    passes = λ b {k} {h} p z.
        rounded_to frame (sided v side e b) (multiple v) w rule (λ i q. S.limits.P_pos (whole v side e b q))
        (λ i q. is_multiple v i (whole v side e b q)) (N b) k (h + e b (v.P k)) p
        (S.passes b p z);
  })
    where
      w : ℕ → ℕ
      w i = multiple v / v.P i

  -- so each kind of table is lawful
  pub sided_admitted : SidedDividing v side e frame rule N → Admitted frame v rule
  sided_admitted S = record { limits = S.limits; frame_pos = S.frame_pos; divides = S.divides; admission = admission S }

  pub sided_lawful : (clears : ℕ → ℕ → Type 0) → Tested (rounded v rule) clears → SidedRounded v side e frame rule N → Lawful (rounded v rule)
  sided_lawful clears T S = forms.lawful v (multiple v) (λ i. multiple v / v.P i) rule
      (record {
        limits = S.limits;
        M_pos = M_pos v (λ i b. S.limits.P_pos b);
        multiple = λ {i} b. is_multiple v i b;
        fits = rounded_admission S;
        user = T.K3_user;
      }) clears T

-- nothing is asked of what is added where nothing is
pub plain_apart : (n : ℕ) (present : ℕ → Bool) (P Q : ℕ → ℕ) (H : ℕ → ℕ → ℕ) (side : ℕ → Bool) (rule : Rule)
    → ((j x r : ℕ) → Among (plain n present P Q H) j → Among (plain n present P Q H) x → 0 < H j r → rule.uses x r → side j ≡ side x)
    → Apart (plain n present P Q H) side (λ b p. 0) rule
plain_apart n present P Q H side rule a = record {
  one_side = λ {j} {x} {r} p q h u. a j x r p q h u;
  grows = λ b {p} {p'} l. omega arith;
  cause = λ b p l. absurd (omega arith);
  both = λ {k} p. omega arith;
}
