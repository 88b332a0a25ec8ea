-- A table of the one form keeps the laws: its timing rule with and without parts.
use Prim.Native.Nat.{ℕ, ◌+◌, ◌-◌, ◌*◌, ◌/◌, ◌%◌, ◌≤◌, ◌<◌}
use mathlib.Core.Path.{◌≡◌, refl, ap}
use mathlib.Core.Logic.{◌≢◌}
use mathlib.Core.Bool.{Bool, true, false, not, ◌&&◌}
use native.Mathlib.Omega.{arith}
use native.Mathlib.Nat.{mul-le-mul_left, mul-le-mul_right, mul-add, div-add-mod, lt_of_mul-lt-mul_left, zero-mul, zero-add, sub-zero, div-eq_of_lt}
use native.Mathlib.Nat.{mod-eq_of_lt, mod-lt, mul-mod_right, le_of_lt}
use native.Mathlib.Decide.{dec_le, ℕ_discrete}
use lib.Dec.{eqb, leb}
use borrow.Author.Tests.{eq-eqb, ne_eqb, le-leb, lt-leb}
use Rattle.terms.specs.Words.{when}
use Rattle.terms.proofs.Over.{sum_le}
use Rattle.terms.proofs.Tests.{not_both}
use Rattle.guarantee.specs.Servers.{Servers, Among, Limits, plain}
use Rattle.guarantee.specs.Table.{Rule, Table, Laws, nobody, load, parts}
use Rattle.guarantee.specs.Lawful.{Lawful}
use Rattle.guarantee.specs.RuleCeiling.{Tested}
use Rattle.guarantee.specs.TableForm.{form, Fits}
use Rattle.guarantee.proofs.Sums.{sum_zero, when_le, when_at_most}
use Rattle.guarantee.proofs.RuleCeiling.{ruled}

-- without parts the limits are those of document 01
pub plain_limits : (n : ℕ) (present : ℕ → Bool) (P Q : ℕ → ℕ) (H : ℕ → ℕ → ℕ) → ((i : ℕ) → Among (plain n present P Q H) i → 0 < P i)
    → ((i : ℕ) → Among (plain n present P Q H) i → 0 < Q i)
    → ((i : ℕ) → Among (plain n present P Q H) i → (r : ℕ) → H i r ≤ Q i) → Limits (plain n present P Q H)
plain_limits n present P Q H p q h = record {
  P_pos = λ {i} b. p i b;
  Q_pos = λ {i} b. q i b;
  H_le = λ {i} b r. h i b r;
  covered = λ e i k a b l u. absurd (not_both e refl);
}

module _ (P Q : ℕ) where
  -- the largest part, and the part that is left
  abbrev slop : Bool → ℕ
  slop b = when (b && not (eqb (P % Q) 0)) (Q - 1)

  slop_even : (b : Bool) → P % Q ≡ 0 → slop b ≡ 0
  slop_even true e = rw (eq-eqb (P % Q) 0 e) refl
  slop_even false e = refl

  slop_uneven : P % Q ≢ 0 → slop true ≡ Q - 1
  slop_uneven e = rw (ne_eqb (P % Q) 0 e) refl

module _ (P Q : ℕ) (pos : 0 < Q) where
  slop_less : (b : Bool) → slop P Q b < Q
  slop_less false = pos
  slop_less true = go (ℕ_discrete (P % Q) 0)
    where
      go : Dec (P % Q ≡ 0) → slop P Q true < Q
      go (yes e) = rw (slop_even P Q true e) pos
      go (no e) = rw (slop_uneven P Q e) (omega arith)

  module _ (q z d : ℕ) where
    A0 : (b : Bool) → Q * d + when b ((q * P + z) % Q) ≤ Q * (d - (q * P + z) / Q) + z + q * P
    A0 b =
        let x : ℕ = (q * P + z) / Q in
        let l : d ≤ d - x + x = omega arith in
        omega (arith, mul-le-mul_left Q l, mul-add Q (d - x) x, div-add-mod (q * P + z) Q, when_at_most b ((q * P + z) % Q))

    A1 : (b : Bool) → q ≤ Q → z ≤ slop P Q b → d ≤ d - (q * P + z) / Q + P
    A1 b l k =
        let x : ℕ = (q * P + z) / Q in
        let m : Q * x < Q * (P + 1) = omega (arith, div-add-mod (q * P + z) Q, mul-le-mul_right P l, slop_less b) in
        let o : x < P + 1 = lt_of_mul-lt-mul_left Q m in
        omega arith

    -- an even period keeps no part
    A5 : (b : Bool) → z ≤ slop P Q b → when b ((q * P + z) % Q) ≤ slop P Q b
    A5 false k = omega arith
    A5 true k = go (ℕ_discrete (P % Q) 0)
      where
        go : Dec (P % Q ≡ 0) → (q * P + z) % Q ≤ slop P Q true
        go (yes e) =
            let s : z ≡ 0 = omega (arith, slop_even P Q true e) in
            let m : q * P + z ≡ Q * (q * (P / Q)) = omega (arith, ap (λ (y : ℕ). q * y) (div-add-mod P Q), ap (λ (y : ℕ). q * y) e) in
            rw (m, mul-mod_right) (omega arith)
        go (no e) = rw (slop_uneven P Q e) (omega (arith, mod-lt (q * P + z) pos))

  A2 : (b : Bool) (z d : ℕ) → z ≤ slop P Q b → (d - (0 * P + z) / Q ≡ d) × (when b ((0 * P + z) % Q) ≡ z)
  A2 b z d k =
      let l : z < Q = omega (arith, slop_less b) in
      (simp (zero-mul, zero-add, div-eq_of_lt l, sub-zero), rest b k)
    where
      rest : (b : Bool) → z ≤ slop P Q b → when b ((0 * P + z) % Q) ≡ z
      rest true k =
          let l : z < Q = omega (arith, slop_less true) in
          simp (zero-mul, zero-add, mod-eq_of_lt l)
      rest false k = omega arith

module _ (v : Servers) (M : ℕ) (w : ℕ → ℕ) (rule : Rule) (a : Fits v M w rule) where
  abbrev t : Table
  t = form v M w rule

  pos : {i : ℕ} → Among v i → 0 < v.Q i
  pos b = a.limits.Q_pos b

  -- the parts are within the load
  parts_load : (p : ℕ) → parts t p ≤ load t p
  unfolding parts load
  parts_load p = sum_le v.n _ _ (λ j b. one j b (v.present j) refl)
    where
      one : (j : ℕ) → j < v.n → (here : Bool) → v.present j ≡ here
          → when (here && leb (v.P j) p) (slop (v.P j) (v.Q j) v.parted * w j) ≤ when (here && leb (v.P j) p) (v.Q j * w j)
      one j b false e = omega arith
      one j b true e = when_le (leb (v.P j) p) _ _ (mul-le-mul_right (w j) (le_of_lt (slop_less (v.P j) (v.Q j) (pos (b, e)) v.parted)))

  -- and there are none where admission adds nothing
  parts_none : (k : ℕ) → Among v k → v.extra k ≡ 0 → parts t (v.P k) ≤ 0
  unfolding parts
  parts_none k b e =
      omega (
        arith,
        sum_le v.n _ (λ j. 0) (λ j c. none j c (v.present j) refl v.parted refl (dec_le (v.P j) (v.P k)) (ℕ_discrete (v.P j % v.Q j) 0)),
        sum_zero v.n,
      )
    where
      none : (j : ℕ) → j < v.n → (here : Bool) → v.present j ≡ here → (kept : Bool) → v.parted ≡ kept → Dec (v.P j ≤ v.P k) → Dec (v.P j % v.Q j ≡ 0)
          → when (here && leb (v.P j) (v.P k)) (slop (v.P j) (v.Q j) kept * w j) ≤ 0
      none j c false p y g l m = omega arith
      none j c true p y g (no l) d = rw (lt-leb (v.P j) (v.P k) (omega arith)) (omega arith)
      none j c true p false g (yes l) m = rw (le-leb (v.P j) (v.P k) l) (omega arith)
      none j c true p true g (yes l) (yes m) = rw (le-leb (v.P j) (v.P k) l, slop_even (v.P j) (v.Q j) true m) (omega arith)
      none j c true p true g (yes l) (no m) = absurd (omega (arith, a.limits.covered g j k (c, p) b l m))

  PART : (k : ℕ) → Among v k → parts t (v.P k) ≤ v.extra k * M
  PART k b = go (ℕ_discrete (v.extra k) 0)
    where
      go : Dec (v.extra k ≡ 0) → parts t (v.P k) ≤ v.extra k * M
      go (yes e) = omega (arith, parts_none k b e)
      go (no e) =
          let l : 1 ≤ v.extra k = omega arith in
          omega (arith, parts_load (v.P k), a.fits b nobody, mul-le-mul_right M l)

  pub laws : Laws t
  laws = record {
    M_pos = a.M_pos;
    Q_pos = a.limits.Q_pos;
    H_le = a.limits.H_le;
    A0 = λ {i} b q z d. A0 (v.P i) (v.Q i) (pos b) q z d v.parted;
    A1 = λ {i} b q z d l k. A1 (v.P i) (v.Q i) (pos b) q z d v.parted l k;
    A2 = λ {i} b z d l. A2 (v.P i) (v.Q i) (pos b) v.parted z d l;
    A5 = λ {i} b q z d l. A5 (v.P i) (v.Q i) (pos b) q z d v.parted l;
    A4 = a.multiple;
    ADM = a.fits;
    PART = λ {k} b. PART k b;
    K3_user = a.user;
  }

  -- and with a rule that has a start test all of them
  pub lawful : (clears : ℕ → ℕ → Type 0) → Tested t clears → Lawful t
  lawful clears T = record { laws = laws; ruled = ruled t clears T }
