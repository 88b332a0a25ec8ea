-- A removal: a table that passes still passes with some of its servers gone, without a test.
use Prim.Native.Nat.{ℕ, ◌+◌, ◌-◌, ◌*◌, ◌/◌, ◌≤◌, ◌<◌}
use mathlib.Core.Path.{◌≡◌, refl, sym}
use mathlib.Core.Bool.{Bool, true, false, ◌&&◌}
use native.Mathlib.Omega.{arith}
use native.Mathlib.Nat.{mul-le-mul_left, mul-le-mul_right}
use lib.Dec.{leb}
use Rattle.terms.specs.Words.{sum, when}
use Rattle.terms.proofs.Over.{sum_le}
use Rattle.guarantee.specs.Servers.{Servers, Among, Limits, Fewer}
use Rattle.guarantee.specs.Table.{Rule, Wait, nobody, holder, load}
use Rattle.guarantee.specs.TableForm.{form}
use Rattle.guarantee.specs.TableDividing.{dividing}
use Rattle.guarantee.specs.TableDividing as dividings
use Rattle.guarantee.specs.TableRounded.{multiple, share, taken}
use Rattle.guarantee.specs.TableRounded as roundeds
use Rattle.guarantee.specs.TableHolder as holders
use Rattle.guarantee.proofs.TableRounded.{up_grows}

-- all of them: so a table that passes with one start test passes with another that has the same users
pub itself : (v : Servers) → Limits v → Fewer v v
itself v l = record {
  slots = refl;
  there = λ {i} b. b.1;
  P = λ {i} b. refl;
  Q = λ {i} b. refl;
  H = λ {i} b r. refl;
  extra = λ {i} b. omega arith;
  covered = l.covered;
}

module _ (v v' : Servers) (F : Fewer v v') where
  was : {i : ℕ} → Among v' i → Among v i
  was {i} (b, p) = (omega (arith, F.slots), F.there (b, p))

  pub limits_fewer : Limits v → Limits v'
  limits_fewer l = record {
    P_pos = λ {i} b. rw (F.P b) (l.P_pos (was b));
    Q_pos = λ {i} b. rw (F.Q b) (l.Q_pos (was b));
    H_le = λ {i} b r. rw (F.H b r, F.Q b) (l.H_le (was b) r);
    covered = F.covered;
  }

  -- a server adds to a sum what it added, or nothing
  sum_fewer : (f g : Bool → ℕ → ℕ) → ((i : ℕ) → f false i ≡ 0) → ((i : ℕ) → Among v' i → f true i ≤ g true i)
      → sum (λ i. f (v'.present i) i) v'.n ≤ sum (λ i. g (v.present i) i) v.n
  sum_fewer f g z e = rw (sym F.slots) (sum_le v'.n _ _ (λ i b. one i b (v'.present i) refl))
    where
      one : (i : ℕ) → i < v'.n → (here : Bool) → v'.present i ≡ here → f here i ≤ g (v.present i) i
      one i b false p = rw (z i) (omega arith)
      one i b true p = rw (F.there (b, p)) (e i (b, p))

  -- a wait was one before
  module _ (M M' : ℕ) (w w' : ℕ → ℕ) (rule rule' : Rule) (uses : (x r : ℕ) → Among v' x → rule'.uses x r → rule.uses x r) where
    wait_fewer : {p h : ℕ} → Wait (form v' M' w' rule') p h → Wait (form v M w rule) p h
    wait_fewer nobody = nobody
    wait_fewer (holder {j} {r} {x} a b c d e) =
        rw (F.H a r) (holder {j = j} {r = r} {x = x} (was a) (omega (arith, b, F.P a)) (was c) (uses x r c d) (omega (arith, e, F.P c)))

  module _ (frame : ℕ) where
    taken_fewer : (p : ℕ) → taken v' frame p ≤ taken v frame p
    unfolding taken
    taken_fewer p = sum_fewer (λ b i. when (b && leb (v'.P i) p) (share v' frame i)) (λ b i. when (b && leb (v.P i) p) (share v frame i))
        (λ i. refl) (λ i b. rw (F.P b, F.Q b) (omega arith))

    -- the tables of document 01 and of requests (i) and (ix), of request (vii), and of request (xiv)
    module _ (rule rule' : Rule) (uses : (x r : ℕ) → Among v' x → rule'.uses x r → rule.uses x r) where
      load_fewer : (p : ℕ) → load (dividing frame v' rule') p ≤ load (dividing frame v rule) p
      unfolding load
      load_fewer p = sum_fewer (λ b i. when (b && leb (v'.P i) p) (v'.Q i * (frame / v'.P i)))
          (λ b i. when (b && leb (v.P i) p) (v.Q i * (frame / v.P i)))
          (λ i. refl) (λ i b. rw (F.P b, F.Q b) (omega arith))

      pub dividing_fewer : dividings.Admitted frame v rule → dividings.Admitted frame v' rule'
      dividing_fewer a = record {
        limits = limits_fewer a.limits;
        frame_pos = a.frame_pos;
        divides = λ {i} b. rw (F.P b) (a.divides (was b));
        admission = λ {k} {h} b z.
            rw (F.P b)
            (omega (
              arith,
              load_fewer (v.P k),
              mul-le-mul_right (frame / v.P k) (F.extra b),
              a.admission (was b) (wait_fewer frame frame (λ i. frame / v.P i) (λ i. frame / v'.P i) rule rule' uses (rw (F.P b) at z)),
            ));
      }

      pub rounded_fewer : roundeds.Admitted frame v rule → roundeds.Admitted frame v' rule'
      rounded_fewer a = record {
        limits = limits_fewer a.limits;
        frame_pos = a.frame_pos;
        admission = λ {k} {h} b z.
            rw (F.P b)
            (omega (
              arith,
              taken_fewer (v.P k),
              up_grows ((h + v'.extra k) * frame) ((h + v.extra k) * frame) (v.P k) (a.limits.P_pos (was b))
                  (omega (arith, mul-le-mul_right frame (F.extra b))),
              a.admission (was b)
                  (wait_fewer (multiple v) (multiple v') (λ i. multiple v / v.P i) (λ i. multiple v' / v'.P i) rule rule' uses (rw (F.P b) at z)),
            ));
      }

    pub holder_fewer : holders.Admitted frame v → holders.Admitted frame v'
    holder_fewer a = record {
      limits = limits_fewer a.limits;
      frame_pos = a.frame_pos;
      all_fit = omega (
        arith,
        a.all_fit,
        sum_fewer (λ b i. when b (share v' frame i)) (λ b i. when b (share v frame i)) (λ i. refl)
            (λ i b. rw (F.P b, F.Q b) (omega arith)),
      );
      extra_fits = λ {k} b. rw (F.P b) (omega (arith, more k, mul-le-mul_right frame (F.extra b), a.extra_fits (was b)));
      hold_fits = λ {j} {k} {r} c b l p. rw (F.P b, F.H c r)
          (omega (
            arith,
            more k,
            mul-le-mul_right frame (F.extra b),
            a.hold_fits {r = r} (was c) (was b) (omega (arith, l, F.P c, F.P b)) (omega (arith, p, F.H c r)),
          ));
    }
      where
        more : (k : ℕ) → v.P k * (frame - taken v frame (v.P k)) ≤ v.P k * (frame - taken v' frame (v.P k))
        more k = mul-le-mul_left (v.P k) (omega (arith, taken_fewer (v.P k)))
