-- The table of request (xiv) keeps the laws.
use Prim.Native.Nat.{ℕ, ◌+◌, ◌-◌, ◌*◌, ◌/◌, ◌≤◌, ◌<◌}
use mathlib.Core.Path.{◌≡◌}
use mathlib.Core.Bool.{Bool, true, false, ◌&&◌}
use native.Mathlib.Omega.{arith}
use native.Mathlib.Nat.{mul-le-mul_right}
use native.Mathlib.Decide.{dec_lt}
use lib.Dec.{leb}
use Rattle.terms.specs.Words.{when}
use Rattle.terms.proofs.Over.{sum_le}
use Rattle.guarantee.specs.Servers.{Servers, Among}
use Rattle.guarantee.specs.Table.{Table, Laws, Wait, nobody, holder}
use Rattle.guarantee.specs.Lawful.{Lawful}
use Rattle.guarantee.specs.RuleHolder.{holders}
use Rattle.guarantee.specs.TableRounded.{multiple, share, taken}
use Rattle.guarantee.specs.TableHolder.{undisturbed, Admitted}
use Rattle.guarantee.proofs.TableForm.{laws}
use Rattle.guarantee.proofs.TableRounded.{M_pos, is_multiple, scales}
use Rattle.guarantee.proofs.RuleHolder.{ruled, all_wait}

when_less : (b c : Bool) (x : ℕ) → when (b && c) x ≤ when b x
when_less true true x = omega arith
when_less true false x = omega arith
when_less false c x = omega arith

module _ (frame : ℕ) (v : Servers) where
  -- what those up to P k leave of P k, in ticks times the frame
  abbrev left : ℕ → ℕ
  left k = v.P k * (frame - taken v frame (v.P k))

  -- the test by the largest hold B of each server
  pub by_largest : (B : ℕ → ℕ) → ((j r : ℕ) → Among v j → v.H j r ≤ B j)
      → ((j k : ℕ) → Among v j → Among v k → v.P k ≤ v.P j → 0 < B j → (B j + v.extra k) * frame ≤ left k)
      → {j k r : ℕ} → Among v j → Among v k → v.P k ≤ v.P j → 0 < v.H j r → (v.H j r + v.extra k) * frame ≤ left k
  by_largest B most fits {j} {k} {r} c b l p =
      omega (arith, mul-le-mul_right frame (most j r c), fits j k c b l (omega (arith, most j r c)))

  module _ (a : Admitted frame v) where
    abbrev t : Table
    t = undisturbed v

    -- what some take is within what all take
    some_fit : (p : ℕ) → taken v frame p ≤ frame
    unfolding taken
    some_fit p =
        omega (
          arith,
          sum_le v.n _ (λ i. when (v.present i) (share v frame i)) (λ i b. when_less (v.present i) (leb (v.P i) p) (share v frame i)),
          a.all_fit,
        )

    -- a hold of 0 ticks is no wait
    enough : (k h : ℕ) → Among v k → Wait t (v.P k) h → (h + v.extra k) * frame ≤ left k
    enough k _ b nobody = omega (arith, a.extra_fits b)
    enough k _ b (holder {j} {r} c l x u e) = go (dec_lt 0 (v.H j r))
      where
        go : Dec (0 < v.H j r) → (v.H j r + v.extra k) * frame ≤ left k
        go (yes p) = a.hold_fits c b (omega arith) p
        go (no z) = let e : v.H j r ≡ 0 = omega arith in rw e (omega (arith, a.extra_fits b))

    figures : Laws t
    figures = laws v (multiple v) (λ i. multiple v / v.P i) (holders v) (record {
      limits = a.limits;
      M_pos = M_pos v (λ i b. a.limits.P_pos b);
      multiple = λ {i} b. is_multiple v i b;
      fits = λ {k} {h} b z. scales frame v (multiple v) (λ i. multiple v / v.P i) (holders v) (λ i b. a.limits.P_pos b) (is_multiple v) a.frame_pos
          k (h + v.extra k) b (some_fit (v.P k)) (enough k h b z);
      user = λ {f} {r} b. (f, b, tt, omega arith);
    })

    pub lawful : Lawful t
    lawful = record { laws = figures; ruled = ruled t (all_wait v (multiple v) (λ i. multiple v / v.P i)) }
