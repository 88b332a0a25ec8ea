-- The table of request (vii) keeps the laws: a test that holds with what is rounded up holds in units of 1/M.
use Prim.Native.Nat.{ℕ, zero, suc, ◌+◌, ◌-◌, ◌*◌, ◌/◌, ◌≤◌, ◌<◌, ◌∣◌}
use mathlib.Core.Path.{◌≡◌, refl, ap}
use mathlib.Core.Logic.{⊎_elim}
use mathlib.Core.Bool.{Bool, true, false, ◌&&◌}
use native.Mathlib.Omega.{arith}
use native.Mathlib.Nat.{mul-le-mul_left, mul-le-mul_right, mul-pos, dvd-mul_left, dvd-mul_right_of_dvd, div-mul_cancel, lt-div-mul-add, div-lt_iff_lt-mul}
use native.Mathlib.Nat.{le_of_mul-le-mul_left}
use lib.Dec.{leb}
use Rattle.terms.specs.Words.{pick, sum, when}
use Rattle.terms.proofs.Over.{last_or_below, sum_le}
use Rattle.guarantee.specs.Servers.{Servers, Among, Limits}
use Rattle.guarantee.specs.Table.{Rule, Table, Wait, load}
use Rattle.guarantee.specs.Lawful.{Lawful}
use Rattle.guarantee.specs.RuleCeiling.{Tested}
use Rattle.guarantee.specs.TableForm.{form}
use Rattle.guarantee.specs.TableRounded.{product, up, factor, multiple, share, taken, rounded, Admitted}
use Rattle.guarantee.proofs.Sums.{sum_times}
use Rattle.guarantee.proofs.TableForm as forms

-- each factor divides the product of them all
module _ (f : ℕ → ℕ) where
  product_pos : (n : ℕ) → ((i : ℕ) → i < n → 0 < f i) → 0 < product f n
  unfolding product
  product_pos zero h = omega arith
  product_pos (suc n) h = mul-pos (product_pos n (λ i l. h i (omega arith))) (h n (omega arith))

  divides : (n i : ℕ) → i < n → f i ∣ product f n
  unfolding product
  divides zero i l = absurd (omega arith)
  divides (suc n) i l =
      ⊎_elim (λ (e : i ≡ n). rw e (dvd-mul_left (f n) (product f n))) (λ (k : i < n). dvd-mul_right_of_dvd (f i) (divides n i k) (f n)) (last_or_below l)

-- what is rounded up is no less, and the least such
module _ (x p : ℕ) (pos : 0 < p) where
  pub up_covers : x ≤ up x p * p
  unfolding up
  up_covers = omega (arith, lt-div-mul-add {a = x + (p - 1)} pos)

  pub up_least : (y : ℕ) → x ≤ y * p → up x p ≤ y
  unfolding up
  up_least y h =
      let k : (x + (p - 1)) / p < y + 1 = (div-lt_iff_lt-mul pos).1 (omega arith) in
      omega arith

pub up_grows : (x y p : ℕ) → 0 < p → x ≤ y → up x p ≤ up y p
up_grows x y p pos l = up_least x p pos (up y p) (omega (arith, up_covers y p pos))

-- from sums of f in units of 1/L to sums of g in units of 1/M
sum_scales : (n L M : ℕ) (f g : ℕ → ℕ) → ((j : ℕ) → j < n → f j * L ≤ g j * M) → sum f n * L ≤ sum g n * M
sum_scales n L M f g h = omega (arith, sum_le n (λ j. f j * L) (λ j. g j * M) h, sum_times n L f, sum_times n M g)

when_scales : (b c : Bool) (x y L M : ℕ) → (b ≡ true → x * L ≤ y * M) → when (b && c) x * L ≤ when (b && c) y * M
when_scales true true x y L M h = h refl
when_scales true false x y L M h = omega arith
when_scales false c x y L M h = omega arith

-- M is above 0, and a multiple of each period
module _ (v : Servers) (P_pos : (i : ℕ) → Among v i → 0 < v.P i) where
  pub M_pos : 0 < multiple v
  M_pos = product_pos (factor v) v.n (λ i b. one i b (v.present i) refl)
    where
      one : (i : ℕ) → i < v.n → (here : Bool) → v.present i ≡ here → 0 < pick here (v.P i) 1
      one i b true e = P_pos i (b, e)
      one i b false e = omega arith

pub is_multiple : (v : Servers) (i : ℕ) → Among v i → multiple v / v.P i * v.P i ≡ multiple v
is_multiple v i (b, e) = div-mul_cancel (v.P i) (rw e at (divides (factor v) v.n i b))

module _ (frame : ℕ) (v : Servers) (M : ℕ) (w : ℕ → ℕ) (rule : Rule) (P_pos : (i : ℕ) → Among v i → 0 < v.P i)
    (A4 : (i : ℕ) → Among v i → w i * v.P i ≡ M) where
  abbrev t : Table
  t = form v M w rule

  -- a share of the frame, rounded up, is no less than the load it stands for
  share_covers : (i : ℕ) → Among v i → v.Q i * w i * frame ≤ share v frame i * M
  share_covers i b =
      omega (arith, mul-le-mul_left (w i) (up_covers (v.Q i * frame) (v.P i) (P_pos i b)), ap (λ (y : ℕ). share v frame i * y) (A4 i b))

  taken_covers : (p : ℕ) → load t p * frame ≤ taken v frame p * M
  unfolding taken load
  taken_covers p =
      sum_scales v.n frame M _ _ (λ j b. when_scales (v.present j) (leb (v.P j) p) _ _ frame M (λ e. share_covers j (b, e)))

  -- what those up to P k leave of N, out of the frame, is enough for h ticks in each period P k: so it is in units of 1/M
  pub scales_to : (N k h : ℕ) → Among v k → taken v frame (v.P k) ≤ N → h * frame ≤ v.P k * (N - taken v frame (v.P k))
      → frame * (load t (v.P k) + h * w k) ≤ N * M
  scales_to N k h b l f =
      let x : ℕ = N - taken v frame (v.P k) in
      let e : taken v frame (v.P k) + x ≡ N = omega arith in
      omega (arith, taken_covers (v.P k), mul-le-mul_left (w k) f, ap (λ (y : ℕ). x * y) (A4 k b), ap (λ (y : ℕ). y * M) e)

  -- the same of the whole frame
  pub scales : 0 < frame → (k h : ℕ) → Among v k → taken v frame (v.P k) ≤ frame → h * frame ≤ v.P k * (frame - taken v frame (v.P k))
      → load t (v.P k) + h * w k ≤ M
  scales pos k h b l f = le_of_mul-le-mul_left (scales_to frame k h b l f) pos

  -- by what is rounded up
  pub rounded_to : (N k h : ℕ) → Among v k → taken v frame (v.P k) + up (h * frame) (v.P k) ≤ N → frame * (load t (v.P k) + h * w k) ≤ N * M
  rounded_to N k h b l =
      let y : ℕ = up (h * frame) (v.P k) in
      let m : y ≤ N - taken v frame (v.P k) = omega arith in
      scales_to N k h b (omega arith) (omega (arith, up_covers (h * frame) (v.P k) (P_pos k b), mul-le-mul_right (v.P k) m))

module _ (frame : ℕ) (v : Servers) (rule : Rule) where
  -- with a rule that has a start test
  pub lawful : (clears : ℕ → ℕ → Type 0) → Tested (rounded v rule) clears → Admitted frame v rule → Lawful (rounded v rule)
  lawful clears T a = forms.lawful v (multiple v) w rule
      (record {
        limits = a.limits;
        M_pos = M_pos v (λ i b. a.limits.P_pos b);
        multiple = λ {i} b. is_multiple v i b;
        fits = λ {k} {h} b z. le_of_mul-le-mul_left
            (rounded_to frame v (multiple v) w rule (λ i b. a.limits.P_pos b) (is_multiple v) frame k (h + v.extra k) b (a.admission b z)) a.frame_pos;
        user = T.K3_user;
      }) clears T
    where
      w : ℕ → ℕ
      w i = multiple v / v.P i

  -- the admission test by the longest wait B of each server
  pub by_longest : (B : ℕ → ℕ) → ((k h : ℕ) → Among v k → Wait (rounded v rule) (v.P k) h → h ≤ B k) → Limits v
      → ((k : ℕ) → Among v k → taken v frame (v.P k) + up ((B k + v.extra k) * frame) (v.P k) ≤ frame)
      → {k h : ℕ} → Among v k → Wait (rounded v rule) (v.P k) h → taken v frame (v.P k) + up ((h + v.extra k) * frame) (v.P k) ≤ frame
  by_longest B most l fits {k} {h} b z =
      omega (
        arith,
        fits k b,
        up_grows ((h + v.extra k) * frame) ((B k + v.extra k) * frame) (v.P k) (l.P_pos b) (omega (arith, mul-le-mul_right frame (most k h b z))),
      )
