-- Bits of a number, at every width: bit r + 1 of x is bit r of its half, so each law goes by induction on the bit.
use Prim.Native.Nat.{ℕ, zero, suc, ◌+◌, ◌-◌, ◌*◌, ◌/◌, ◌%◌, ◌^◌, ◌<◌, ◌≤◌}
use mathlib.Core.Path.{◌≡◌, refl, sym, ap, ◌∙◌}
use mathlib.Core.Logic.{◌≢◌, ⊎_elim}
use mathlib.Core.Bool.{true, false, not}
use native.Mathlib.Omega.{arith}
use native.Mathlib.Nat.{pow-zero, pow-succ', div-one, div-div-eq-div-mul, div-eq_of_lt, lt_of_lt_of_le, mod-eq_of_lt, pow-le-pow_right, one-mul}
use native.Mathlib.Decide.{dec_le}
use borrow.Author.Tests.{eqb-true, eqb-false, eq-eqb, ne_eqb}
use lib.Dec.{eqb}
use lib.Bits.{bit_and, bit_or, or_step, and_step, or_zero_r, and_mask, and_high}
use lib.Pow.{pow_pos, pow-add}
use Rattle.terms.proofs.Tests.{true_or_false}
use Rattle.resources.specs.Resources.{bit, set_bit, clear_bit}

bit_low : (x : ℕ) → bit x 0 ≡ eqb (x % 2) 1
unfolding bit
bit_low x = rw (pow-zero, div-one)

bit_high : (x r : ℕ) → bit x (suc r) ≡ bit (x / 2) r
unfolding bit
bit_high x r = rw (pow-succ', div-div-eq-div-mul)

-- a bit that is set is part of the number
bit_within : (x r : ℕ) → bit x r ≡ true → 2 ^ r ≤ x
unfolding bit
bit_within x r e = go (dec_le (2 ^ r) x)
  where
    go : Dec (2 ^ r ≤ x) → 2 ^ r ≤ x
    go (yes l) = l
    go (no z) =
        let d : x / 2 ^ r ≡ 0 = div-eq_of_lt (omega arith) in
        omega (arith, eqb-true (x / 2 ^ r % 2) 1 e)

module _ (x r : ℕ) where
  set_on : bit x r ≡ true → set_bit x r ≡ x
  unfolding set_bit
  set_on e = simp e

  set_off : bit x r ≡ false → set_bit x r ≡ x + 2 ^ r
  unfolding set_bit
  set_off e = simp e

  clear_on : bit x r ≡ true → clear_bit x r ≡ x - 2 ^ r
  unfolding clear_bit
  clear_on e = simp e

  clear_off : bit x r ≡ false → clear_bit x r ≡ x
  unfolding clear_bit
  clear_off e = simp e

-- the lowest bit is the remainder by 2
low_true : (x : ℕ) → bit x 0 ≡ true → x % 2 ≡ 1
low_true x e = eqb-true (x % 2) 1 (sym (bit_low x) ∙ e)

low_false : (x : ℕ) → bit x 0 ≡ false → x % 2 ≡ 0
low_false x e = let ne : x % 2 ≢ 1 = eqb-false (x % 2) 1 (sym (bit_low x) ∙ e) in omega arith

-- setting or clearing a bit: bit 0 becomes v and the half stays, bit r + 1 is bit r of the half and bit 0 stays
record Puts (v : ℕ) (put : ℕ → ℕ → ℕ) : Type 0 where
  low : (x : ℕ) → put x 0 ≡ x / 2 * 2 + v
  high : (x r : ℕ) → put x (suc r) ≡ put (x / 2) r * 2 + x % 2

sets : Puts 1 set_bit
sets = record {
  low = λ x. ⊎_elim (λ e. omega (arith, set_on x 0 e, low_true x e)) (λ e. omega (arith, set_off x 0 e, low_false x e, pow-zero 2))
      (true_or_false (bit x 0));
  high = λ x r. ⊎_elim (λ e. omega (arith, set_on x (suc r) e, set_on (x / 2) r (sym (bit_high x r) ∙ e)))
      (λ e. omega (arith, set_off x (suc r) e, set_off (x / 2) r (sym (bit_high x r) ∙ e))) (true_or_false (bit x (suc r)));
}

clears : Puts 0 clear_bit
clears = record {
  low = λ x. ⊎_elim (λ e. omega (arith, clear_on x 0 e, low_true x e, pow-zero 2)) (λ e. omega (arith, clear_off x 0 e, low_false x e))
      (true_or_false (bit x 0));
  high = λ x r. ⊎_elim
      (λ e. omega (arith, clear_on x (suc r) e, clear_on (x / 2) r (sym (bit_high x r) ∙ e), bit_within (x / 2) r (sym (bit_high x r) ∙ e)))
      (λ e. omega (arith, clear_off x (suc r) e, clear_off (x / 2) r (sym (bit_high x r) ∙ e))) (true_or_false (bit x (suc r)));
}

-- the bit that was put is v, and every other bit is as it was
module _ {v : ℕ} (small : v < 2) {put : ℕ → ℕ → ℕ} (p : Puts v put) where
  half_low : (x : ℕ) → put x 0 / 2 ≡ x / 2
  half_low x = omega (arith, p.low x)

  half_high : (x r : ℕ) → put x (suc r) / 2 ≡ put (x / 2) r
  half_high x r = omega (arith, p.high x r)

  put_same : (x r : ℕ) → bit (put x r) r ≡ eqb v 1
  put_same x zero = let e : put x 0 % 2 ≡ v = omega (arith, p.low x) in rw (bit_low, e)
  put_same x (suc r) = rw (bit_high, half_high) (put_same (x / 2) r)

  put_other : (x r j : ℕ) → j ≢ r → bit (put x r) j ≡ bit x j
  put_other x zero zero ne = absurd (ne refl)
  put_other x zero (suc j) ne = rw (bit_high (put x 0) j, half_low, bit_high)
  put_other x (suc r) zero ne = let e : put x (suc r) % 2 ≡ x % 2 = omega (arith, p.high x r) in rw (bit_low (put x (suc r)), e, bit_low)
  put_other x (suc r) (suc j) ne = rw (bit_high (put x (suc r)) j, half_high, bit_high x j) (put_other (x / 2) r j (λ e. ne (ap suc e)))

pub set_same : (x r : ℕ) → bit (set_bit x r) r ≡ true
set_same = put_same (omega arith) sets

pub set_other : (x r j : ℕ) → j ≢ r → bit (set_bit x r) j ≡ bit x j
set_other = put_other (omega arith) sets

pub clear_same : (x r : ℕ) → bit (clear_bit x r) r ≡ false
clear_same = put_same (omega arith) clears

pub clear_other : (x r j : ℕ) → j ≢ r → bit (clear_bit x r) j ≡ bit x j
clear_other = put_other (omega arith) clears

-- numbers of k bits that agree at each bit are equal
pub same_bits : (k x y : ℕ) → x < 2 ^ k → y < 2 ^ k → ((r : ℕ) → r < k → bit x r ≡ bit y r) → x ≡ y
same_bits zero x y hx hy h = omega (arith, pow-zero 2)
same_bits (suc k) x y hx hy h =
    let e : x / 2 ≡ y / 2 = same_bits k (x / 2) (y / 2) (omega arith) (omega arith) (λ r l. sym (bit_high x r) ∙ h (suc r) (omega arith) ∙ bit_high y r) in
    ⊎_elim (λ t. omega (arith, low_true x t, low_true y (sym (h 0 (omega arith)) ∙ t)))
    (λ t. omega (arith, low_false x t, low_false y (sym (h 0 (omega arith)) ∙ t))) (true_or_false (bit x 0))

-- no bit is set past the width
pub no_bit : (k x r : ℕ) → x < 2 ^ k → k ≤ r → bit x r ≡ false
unfolding bit
no_bit k x r h l =
    let d : x / 2 ^ r ≡ 0 = div-eq_of_lt (lt_of_lt_of_le h (pow-le-pow_right (omega arith) l)) in
    simp d

-- the operators: each law takes one step of the operator and goes on with the halves
half_power : (r : ℕ) → 2 ^ suc r / 2 ≡ 2 ^ r
half_power r = omega arith

pub or_is : (x r : ℕ) → bit_or x (2 ^ r) ≡ set_bit x r
or_is x zero = omega (arith, or_step x 1, or_zero_r (x / 2), sets.low x)
or_is x (suc r) =
    omega (
      arith,
      or_step x (2 ^ suc r),
      ap (λ (n : ℕ). bit_or (x / 2) n) (half_power r),
      or_is (x / 2) r,
      sets.high x r,
    )

-- the bit alone
and_one : (x r : ℕ) → bit_and x (2 ^ r) ≡ x / 2 ^ r % 2 * 2 ^ r
and_one x r =
    let e : 2 ^ (1 + r) - 2 ^ r ≡ 2 ^ r = omega (arith, pow-add 2 1 r) in
    ap (λ (n : ℕ). bit_and x n) (sym e) ∙ and_high x 1 r

pub and_is : (x r : ℕ) → not (eqb (bit_and x (2 ^ r)) 0) ≡ bit x r
unfolding bit
and_is x r = ⊎_elim one none (true_or_false (eqb (x / 2 ^ r % 2) 1))
  where
    one : eqb (x / 2 ^ r % 2) 1 ≡ true → not (eqb (bit_and x (2 ^ r)) 0) ≡ eqb (x / 2 ^ r % 2) 1
    one e =
        let d = eqb-true (x / 2 ^ r % 2) 1 e in
        let n : bit_and x (2 ^ r) ≢ 0 = λ z. omega (arith, and_one x r, ap (λ (n : ℕ). n * 2 ^ r) d, pow_pos r) in
        rw (ne_eqb _ _ n, e)

    none : eqb (x / 2 ^ r % 2) 1 ≡ false → not (eqb (bit_and x (2 ^ r)) 0) ≡ eqb (x / 2 ^ r % 2) 1
    none e =
        let ne : x / 2 ^ r % 2 ≢ 1 = eqb-false (x / 2 ^ r % 2) 1 e in
        let d : x / 2 ^ r % 2 ≡ 0 = omega arith in
        let z : bit_and x (2 ^ r) ≡ 0 = omega (arith, and_one x r, ap (λ (n : ℕ). n * 2 ^ r) d) in
        rw (eq-eqb _ _ z, e)

pub and_not_is : (w x r : ℕ) → x < 2 ^ w → r < w → bit_and x (2 ^ w - 1 - 2 ^ r) ≡ clear_bit x r
and_not_is zero x r hx hr = absurd (omega arith)
and_not_is (suc w) x zero hx hr =
    let p = pow_pos w in
    let m : (2 ^ suc w - 1 - 1) / 2 ≡ 2 ^ w - 1 = omega arith in
    let l : x / 2 % 2 ^ w ≡ x / 2 = mod-eq_of_lt (omega arith) in
    omega (
      arith,
      and_step x (2 ^ suc w - 1 - 1),
      ap (λ (n : ℕ). bit_and (x / 2) n) m,
      and_mask (x / 2) w,
      clears.low x,
    )
and_not_is (suc w) x (suc r) hx hr =
    let b : 2 ^ suc r ≤ 2 ^ w = pow-le-pow_right (omega arith) (omega arith) in
    let m : (2 ^ suc w - 1 - 2 ^ suc r) / 2 ≡ 2 ^ w - 1 - 2 ^ r = omega arith in
    omega (
      arith,
      and_step x (2 ^ suc w - 1 - 2 ^ suc r),
      ap (λ (n : ℕ). bit_and (x / 2) n) m,
      and_not_is w (x / 2) r (omega arith) (omega arith),
      clears.high x r,
    )

-- the 1 shifted to r below the width is not cut
pub shifted : (w r : ℕ) → r < w → 1 * 2 ^ r % 2 ^ w ≡ 2 ^ r
shifted w r h =
    let p = pow_pos r in
    let m : 2 ^ suc r ≤ 2 ^ w = pow-le-pow_right (omega arith) h in
    let l : 1 * 2 ^ r < 2 ^ w = omega arith in
    mod-eq_of_lt l ∙ one-mul _
