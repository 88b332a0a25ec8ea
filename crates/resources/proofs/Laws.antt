-- What a set says after insert and remove, and that equal sets are equal numbers: the laws of bits, read of sets.
use Prim.Native.Nat.{ℕ, ◌+◌, ◌*◌, ◌/◌, ◌%◌, ◌^◌, ◌<◌, ◌≤◌}
use mathlib.Core.Path.{◌≡◌, refl, sym, ap}
use mathlib.Core.Logic.{◌≢◌, ⊎_elim}
use mathlib.Core.Bool.{true, false}
use borrow.Author.Tests.{lt-ltb, ltb-true}
use native.Mathlib.Omega.{arith}
use lib.Dec.{ltb, eqb}
use lib.Pow.{pow_pos, pow-add}
use lib.Bits.{or_lt}
use native.Mathlib.Nat.{div-lt_iff_lt-mul, pow-le-pow_right}
use Rattle.terms.proofs.Tests.{true_or_false, either, by_test}
use Rattle.resources.specs.declared.Set.{Set}
use Rattle.resources.specs.Resources.{resources, bit, clear_bit, has, with, without}
use Rattle.resources.proofs.Bits.{set_same, set_other, clear_same, clear_other, same_bits, no_bit, or_is}

pub with_same : (s : Set) (r : ℕ) → r < resources → has (with s r) r ≡ true
unfolding has with
with_same s r h = rw (lt-ltb _ _ h) (set_same s.0 r)

pub with_other : (s : Set) (r j : ℕ) → j ≢ r → has (with s r) j ≡ has s j
unfolding has with
with_other s r j ne = ⊎_elim (λ e. rw e (set_other s.0 r j ne)) (λ e. rw e) (true_or_false (ltb r resources))

pub without_same : (s : Set) (r : ℕ) → has (without s r) r ≡ false
unfolding has without
without_same s r = clear_same s.0 r

pub without_other : (s : Set) (r j : ℕ) → j ≢ r → has (without s r) j ≡ has s j
unfolding has without
without_other s r j ne = clear_other s.0 r j ne

-- the empty set
pub empty_has : (r : ℕ) → has (record { 0 = 0 }) r ≡ false
unfolding has
empty_has r = no_bit 0 0 r (omega arith) (omega arith)

-- equal sets are equal numbers
pub same_set : (s t : Set) → s.0 < 2 ^ resources → t.0 < 2 ^ resources → ((r : ℕ) → r < resources → has s r ≡ has t r) → s ≡ t
unfolding has
same_set s t hs ht h = ap (λ (n : ℕ). record { 0 = n }) (same_bits resources s.0 t.0 hs ht h)

-- the bit itself, for whoever walks the number
pub has_bit : (s : Set) (r : ℕ) → has s r ≡ eqb (s.0 / 2 ^ r % 2) 1
unfolding has bit
has_bit s r = refl

lt_pow : (x r : ℕ) → x / 2 ^ r ≡ 0 → x < 2 ^ r
lt_pow x r e =
    let l : x / 2 ^ r < 1 = omega arith in
    let m : x < 1 * 2 ^ r = (div-lt_iff_lt-mul (pow_pos r)).0 l in
    omega arith

-- no resource is in the set from where nothing is left of the number
pub has_beyond : (s : Set) (r j : ℕ) → s.0 / 2 ^ r ≡ 0 → r ≤ j → has s j ≡ false
unfolding has
has_beyond s r j e l = no_bit r s.0 j (lt_pow s.0 r e) l

-- eight bits stay eight bits
pub with_range : (s : Set) (r : ℕ) → s.0 < 2 ^ resources → (with s r).0 < 2 ^ resources
unfolding with
with_range s r h =
    by_test (λ (t : Set). t.0 < 2 ^ resources) (ltb r resources) (λ e. rw (sym (or_is s.0 r)) (or_lt resources s.0 (2 ^ r) h (below (ltb-true _ _ e)))) (λ e. h)
  where
    below : r < resources → 2 ^ r < 2 ^ resources
    below l =
        let two : 1 ≤ 2 = omega arith in
        let k : r + 1 ≤ resources = omega arith in
        omega (arith, pow-le-pow_right two k, pow-add 2 r 1, pow_pos r)

pub without_range : (s : Set) (r : ℕ) → s.0 < 2 ^ resources → (without s r).0 < 2 ^ resources
unfolding without clear_bit
without_range s r h = either (λ (n : ℕ). n < 2 ^ resources) (bit s.0 r) (omega arith) h
