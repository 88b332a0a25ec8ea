-- What the quantities come to: products that fit, and plain arithmetic wherever the board's ranges hold.
use Prim.Native.Nat.{ℕ, ◌+◌, ◌-◌, ◌*◌, ◌/◌, ◌^◌, ◌<◌, ◌≤◌, min, max}
use mathlib.Core.Path.{◌≡◌, refl, ap, subst⁻¹}
use native.Mathlib.Omega.{arith}
use native.Mathlib.Nat.{mul-le-mul, le_of_lt, lt_of_le_of_lt, mul-le-mul_left, mul-lt-mul_of_pos_right}
use lib.Pow.{pow_pos, pow-add}
use Rattle.quantity.specs.declared.Instant.{Instant}
use Rattle.quantity.specs.declared.Length.{Length}
use Rattle.quantity.specs.Quantity.{at, ticks, later, since, less_portion, larger, longer, shorter, length_of, last_instant, longest_length}

-- the product of two numbers of k bits has at most k + k
pub product_below : (k : ℕ) {a b : ℕ} → a < 2 ^ k → b < 2 ^ k → a * b < 2 ^ (k + k)
product_below k {a} {b} ha hb =
    subst⁻¹ (λ (n : ℕ). a * b < n) (pow-add 2 k k)
    (lt_of_le_of_lt (mul-le-mul_left a (le_of_lt hb)) (mul-lt-mul_of_pos_right ha (pow_pos k)))

-- a product of two numbers with bounds of their own
pub product_at_most : (m n a b : ℕ) → a ≤ m → b ≤ n → a * b ≤ m * n
product_at_most m n a b ha hb = mul-le-mul ha hb

-- nothing is cut where the sum can be written
pub later_exact : (t : Instant) (l : Length) → t.0 + l.0 ≤ last_instant → later t l ≡ at (t.0 + l.0)
unfolding later
later_exact t l h = ap at (omega arith)

pub since_exact : (t s : Instant) → t.0 ≤ s.0 + longest_length → since t s ≡ ticks (t.0 - s.0)
unfolding since
since_exact t s h = ap ticks (omega arith)

-- what has passed since s, added to s again
pub since_later : (t s : Instant) → s.0 ≤ t.0 → t.0 ≤ last_instant → t.0 ≤ s.0 + longest_length → later s (since t s) ≡ t
unfolding later since
since_later t s h k l = ap at (omega arith)

pub longer_exact : (l m : Length) → l.0 + m.0 ≤ longest_length → longer l m ≡ ticks (l.0 + m.0)
unfolding longer
longer_exact l m h = ap ticks (omega arith)

-- no test of the order is asked: a length is cut at 0, as a natural number is
pub shorter_is : (l m : Length) → (shorter l m).0 ≡ l.0 - m.0
unfolding shorter
shorter_is l m = omega arith

pub length_of_exact : (n : ℕ) → n ≤ longest_length → length_of n ≡ ticks n
unfolding length_of
length_of_exact n h = ap ticks (omega arith)

-- the definitions, as equations of numbers
pub less_portion_is : (t : Instant) (p q b : Length) → less_portion t p q b ≡ at (t.0 - q.0 * p.0 / b.0)
unfolding less_portion
less_portion_is t p q b = refl

pub larger_is : (l m : Length) → larger l m ≡ ticks (max l.0 m.0)
unfolding larger
larger_is l m = refl

pub later_is : (t : Instant) (l : Length) → (later t l).0 ≡ min (t.0 + l.0) last_instant
unfolding later
later_is t l = refl
