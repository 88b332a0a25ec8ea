-- An answer's line has 49 bytes at most: a number has twenty digits at most, a slot two, an answer's number three.
use Prim.Native.Nat.{ℕ, ◌/◌, ◌<◌, ◌≤◌}
use mathlib.Core.Path.{◌≡◌, ap}
use mathlib.Core.List.{List}
use native.Mathlib.Omega.{arith}
use native.Mathlib.Nat.{le_trans}
use native.Mathlib.Decide.{dec_lt}
use borrow.Author.Tests.{le-ltb}
use lib.ListN.{length}
use Rattle.std.specs.Prelude.{Option, Some, None}
use Rattle.lines.specs.Text.{digits_of}
use Rattle.lines.specs.Answers.{named_text, text_of, written_count}
use Rattle.lines.proofs.Spelling.{digits_one, width_more, width_most}
use Rattle.lines.proofs.Bytes.{named_slot, named_other, named_nobody, text_length}

two_digits : (n : ℕ) → n < 100 → length (digits_of n) ≤ 2
two_digits n h = go (dec_lt n 10)
  where
    go : Dec (n < 10) → length (digits_of n) ≤ 2
    go (yes k) = rw (digits_one n k) (omega arith)
    go (no z) = omega (arith, width_more n (omega arith) (omega arith), ap (λ (s : List ℕ). length s) (digits_one (n / 10) (omega arith)))

three_digits : (n : ℕ) → n < 1000 → length (digits_of n) ≤ 3
three_digits n h = go (dec_lt n 10)
  where
    go : Dec (n < 10) → length (digits_of n) ≤ 3
    go (yes k) = rw (digits_one n k) (omega arith)
    go (no z) = omega (arith, width_more n (omega arith) (omega arith), two_digits (n / 10) (omega arith))

named_width : (named : Option ℕ) → length (named_text named) ≤ 2
named_width None = rw named_nobody (omega arith)
named_width (Some n) = go (dec_lt n 16)
  where
    go : Dec (n < 16) → length (named_text (Some n)) ≤ 2
    go (yes k) = rw (named_slot n k) (two_digits n (omega arith))
    go (no z) = rw (named_other n (omega arith)) (omega arith)

module _ (clock : ℕ) (named : Option ℕ) (number value : ℕ) (h : number < 1000) where
  pub text_fits : length (text_of clock named number value) ≤ 49
  text_fits =
      omega (arith, text_length clock named number value, width_most clock, named_width named, three_digits number h, width_most value)

  -- so a buffer of 49 bytes takes all of it
  pub all_written : (buffer : List ℕ) → 49 ≤ length buffer
      → written_count buffer (text_of clock named number value) ≡ length (text_of clock named number value)
  unfolding written_count
  all_written buffer k = simp (le-ltb _ _ (le_trans text_fits k))
