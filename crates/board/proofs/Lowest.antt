-- Ceilings: what adds none changes nothing, so a walk may stop where no further resource is locked.
use Rattle.quantity.specs.declared.Length.{Length}
use Prim.Native.Nat.{ℕ, zero, suc, ◌+◌, ◌/◌, ◌^◌, ◌≤◌, ◌<◌}
use mathlib.Core.Path.{◌≡◌, refl, ap, ◌∙◌}
use native.Mathlib.Omega.{arith}
use native.Mathlib.Nat.{add-suc, add-zero, pow-suc, div-div-eq-div-mul, div-eq_of_lt}
use native.Mathlib.Decide.{dec_le}
use mathlib.Core.Logic.{◌≢◌}
use native.Mathlib.Numerals.{add-one}
use Rattle.std.specs.Prelude.{Option, Some, None}
use Rattle.board.specs.Board.{lower, lowest}

pub lower_absent : (c : Option Length) → lower c None ≡ c
lower_absent None = refl
lower_absent (Some p) = refl

pub lowest_begin : (f : ℕ → Option Length) → lowest f 0 ≡ None
unfolding lowest
lowest_begin f = refl

pub lowest_next : (f : ℕ → Option Length) (n : ℕ) → lowest f (n + 1) ≡ lower (lowest f n) (f n)
unfolding lowest
lowest_next f n = rw add-one

-- nothing from n on
pub lowest_rest : (f : ℕ → Option Length) (n k : ℕ) → ((j : ℕ) → n ≤ j → f j ≡ None) → lowest f (n + k) ≡ lowest f n
unfolding lowest
lowest_rest f n zero h = rw add-zero
lowest_rest f n (suc k) h =
    rw add-suc (ap (λ (c : Option Length). lower (lowest f (n + k)) c) (h (n + k) (omega arith)) ∙ lower_absent _ ∙ lowest_rest f n k h)

-- a number of eight bits shifted to the right, a bit at a time
pub half_left : (x r : ℕ) → x / 2 ^ r / 2 ≡ x / 2 ^ (r + 1)
half_left x r = rw (add-one, pow-suc, div-div-eq-div-mul)

pub some_left : (x r bits : ℕ) → x < 2 ^ 8 → r ≤ 8 → bits ≡ x / 2 ^ r → bits ≢ 0 → r < 8
some_left x r bits h l e n = go (dec_le 8 r)
  where
    go : Dec (8 ≤ r) → r < 8
    go (no z) = omega arith
    go (yes k) =
        let q : r ≡ 8 = omega arith in
        absurd (n (e ∙ ap (λ (m : ℕ). x / 2 ^ m) q ∙ div-eq_of_lt h))
