-- Stores at consecutive places: one more in front, or more behind.
use Prim.Native.Nat.{ℕ, suc, ◌+◌, ◌-◌, ◌<◌, ◌≤◌}
use mathlib.Core.Path.{◌≡◌, refl, ◌∙◌}
use mathlib.Core.List.{List, [], ◌∷◌, ◌++◌}
use native.Mathlib.Omega.{arith}
use borrow.Author.Tests.{lt-ltb, le-ltb}
use lib.ListN.{length, set, drop, length-append}
use lib.Seq.{sets, sets-eq, set_comm}
use Rattle.std.specs.Prelude.{Option, Some, None}
use Rattle.lines.specs.Text.{digits_of}
use Rattle.lines.specs.Answers.{named_text, ended, text_of}

set_before : (vs l : List ℕ) (i j a : ℕ) → j < i → set (sets l i vs) j a ≡ sets (set l j a) i vs
set_before [] l i j a h = refl
set_before (v ∷ vs) l i j a h =
    set_before vs (set l i v) (suc i) j a (omega arith) ∙ simp (set_comm l i j v a (λ e. omega arith))

pub sets_front : (vs l : List ℕ) (i j a : ℕ) → i ≡ suc j → set (sets l i vs) j a ≡ sets l j (a ∷ vs)
sets_front vs l i j a e = rw e (set_before vs l (suc j) j a (omega arith))

pub sets_behind : (vs ws l : List ℕ) (i : ℕ) → sets (sets l i vs) (i + length vs) ws ≡ sets l i (vs ++ ws)
sets_behind [] ws l i = let e : i + 0 ≡ i = omega arith in rw e
sets_behind (v ∷ vs) ws l i =
    let e : i + suc (length vs) ≡ suc i + length vs = omega arith in
    rw e (sets_behind vs ws (set l i v) (suc i))

-- from the start on
pub sets_start : (vs l : List ℕ) → length vs ≤ length l → sets l 0 vs ≡ vs ++ drop (length vs) l
sets_start vs l h = let e : 0 + length vs ≡ length vs = omega arith in sets-eq vs l 0 (omega arith) ∙ rw e

-- the first of the bytes and one behind them, where the others stand already
pub sets_done : (b l ds tail : List ℕ) (at k w x then : ℕ) → b ≡ sets l k tail → k ≡ suc at → ds ≡ x ∷ tail → w ≡ length ds
    → set (set b (k - 1) x) (at + w) then ≡ sets l at (ds ++ (then ∷ []))
sets_done b l ds tail at k w x then eb ek ed ew =
    let e : k - 1 ≡ at = omega arith in
    rw (ew, ed, e, eb, sets_front tail l k at x ek) (sets_behind (x ∷ tail) (then ∷ []) l at)

-- one more behind them
pub sets_end : (l ds : List ℕ) (i w then : ℕ) → w ≡ length ds → set (sets l i ds) (i + w) then ≡ sets l i (ds ++ (then ∷ []))
sets_end l ds i w then e = rw e (sets_behind ds (then ∷ []) l i)

-- more bytes at the place where the first end
pub sets_then : (l vs ws : List ℕ) (i j : ℕ) → j ≡ i + length vs → sets (sets l i vs) j ws ≡ sets l i (vs ++ ws)
sets_then l vs ws i j e = rw e (sets_behind vs ws l i)

pub ended_length : (f : List ℕ) (c : ℕ) → length (ended f c) ≡ length f + 1
ended_length f c = length-append f (c ∷ [])

pub named_slot : (n : ℕ) → n < 16 → named_text (Some n) ≡ digits_of n
unfolding named_text
named_slot n h = simp (lt-ltb n 16 h)

pub named_other : (n : ℕ) → 16 ≤ n → named_text (Some n) ≡ 45 ∷ []
unfolding named_text
named_other n h = simp (le-ltb n 16 h)

pub named_nobody : named_text None ≡ 45 ∷ []
unfolding named_text
named_nobody = refl

module _ (clock : ℕ) (named : Option ℕ) (number value : ℕ) where
  pub text_length : length (text_of clock named number value)
      ≡ length (digits_of clock) + length (named_text named) + length (digits_of number) + length (digits_of value) + 4
  unfolding text_of
  text_length = simp length-append (omega arith)

  -- the four fields, each with what ends it, one behind the other
  pub text_sets : (l : List ℕ) (i j k : ℕ) → i ≡ 0 + length (ended (digits_of clock) 32) → j ≡ i + length (ended (named_text named) 32)
      → k ≡ j + length (ended (digits_of number) 32) → length (text_of clock named number value) ≤ length l
      → sets
      (sets (sets (sets l 0 (ended (digits_of clock) 32)) i (ended (named_text named) 32)) j (ended (digits_of number) 32))
      k
      (ended (digits_of value) 10)
      ≡ text_of clock named number value ++ drop (length (text_of clock named number value)) l
  unfolding text_of
  text_sets l i j k ei ej ek h =
      let one = ended (digits_of clock) 32 in
      let two = ended (named_text named) 32 in
      let three = ended (digits_of number) 32 in
      let four = ended (digits_of value) 10 in
      sets_then (sets (sets l 0 one) i two) three four j k ek ∙ sets_then (sets l 0 one) two (three ++ four) i j ej
      ∙ sets_then l one (two ++ (three ++ four)) 0 i ei ∙ sets_start (text_of clock named number value) l h
