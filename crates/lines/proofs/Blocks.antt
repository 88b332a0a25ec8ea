-- A step by where the next line end is found: outside, none, one in the block, alone or behind what is held.
use Prim.Native.Nat.{ℕ, ◌+◌, ◌-◌, ◌≤◌, ◌<◌, min}
use mathlib.Core.Path.{◌≡◌, refl, sym, ◌∙◌}
use mathlib.Core.List.{List, []}
use native.Mathlib.Omega.{arith}
use native.Mathlib.Nat.{le_of_lt}
use borrow.Author.Tests.{lt-ltb, le-ltb, eq-eqb, ne_eqb}
use lib.Dec.{eqb}
use lib.ListN.{length, take, drop, drop_of_length-le, length-drop}
use lib.Seq.{paste-zero, take_all}
use Rattle.std.specs.Prelude.{Some, None}
use Rattle.std.specs.List.{position, slice_range}
use Rattle.terms.specs.Words.{pick}
use Rattle.lines.specs.Text.{before}
use Rattle.lines.specs.Calls.{line_of}
use Rattle.lines.specs.Input.{one_line, no_line, line_end, room_for, held_with, line_bytes, step_of, held_after}
use Rattle.lines.proofs.Fields.{before_none, before_some}

module _ (block held : List ℕ) (from count : ℕ) where
  pub step_outside : length block < from
      → (step_of block from held count ≡ no_line from count)
      × (held_after block from held count ≡ held)
  unfolding step_of held_after held_with before
  step_outside h =
      let e = drop_of_length-le block (le_of_lt h) in
      let t = le-ltb from (length block) (omega arith) in
      let z : from + 0 ≡ from = omega arith in
      let x : min 0 (length held - count) ≡ 0 = omega arith in
      let y : count + 0 ≡ count = omega arith in
      (simp (e, t, x, y, z), simp (e, z, t, x) (sym (paste-zero held count [])))

  module _ (rest : List ℕ) (found : rest ≡ slice_range block from (length block)) (within : from ≤ length block) where
    behind : rest ≡ drop from block
    behind = found ∙ take_all (length block - from) (drop from block) (rw length-drop (omega arith))

    whole : from + length rest ≡ length block
    whole = rw (behind, length-drop) (omega arith)

    pub step_rest : None ≡ position (λ byte. eqb byte line_end) rest
        → (step_of block from held count ≡ no_line (length block) (count + room_for held count rest))
        × (held_after block from held count ≡ held_with held count rest)
    unfolding step_of held_after
    step_rest h =
        let b = before_none line_end rest h in
        let t = le-ltb (length block) (length block) (omega arith) in
        let a = take_all (length rest) rest (omega arith) in
        rw (← behind) (simp (b, whole, t, a) (refl, refl))

    pub step_ended : (size : ℕ) → Some size ≡ position (λ byte. eqb byte line_end) rest
        → (step_of block from held count ≡ one_line (line_of (line_bytes held count (take size rest))) (from + size + 1))
        × (held_after block from held count ≡ pick (eqb count 0) held (held_with held count (take size rest)))
    unfolding step_of held_after
    step_ended size h =
        let b = before_some line_end rest size h in
        let t = lt-ltb (from + size) (length block) (omega (arith, whole)) in
        rw (← behind) (simp (b.0, t) (refl, refl))

  -- the same by the place of the line end: a line that lies in the block alone, and one behind what is held
  module _ (end : ℕ) (found : end ≡ from + before line_end (drop from block)) where
    abbrev part : List ℕ
    part = take (end - from) (drop from block)

    size : end - from ≡ before line_end (drop from block)
    size = omega arith

    pub step_line : end < length block → count ≡ 0
        → (step_of block from held count ≡ one_line (line_of part) (end + 1))
        × (held_after block from held count ≡ held)
    unfolding step_of held_after line_bytes
    step_line h z =
        let t = lt-ltb (from + before line_end (drop from block)) (length block) (omega arith) in
        simp (t, eq-eqb _ _ z) (rw (size, found) (refl, refl))

    pub step_gathered : end < length block → (count ≡ 0 → ⊥)
        → (step_of block from held count
        ≡ one_line (line_of (take (count + room_for held count part) (held_with held count part))) (end + 1))
        × (held_after block from held count ≡ held_with held count part)
    unfolding step_of held_after line_bytes
    step_gathered h z =
        let t = lt-ltb (from + before line_end (drop from block)) (length block) (omega arith) in
        simp (t, ne_eqb _ _ z) (rw (size, found) (refl, refl))
