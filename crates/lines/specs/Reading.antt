-- An input that comes in blocks, cut anywhere: what a program finds that goes through each block with `next` and ends with `last`.
use Rattle.std.specs.Prelude.{ℕ, zero, suc, List, [], ◌∷◌, ◌++◌, ltb, length}
use Rattle.std.specs.Option.{option_to_list}
use Rattle.terms.specs.Words.{pick}
use Rattle.lines.specs.declared.Line.{Line}
use Rattle.lines.specs.declared.Step.{Step}
use Rattle.lines.specs.Input.{step_of, held_after, last_of}

-- the buffer between two steps, and how much of it is held
pub record Held : Type 0 where
  pub bytes : List ℕ
  pub count : ℕ

-- a step's line, if it got one, before the lines of the steps behind it
abbrev pub found : Step → List Line → List Line
found s lines = option_to_list s.line ++ lines

abbrev pub step_by : List ℕ → ℕ → Held → Step
step_by block from h = step_of block from h.bytes h.count

abbrev pub held_by : List ℕ → ℕ → Held → Held
held_by block from h = record { bytes = held_after block from h.bytes h.count; count = (step_by block from h).count }

-- step by step while the place is in the block, in at most k steps: the lines
unfoldable pub lines_in : ℕ → List ℕ → ℕ → Held → List Line
lines_in zero block from h = []
lines_in (suc k) block from h =
    pick (ltb from (length block))
    (found (step_by block from h) (lines_in k block (step_by block from h).next (held_by block from h)))
    []

-- and what is held behind them
unfoldable pub held_behind : ℕ → List ℕ → ℕ → Held → Held
held_behind zero block from h = h
held_behind (suc k) block from h =
    pick (ltb from (length block)) (held_behind k block (step_by block from h).next (held_by block from h)) h

-- block by block, and then the last line
unfoldable pub lines_through : List (List ℕ) → Held → List Line
lines_through [] h = found (last_of h.bytes h.count) []
lines_through (block ∷ blocks) h =
    lines_in (length block) block 0 h ++ lines_through blocks (held_behind (length block) block 0 h)
