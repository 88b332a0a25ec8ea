-- The lines of an input that comes in blocks, and the step that goes through a block line by line.
use Rattle.std.specs.Prelude.{ℕ, ◌+◌, ◌-◌, min, Bool, ◌&&◌, Some, None, List, [], ◌∷◌, ltb, eqb, length, take, drop}
use Rattle.std.proofs.Math.Seq.{paste}
use Rattle.terms.specs.Words.{pick}
use Rattle.lines.specs.declared.Line.{Line}
use Rattle.lines.specs.declared.Step.{Step}
use Rattle.lines.specs.Text.{onto, before}
use Rattle.lines.specs.Calls.{line_of}

abbrev pub line_end : ℕ
line_end = 10

-- the lines of an input, without their ends: a last line without a line end counts, and nothing gives nothing
unfoldable pub lines_of : List ℕ → List (List ℕ)
lines_of [] = []
lines_of (c ∷ s) = pick (eqb c line_end) ([] ∷ lines_of s) (onto c (lines_of s))

-- the stretch of a block from a place up to the next line end, or to the block's end
abbrev pub part_at : List ℕ → ℕ → List ℕ
part_at block from = take (before line_end (drop from block)) (drop from block)

-- a line end stands at the stretch's end
abbrev pub ends_at : List ℕ → ℕ → Bool
ends_at block from = ltb (from + before line_end (drop from block)) (length block)

-- of a buffer whose first bytes are taken: how many bytes of a stretch find room behind them, and the buffer with those
abbrev pub room_for : List ℕ → ℕ → List ℕ → ℕ
room_for held count part = min (length part) (length held - count)

unfoldable pub held_with : List ℕ → ℕ → List ℕ → List ℕ
held_with held count part = paste held count part (room_for held count part)

-- a line that ends here: the stretch, behind what is held of it from blocks before
unfoldable pub line_bytes : List ℕ → ℕ → List ℕ → List ℕ
line_bytes held count part = pick (eqb count 0) part (take (count + room_for held count part) (held_with held count part))

-- a step that gets a line, after which nothing is held; one that gets none
abbrev pub one_line : Line → ℕ → Step
one_line line next = record { line = Some line; next = next; count = 0 }

abbrev pub no_line : ℕ → ℕ → Step
no_line next count = record { line = None; next = next; count = count }

-- one step: a line that ends in the block, or the rest of the block, which is then held
unfoldable pub step_of : List ℕ → ℕ → List ℕ → ℕ → Step
step_of block from held count =
    pick (ends_at block from)
    (one_line (line_of (line_bytes held count (part_at block from))) (from + before line_end (drop from block) + 1))
    (no_line (from + before line_end (drop from block)) (count + room_for held count (part_at block from)))

-- the buffer after it: a line that lies in the block alone is not copied
unfoldable pub held_after : List ℕ → ℕ → List ℕ → ℕ → List ℕ
held_after block from held count = pick (ends_at block from && eqb count 0) held (held_with held count (part_at block from))

-- a line that no line end closes, when the input is at its end: what is held, if anything is
unfoldable pub last_of : List ℕ → ℕ → Step
last_of held count = pick (ltb 0 count) (one_line (line_of (take count held)) 0) (no_line 0 0)
