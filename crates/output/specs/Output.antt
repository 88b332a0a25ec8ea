-- What waits in a buffer of a size once there is room for so many bytes more: all that waited, or nothing.
use Rattle.std.specs.Prelude.{ℕ, ◌-◌, ltb, List, take, length}
use Rattle.terms.specs.Words.{pick}

-- how many bytes
unfoldable pub waiting : ℕ → ℕ → ℕ → ℕ
waiting size used room = pick (ltb size used) 0 (pick (ltb (size - used) room) 0 used)

-- which bytes
abbrev pub kept : ℕ → List ℕ → ℕ → List ℕ
kept size bytes room = take (waiting size (length bytes) room) bytes
