-- Two sorts of quantity, in whole ticks. Instant less instant is a length, instant plus length an instant, and two instants are never added.
use Rattle.std.specs.Prelude.{ℕ, ◌+◌, ◌-◌, ◌*◌, ◌/◌, min, max, Bool, ltb}
use Rattle.quantity.specs.declared.Instant.{Instant}
use Rattle.quantity.specs.declared.Length.{Length}

-- the limits of document 01, "Numbers"
abbrev pub longest_period : ℕ
longest_period = 1000000

abbrev pub largest_frame : ℕ
largest_frame = 1000000000

abbrev pub clock_end : ℕ
clock_end = 1000000000000

abbrev pub longest_run : ℕ
longest_run = 1000000

-- the last instant and the longest length that can be written down: sums stay there, and no board that calls lead to comes near
abbrev pub last_instant : ℕ
last_instant = 18446744073709551615

abbrev pub longest_length : ℕ
longest_length = 4294967295

abbrev pub at : ℕ → Instant
at n = record { 0 = n }

abbrev pub ticks : ℕ → Length
ticks n = record { 0 = n }

-- instant plus length
unfoldable pub later : Instant → Length → Instant
later t l = at (min (t.0 + l.0) last_instant)

-- instant less instant; nothing where the other is later
unfoldable pub since : Instant → Instant → Length
since t s = ticks (min (t.0 - s.0) longest_length)

-- instant less the portion q / b of the length p, the portion rounded down; a portion of nothing (b = 0) is nothing
unfoldable pub less_portion : Instant → Length → Length → Length → Instant
less_portion t p q b = at (t.0 - q.0 * p.0 / b.0)

-- an instant is before another; a length is below another
abbrev pub before : Instant → Instant → Bool
before t s = ltb t.0 s.0

abbrev pub below : Length → Length → Bool
below l m = ltb l.0 m.0

-- length plus length, length less length
unfoldable pub longer : Length → Length → Length
longer l m = ticks (min (l.0 + m.0) longest_length)

unfoldable pub shorter : Length → Length → Length
shorter l m = ticks (l.0 - m.0)

-- the longer of two lengths
unfoldable pub larger : Length → Length → Length
larger l m = ticks (max l.0 m.0)

-- the length of n ticks
unfoldable pub length_of : ℕ → Length
length_of n = ticks (min n longest_length)
