-- A set of resources as one number, bit r for resource r.
use Rattle.std.specs.Prelude.{ℕ, ◌+◌, ◌-◌, ◌/◌, ◌%◌, ◌^◌, Bool, ltb, eqb}
use Rattle.terms.specs.Words.{pick}
use Rattle.resources.specs.declared.Set.{Set}

-- resources are 0 to 7
abbrev pub resources : ℕ
resources = 8

-- bit r of a number
unfoldable pub bit : ℕ → ℕ → Bool
bit x r = eqb (x / 2 ^ r % 2) 1

-- the number with bit r set, and with bit r clear
unfoldable pub set_bit : ℕ → ℕ → ℕ
set_bit x r = pick (bit x r) x (x + 2 ^ r)

unfoldable pub clear_bit : ℕ → ℕ → ℕ
clear_bit x r = pick (bit x r) (x - 2 ^ r) x

-- r is in the set
unfoldable pub has : Set → ℕ → Bool
has s r = bit s.0 r

-- the set with r, and without r; there is no resource above 7 to put in
unfoldable pub with : Set → ℕ → Set
with s r = pick (ltb r resources) (record { 0 = set_bit s.0 r }) s

unfoldable pub without : Set → ℕ → Set
without s r = record { 0 = clear_bit s.0 r }
