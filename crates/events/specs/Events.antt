-- What happens on a board, in the order in which it happens, and what is counted in it.
use Rattle.std.specs.Prelude.{ℕ, ◌+◌, ◌-◌, List, [], ◌∷◌, eqb}
use Rattle.terms.specs.Words.{pick, when}

-- a tick of a slot, or a replenishment of a slot with its start
pub data Event : Type 0 where
  Ran : ℕ → Event
  Replenished : ℕ → ℕ → Event

abbrev pub slot_of : Event → ℕ
slot_of (Ran i) = i
slot_of (Replenished i s) = i

-- the ticks of slot i
unfoldable pub ticks : ℕ → List Event → ℕ
ticks i [] = 0
ticks i (Ran j ∷ es) = when (eqb j i) 1 + ticks i es
ticks i (Replenished j s ∷ es) = ticks i es

-- the start of the last replenishment of slot i, s if there is none
unfoldable pub last_start : ℕ → ℕ → List Event → ℕ
last_start i s [] = s
last_start i s (Ran j ∷ es) = last_start i s es
last_start i s (Replenished j s' ∷ es) = last_start i (pick (eqb j i) s' s) es

-- what is left of slot i's budget after the events, if q was left before: a tick takes 1, a replenishment gives the whole budget Q
unfoldable pub left_after : ℕ → ℕ → ℕ → List Event → ℕ
left_after i Q q [] = q
left_after i Q q (Ran j ∷ es) = left_after i Q (pick (eqb j i) (q - 1) q) es
left_after i Q q (Replenished j s ∷ es) = left_after i Q (pick (eqb j i) Q q) es

-- its deadline after them, if it was d before: a replenishment with start s puts it a period P after s
unfoldable pub deadline_after : ℕ → ℕ → ℕ → List Event → ℕ
deadline_after i P d [] = d
deadline_after i P d (Ran j ∷ es) = deadline_after i P d es
deadline_after i P d (Replenished j s ∷ es) = deadline_after i P (pick (eqb j i) (s + P) d) es
