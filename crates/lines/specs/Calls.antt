-- The call that a line of the bench program asks for (document 01, "The bench program").
use Rattle.std.specs.Prelude.{ℕ, ◌+◌, Bool, ◌&&◌, List, [], leb, eqb, length, get_or, drop, replicate}
use Rattle.terms.specs.Words.{pick, list}
use Rattle.lines.specs.declared.Line.{Line}
use Rattle.lines.specs.declared.Call.{Call}
use Rattle.lines.specs.declared.Call.TheVariants.{Open, Admit, Start, Arrive, Done, Lock, Unlock, Run, Malformed}
use Rattle.lines.specs.Text.{fields_of, are_numbers, values_of}

-- a call without holds
abbrev pub plain : Call → Line
plain c = record { call = c; holds = replicate 8 0 }

abbrev pub malformed : Line
malformed = plain Malformed

-- the letter and the count are these
unfoldable pub asks : ℕ → ℕ → ℕ → ℕ → Bool
asks letter count c n = eqb letter c && eqb count n

-- period, budget, eight holds
abbrev pub admit_of : (ℕ → ℕ) → Line
admit_of n = record { call = Admit (n 0) (n 1); holds = list (λ r. n (2 + r)) 8 }

-- by the letter, the count of the numbers behind it, and the numbers:
-- F frame; A period, budget, eight holds; S start; W slot; D slot; L slot, resource; U slot; R ticks
unfoldable pub call_by : ℕ → ℕ → (ℕ → ℕ) → Line
call_by letter count n =
    pick (asks letter count 70 1) (plain (Open (n 0)))
    (pick (asks letter count 65 10) (admit_of n)
    (pick (asks letter count 83 0) (plain Start)
    (pick (asks letter count 87 1) (plain (Arrive (n 0)))
    (pick (asks letter count 68 1) (plain (Done (n 0)))
    (pick (asks letter count 76 2) (plain (Lock (n 0) (n 1)))
    (pick (asks letter count 85 1) (plain (Unlock (n 0)))
    (pick (asks letter count 82 1) (plain (Run (n 0)))
    malformed)))))))

unfoldable pub call_of : ℕ → List ℕ → Line
call_of letter v = call_by letter (length v) (λ i. get_or v i 0)

-- the one byte of a field of one byte; 0, which is no letter, of any other field
unfoldable pub letter_of : List ℕ → ℕ
letter_of f = pick (eqb (length f) 1) (get_or f 0 0) 0

-- what fields say: a letter, and numbers behind it
unfoldable pub fields_call : List (List ℕ) → Line
fields_call fs =
    pick (are_numbers (drop 1 fs)) (call_of (letter_of (get_or fs 0 [])) (values_of (drop 1 fs))) malformed

-- a line without its end; one longer than 255 bytes is not well formed
unfoldable pub line_of : List ℕ → Line
line_of l = pick (leb (length l) 255) (fields_call (fields_of l)) malformed
