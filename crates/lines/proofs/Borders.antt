-- Either side of the line, worked out: numbers, fields, the named slot, the last line.
use mathlib.Core.Path.{◌≡◌, refl}
use mathlib.Core.List.{[], ◌∷◌}
use lib.ListN.{replicate}
use Rattle.std.specs.Prelude.{Some, None}
use Rattle.lines.specs.declared.Call.TheVariants.{Start, Arrive, Lock}
use Rattle.lines.specs.Text.{onto, fields_of, are_digits, value_from, value_of, is_number, are_numbers, values_of, digits_within, digits_of}
use Rattle.lines.specs.Calls.{asks, plain, malformed, call_by, call_of, letter_of, fields_call, line_of}
use Rattle.lines.specs.Answers.{named_text, text_of}
use Rattle.lines.specs.Input.{lines_of}

-- W with the largest number, with one more, with a number of 21 digits, with 0, with 01, with nothing, with a second space, with a space behind
arrivals : (line_of (87 ∷ 32 ∷ digits_of 18446744073709551615) ≡ plain (Arrive 18446744073709551615))
    × (line_of (87 ∷ 32 ∷ digits_of 18446744073709551616) ≡ malformed)
    × (line_of (87 ∷ 32 ∷ 49 ∷ digits_of 10000000000000000000) ≡ malformed)
    × (line_of (87 ∷ 32 ∷ 48 ∷ []) ≡ plain (Arrive 0))
    × (line_of (87 ∷ 32 ∷ 48 ∷ 49 ∷ []) ≡ malformed)
    × (line_of (87 ∷ 32 ∷ []) ≡ malformed)
    × (line_of (87 ∷ 32 ∷ 32 ∷ 49 ∷ []) ≡ malformed)
    × (line_of (87 ∷ 32 ∷ 49 ∷ 32 ∷ []) ≡ malformed)
unfolding line_of fields_call fields_of onto are_numbers is_number are_digits values_of value_of value_from letter_of call_of call_by asks digits_of digits_within
arrivals = (refl, refl, refl, refl, refl, refl, refl, refl)

-- no line at all, S, S with a number, L with one number and with two, a letter too many, a line end of another kind, 256 bytes
others : (line_of [] ≡ malformed)
    × (line_of (83 ∷ []) ≡ plain Start)
    × (line_of (83 ∷ 32 ∷ 49 ∷ []) ≡ malformed)
    × (line_of (76 ∷ 32 ∷ 49 ∷ []) ≡ malformed)
    × (line_of (76 ∷ 32 ∷ 49 ∷ 32 ∷ 50 ∷ []) ≡ plain (Lock 1 2))
    × (line_of (83 ∷ 83 ∷ []) ≡ malformed)
    × (line_of (83 ∷ 13 ∷ []) ≡ malformed)
    × (line_of (replicate 256 83) ≡ malformed)
unfolding line_of fields_call fields_of onto are_numbers is_number are_digits values_of value_of value_from letter_of call_of call_by asks
others = (refl, refl, refl, refl, refl, refl, refl, refl)

-- "3 - 20 8" and "6 15 0 3" with their line ends
answers : (text_of 3 None 20 8 ≡ (51 ∷ 32 ∷ 45 ∷ 32 ∷ 50 ∷ 48 ∷ 32 ∷ 56 ∷ 10 ∷ []))
    × (text_of 6 (Some 15) 0 3 ≡ (54 ∷ 32 ∷ 49 ∷ 53 ∷ 32 ∷ 48 ∷ 32 ∷ 51 ∷ 10 ∷ []))
unfolding text_of named_text digits_of digits_within
answers = (refl, refl)

-- nothing, an empty line, a last line without a line end, and the same with one
lines : (lines_of [] ≡ [])
    × (lines_of (10 ∷ []) ≡ [] ∷ [])
    × (lines_of (83 ∷ 10 ∷ 10 ∷ 83 ∷ []) ≡ (83 ∷ []) ∷ [] ∷ (83 ∷ []) ∷ [])
    × (lines_of (83 ∷ 10 ∷ 10 ∷ 83 ∷ 10 ∷ []) ≡ (83 ∷ []) ∷ [] ∷ (83 ∷ []) ∷ [])
unfolding lines_of onto
lines = (refl, refl, refl, refl)
