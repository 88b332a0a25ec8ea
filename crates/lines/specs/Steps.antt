-- The steps in which the code works a line out; proofs/ show that they come to what the line says.
use Rattle.std.specs.Prelude.{ℕ, ◌+◌, ◌-◌, ◌*◌, ◌&&◌, Option, Some, None, List, [], ◌∷◌, leb, length}
use Rattle.std.specs.Option.{option_and_then}
use Rattle.terms.specs.Words.{pick}
use Rattle.arrayvec.specs.ArrayVec.{ArrayVec}
use Rattle.lines.specs.Text.{is_digit, largest_number, is_number, value_of, are_numbers, values_of}

-- a digit more
unfoldable pub pushed : ℕ → ℕ → Option ℕ
pushed n c = pick (is_digit c && leb (n * 10 + (c - 48)) largest_number) (Some (n * 10 + (c - 48))) None

-- digits more
unfoldable pub pushed_all : ℕ → List ℕ → Option ℕ
pushed_all n [] = Some n
pushed_all n (c ∷ s) = option_and_then (λ m. pushed_all m s) (pushed n c)

-- a field read as a number
unfoldable pub number_of : List ℕ → Option ℕ
number_of s = pick (is_number s) (Some (value_of s)) None

-- fields read as numbers, up to ten
unfoldable pub gathered : List (List ℕ) → Option (ArrayVec ℕ)
gathered fs = pick (are_numbers fs && leb (length fs) 10) (Some (record { items = values_of fs })) None
