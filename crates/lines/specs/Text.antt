-- Bytes as text: what stands before a byte, fields, lines, numbers in decimal.
use Rattle.std.specs.Prelude.{ℕ, zero, suc, ◌+◌, ◌-◌, ◌*◌, ◌/◌, ◌%◌, Bool, true, not, ◌&&◌, ◌||◌, List, [], ◌∷◌, ◌++◌, ltb, leb, eqb, length, get_or}
use Rattle.terms.specs.Words.{pick}

abbrev pub space : ℕ
space = 32

-- a byte put before the first of some stretches
unfoldable pub onto : ℕ → List (List ℕ) → List (List ℕ)
onto c [] = (c ∷ []) ∷ []
onto c (f ∷ fs) = (c ∷ f) ∷ fs

-- the fields of a line, separated by one space: two spaces side by side have an empty field between them
unfoldable pub fields_of : List ℕ → List (List ℕ)
fields_of [] = [] ∷ []
fields_of (c ∷ s) = pick (eqb c space) ([] ∷ fields_of s) (onto c (fields_of s))

-- how many bytes stand before the first b; all of them if there is none
unfoldable pub before : ℕ → List ℕ → ℕ
before b [] = 0
before b (c ∷ s) = pick (eqb c b) 0 (suc (before b s))

-- a digit, 0 to 9
abbrev pub is_digit : ℕ → Bool
is_digit c = leb 48 c && leb c 57

unfoldable pub are_digits : List ℕ → Bool
are_digits [] = true
are_digits (c ∷ s) = is_digit c && are_digits s

-- what digits say in decimal, behind digits that say v
unfoldable pub value_from : ℕ → List ℕ → ℕ
value_from v [] = v
value_from v (c ∷ s) = value_from (v * 10 + (c - 48)) s

unfoldable pub value_of : List ℕ → ℕ
value_of s = value_from 0 s

abbrev pub largest_number : ℕ
largest_number = 18446744073709551615

-- a number in decimal: one or more digits, no needless leading zero, at most 18,446,744,073,709,551,615
unfoldable pub is_number : List ℕ → Bool
is_number s =
    ltb 0 (length s) && ((not (eqb (get_or s 0 0) 48) || eqb (length s) 1) && (are_digits s && leb (value_of s) largest_number))

unfoldable pub are_numbers : List (List ℕ) → Bool
are_numbers [] = true
are_numbers (f ∷ fs) = is_number f && are_numbers fs

unfoldable pub values_of : List (List ℕ) → List ℕ
values_of [] = []
values_of (f ∷ fs) = value_of f ∷ values_of fs

-- the digits of a number in decimal, the last one being n % 10; as many as there are, up to k
unfoldable pub digits_within : ℕ → ℕ → List ℕ
digits_within zero n = []
digits_within (suc k) n = pick (ltb n 10) ((48 + n) ∷ []) (digits_within k (n / 10) ++ ((48 + n % 10) ∷ []))

-- the digits of a number of up to 20 digits, as every number up to the largest is
unfoldable pub digits_of : ℕ → List ℕ
digits_of n = digits_within 20 n
