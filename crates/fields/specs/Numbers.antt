-- The sheet's numbers: bytes, the most significant first.
use Rattle.std.specs.Prelude.{ℕ, zero, suc, ◌+◌, ◌*◌, ◌/◌, ◌%◌, ◌^◌, ◌<◌, List, [], ◌∷◌, ◌++◌, length, get_or, take, drop, leb, eqb}
use Rattle.terms.specs.Words.{pick}

-- each is a byte
abbrev pub Bytes : List ℕ → Type 0
Bytes bs = (i : ℕ) → get_or bs i 0 < 256

-- the number that bytes are
unfoldable pub number_of : List ℕ → ℕ
number_of [] = 0
number_of (b ∷ bs) = b * 256 ^ length bs + number_of bs

-- a number as so many bytes
unfoldable pub bytes_of : ℕ → ℕ → List ℕ
bytes_of zero x = []
bytes_of (suc width) x = (x / 256 ^ width % 256) ∷ bytes_of width x

-- the number that a part of the sheet is; a part of another width is 0
unfoldable pub number_in : ℕ → List ℕ → ℕ
number_in width part = pick (eqb (length part) width) (number_of part) 0

-- a buffer with bytes placed from an offset on; where they do not fit, nothing moves
unfoldable pub placed : List ℕ → ℕ → List ℕ → List ℕ
placed buffer at bytes =
    pick (leb (at + length bytes) (length buffer)) (take at buffer ++ bytes ++ drop (at + length bytes) buffer) buffer
