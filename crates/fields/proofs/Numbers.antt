-- Bytes and numbers are one another's: the remainder by 256 ^ (w + 1) is a byte above the remainder by 256 ^ w.
use Prim.Native.Nat.{ℕ, zero, suc, ◌+◌, ◌*◌, ◌/◌, ◌%◌, ◌^◌, ◌<◌}
use mathlib.Core.Path.{◌≡◌, refl, sym, ap, ◌∙◌}
use mathlib.Core.List.{List, [], ◌∷◌}
use lib.ListN.{length, get_or, drop, length-drop, drop_of_length-le}
use lib.Seq.{drop-cons}
use native.Mathlib.Omega.{arith}
use native.Mathlib.Nat.{div-one, mod-one, mod-eq_of_lt, mod-lt, one-le-pow, pow-suc, div-add-mod', mul-le-mul_right, mul-add-mod_self_left, mul-add-mod_self_right, mul-add-div_right, div-eq_of_lt}
use mir.Syntax.{w8}
use mir.Val.{Fits}
use borrow.Author.Tests.{eq-eqb}
use Rattle.std.specs.Int.{bytes_high_first}
use Rattle.fields.specs.Numbers.{Bytes, number_of, bytes_of, number_in}

-- what is known of a slice: each of its elements is a byte
pub slice_bytes : (s : List ℕ) → ((i : ℕ) → Fits w8 (get_or s i 0)) → Bytes s
slice_bytes s known i = (known i).fits

-- 256 ^ w is above 0
pub power_above : (w : ℕ) → 0 < 256 ^ w
power_above w = one-le-pow w 256 (omega arith)

pub bytes_length : (w x : ℕ) → length (bytes_of w x) ≡ w
unfolding bytes_of
bytes_length zero x = refl
bytes_length (suc w) x = ap suc (bytes_length w x)

-- a remainder by a product: a digit, and the remainder below it
mod_split : (x m n : ℕ) → 0 < m → 0 < n → x % (m * n) ≡ x / m % n * m + x % m
mod_split x m n hm hn =
    let q = x / m / n in
    let d = x / m % n in
    let e : x ≡ m * n * q + (d * m + x % m) = omega (arith, div-add-mod' x m, ap (λ k. k * m) (div-add-mod' (x / m) n)) in
    let below : d * m + x % m < m * n = omega (arith, mul-le-mul_right m (mod-lt (x / m) hn), mod-lt x hm) in
    ap (λ k. k % (m * n)) e ∙ mul-add-mod_self_left (m * n) q (d * m + x % m) ∙ mod-eq_of_lt below

-- w bytes keep a number's remainder by 256 ^ w
pub number_of_bytes : (w x : ℕ) → number_of (bytes_of w x) ≡ x % 256 ^ w
unfolding number_of bytes_of
number_of_bytes zero x = sym (mod-one x)
number_of_bytes (suc w) x =
    let digit = x / 256 ^ w % 256 in
    ap (λ k. digit * 256 ^ k + number_of (bytes_of w x)) (bytes_length w x)
    ∙ rw (number_of_bytes w x, pow-suc) (sym (mod_split x (256 ^ w) 256 (power_above w) (omega arith)))

-- and so the number, where it is below that
pub number_kept : (w x : ℕ) → x < 256 ^ w → number_of (bytes_of w x) ≡ x
number_kept w x h = number_of_bytes w x ∙ mod-eq_of_lt h

-- each of a number's bytes is a byte
pub bytes_are : (w x : ℕ) → Bytes (bytes_of w x)
unfolding bytes_of
bytes_are zero x i = omega arith
bytes_are (suc w) x zero = mod-lt (x / 256 ^ w) (omega arith)
bytes_are (suc w) x (suc i) = bytes_are w x i

pub tail_bytes : (b : ℕ) (bs : List ℕ) → Bytes (b ∷ bs) → Bytes bs
tail_bytes b bs h i = h (suc i)

pub number_below : (bs : List ℕ) → Bytes bs → number_of bs < 256 ^ length bs
unfolding number_of
number_below [] h = omega arith
number_below (b ∷ bs) h =
    rw pow-suc (omega (arith, mul-le-mul_right (256 ^ length bs) (h 0), number_below bs (tail_bytes b bs h)))

-- what stands above w bytes does not touch them
bytes_above : (w a x : ℕ) → bytes_of w (a * 256 ^ w + x) ≡ bytes_of w x
unfolding bytes_of
bytes_above zero a x = refl
bytes_above (suc w) a x =
    let e : a * 256 ^ suc w + x ≡ a * 256 * 256 ^ w + x = omega (arith, ap (λ k. a * k) (pow-suc 256 w)) in
    rw (e, bytes_above w (a * 256) x, mul-add-div_right (power_above w) (a * 256) x, mul-add-mod_self_right a 256 (x / 256 ^ w))

pub bytes_kept : (bs : List ℕ) → Bytes bs → bytes_of (length bs) (number_of bs) ≡ bs
unfolding bytes_of number_of
bytes_kept [] h = refl
bytes_kept (b ∷ bs) h =
    rw (mul-add-div_right (power_above (length bs)) b (number_of bs), div-eq_of_lt (number_below bs (tail_bytes b bs h)), bytes_above (length bs) b (number_of bs), bytes_kept bs (tail_bytes b bs h))
    (ap (λ k. k ∷ bs) (mod-eq_of_lt {n = b + 0} (omega (arith, h 0)) ∙ omega arith))

-- the number from a place on: that byte, and the number behind it
pub number_from : (l : List ℕ) (i k : ℕ) → i + suc k ≡ length l → number_of (drop i l) ≡ get_or l i 0 * 256 ^ k + number_of (drop (suc i) l)
unfolding number_of
number_from l i k e =
    let behind : length (drop (suc i) l) ≡ k = length-drop (suc i) l ∙ omega arith in
    rw (drop-cons l i 0 (omega arith), behind)

-- a number's two and four bytes, by their places
pub number_two : (l : List ℕ) → length l ≡ 2 → number_of l ≡ get_or l 0 0 * 256 + get_or l 1 0
unfolding number_of
number_two l e =
    omega (arith, number_from l 0 1 (sym e), number_from l 1 0 (sym e), ap number_of (drop_of_length-le l {i = 2} (omega arith)))

pub number_four : (l : List ℕ) → length l ≡ 4 → number_of l ≡ get_or l 0 0 * 16777216 + get_or l 1 0 * 65536 + get_or l 2 0 * 256 + get_or l 3 0
unfolding number_of
number_four l e =
    omega (
      arith,
      number_from l 0 3 (sym e),
      number_from l 1 2 (sym e),
      number_from l 2 1 (sym e),
      number_from l 3 0 (sym e),
      ap number_of (drop_of_length-le l {i = 4} (omega arith)),
    )

-- the library's bytes of a number are these
pub be_bytes : (w x : ℕ) → bytes_high_first w x ≡ bytes_of w x
unfolding bytes_of
be_bytes zero x = refl
be_bytes (suc zero) x = simp div-one
be_bytes (suc (suc w)) x = ap (λ l. x / 256 ^ suc w % 256 ∷ l) (be_bytes (suc w) x)

-- a part of the right width is its number
pub number_in_lem : (w : ℕ) (l : List ℕ) → length l ≡ w → number_in w l ≡ number_of l
unfolding number_in
number_in_lem w l e = simp (eq-eqb _ _ e)
