-- A number up to the largest has one spelling: what is printed is read back, and what is accepted is what is printed.
use Prim.Native.Nat.{ℕ, zero, suc, ◌+◌, ◌-◌, ◌*◌, ◌/◌, ◌%◌, ◌^◌, ◌≤◌, ◌<◌, max}
use mathlib.Core.Path.{◌≡◌, refl, sym, ap, ◌∙◌}
use mathlib.Core.Bool.{Bool, true, false, not, ◌&&◌, ◌||◌}
use mathlib.Core.List.{List, [], ◌∷◌, ◌++◌, append-nil}
use mathlib.Core.Logic.{◌⊎◌, inl, inr}
use native.Mathlib.Omega.{arith}
use native.Mathlib.Nat.{pow-suc}
use native.Mathlib.Numerals.{add-one}
use native.Mathlib.Decide.{dec_lt}
use borrow.Author.Tests.{lt-ltb, le-ltb, le-leb, ne_eqb, leb-true, eqb-true, eqb-false, not-true}
use lib.Dec.{ltb, leb, eqb}
use lib.ListN.{length, get_or, length-append, get_or-append}
use lib.Seq.{append_snoc}
use Rattle.terms.specs.Words.{pick}
use Rattle.terms.proofs.Tests.{and_in, and_left, and_right, or_out, not_both}
use Rattle.lines.specs.Text.{is_digit, are_digits, value_from, value_of, largest_number, is_number, digits_within, digits_of}
use Rattle.lines.proofs.Decimal.{value_from_grows}

-- more room for digits than there are makes no difference
digits_enough : (k n : ℕ) → n < 10 ^ suc k → digits_within (suc (suc k)) n ≡ digits_within (suc k) n
unfolding digits_within
digits_enough zero n h = simp (lt-ltb n 10 h)
digits_enough (suc k) n h = go (ltb n 10) refl (digits_enough k (n / 10))
  where
    go : (t : Bool) → ltb n 10 ≡ t → (n / 10 < 10 ^ suc k → digits_within (suc (suc k)) (n / 10) ≡ digits_within (suc k) (n / 10))
        → digits_within (suc (suc (suc k))) n ≡ digits_within (suc (suc k)) n
    go true e ih = simp e
    go false e ih =
        let p = pow-suc 10 (suc k) in
        simp (e, ih (omega arith))

digits_small : (k n : ℕ) → n < 10 → digits_within (suc k) n ≡ (48 + n) ∷ []
unfolding digits_within
digits_small k n h = simp (lt-ltb n 10 h)

pub digits_one : (n : ℕ) → n < 10 → digits_of n ≡ (48 + n) ∷ []
unfolding digits_of
digits_one n h = digits_small 19 n h

digits_step : (k n : ℕ) → 10 ≤ n → digits_within (suc k) n ≡ digits_within k (n / 10) ++ ((48 + n % 10) ∷ [])
unfolding digits_within
digits_step k n h = simp (le-ltb n 10 h)

pub digits_more : (n : ℕ) → 10 ≤ n → n ≤ largest_number → digits_of n ≡ digits_of (n / 10) ++ ((48 + n % 10) ∷ [])
unfolding digits_of
digits_more n h k = digits_step 19 n h ∙ ap (λ (s : List ℕ). s ++ ((48 + n % 10) ∷ [])) (sym (digits_enough 18 (n / 10) (omega arith)))

pub width_more : (n : ℕ) → 10 ≤ n → n ≤ largest_number → length (digits_of n) ≡ length (digits_of (n / 10)) + 1
width_more n h k = rw (digits_more n h k, length-append)

-- one digit at least, and twenty at most
pub digits_least : (n : ℕ) → 1 ≤ length (digits_of n)
unfolding digits_of digits_within
digits_least n = least (ltb n 10)
  where
    least : (t : Bool) → 1 ≤ length (pick t ((48 + n) ∷ []) (digits_within 19 (n / 10) ++ ((48 + n % 10) ∷ [])))
    least true = omega arith
    least false = rw length-append (omega arith)

digits_most : (k n : ℕ) → length (digits_within k n) ≤ k
unfolding digits_within
digits_most zero n = omega arith
digits_most (suc k) n = go (ltb n 10) (digits_most k (n / 10))
  where
    go : (t : Bool) → length (digits_within k (n / 10)) ≤ k
        → length (pick t ((48 + n) ∷ []) (digits_within k (n / 10) ++ ((48 + n % 10) ∷ []))) ≤ suc k
    go true h = omega arith
    go false h = rw length-append (omega arith)

pub width_most : (n : ℕ) → length (digits_of n) ≤ 20
unfolding digits_of
width_most n = digits_most 20 n

pow_some : (k : ℕ) → 1 ≤ 10 ^ k
pow_some zero = omega arith
pow_some (suc k) = let p = pow-suc 10 k in omega (arith, pow_some k)

-- as many digits as the largest power of ten that is not above the number says
wide : (j k n : ℕ) → k ≤ j → 10 ^ k ≤ max n 1 → max n 1 < 10 * 10 ^ k → length (digits_within (suc j) n) ≡ k + 1
wide j zero n l h t = rw (digits_small j n (omega arith)) refl
wide zero (suc k) n l h t = absurd (omega arith)
wide (suc j) (suc k) n l h t =
    let p = pow-suc 10 k in
    let q = pow_some k in
    rw (digits_step (suc j) n (omega arith), length-append) (omega (arith, wide j k (n / 10) (omega arith) (omega arith) (omega arith)))

pub width_is : (n k : ℕ) → 10 ^ k ≤ max n 1 → max n 1 < 10 * 10 ^ k → k < 20 → length (digits_of n) ≡ k + 1
unfolding digits_of
width_is n k h t l = wide 19 k n (omega arith) h t

-- room for exactly the digits that there are is enough
exact : (k n : ℕ) → digits_within (length (digits_within k n)) n ≡ digits_within k n
unfolding digits_within
exact zero n = refl
exact (suc k) n = go (ltb n 10) refl (exact k (n / 10))
  where
    go : (t : Bool) → ltb n 10 ≡ t → digits_within (length (digits_within k (n / 10))) (n / 10) ≡ digits_within k (n / 10)
        → digits_within (length (digits_within (suc k) n)) n ≡ digits_within (suc k) n
    go true e ih = simp e
    go false e ih = simp (e, length-append, add-one, ih)

pub digits_exact : (n : ℕ) → digits_within (length (digits_of n)) n ≡ digits_of n
unfolding digits_of
digits_exact n = exact 20 n

-- the last digit, and those before it
pub digits_last : (j n : ℕ) → length (digits_within (suc j) n) ≡ suc j
    → (digits_within (suc j) n ≡ digits_within j (n / 10) ++ ((48 + n % 10) ∷ [])) × (length (digits_within j (n / 10)) ≡ j)
unfolding digits_within
digits_last j n e = go j (dec_lt n 10) e
  where
    go : (j : ℕ) → Dec (n < 10) → length (digits_within (suc j) n) ≡ suc j
        → (digits_within (suc j) n ≡ digits_within j (n / 10) ++ ((48 + n % 10) ∷ [])) × (length (digits_within j (n / 10)) ≡ j)
    go zero (yes h) e = let m : n % 10 ≡ n = omega arith in (simp (lt-ltb n 10 h, m), refl)
    go (suc j) (yes h) e = absurd (omega (arith, ap length (digits_small (suc j) n h)))
    go j (no h) e =
        let s = digits_step j n (omega arith) in
        (s, omega (arith, ap length s, length-append (digits_within j (n / 10)) ((48 + n % 10) ∷ [])))

value_from_append : (s t : List ℕ) (v : ℕ) → value_from v (s ++ t) ≡ value_from (value_from v s) t
unfolding value_from
value_from_append [] t v = refl
value_from_append (c ∷ s) t v = value_from_append s t (v * 10 + (c - 48))

digits_behind : (s : List ℕ) (c : ℕ) → are_digits s ≡ true → is_digit c ≡ true → are_digits (s ++ (c ∷ [])) ≡ true
unfolding are_digits
digits_behind [] c h e = simp e
digits_behind (d ∷ s) c h e =
    and_in (is_digit d) (are_digits (s ++ (c ∷ []))) (and_left (is_digit d) (are_digits s) h)
    (digits_behind s c (and_right (is_digit d) (are_digits s) h) e)

is_digit_lem : (d : ℕ) → d < 10 → is_digit (48 + d) ≡ true
is_digit_lem d h = simp (le-leb 48 (48 + d) (omega arith), le-leb (48 + d) 57 (omega arith))

value_behind : (s : List ℕ) (d : ℕ) → value_of (s ++ ((48 + d) ∷ [])) ≡ value_of s * 10 + d
unfolding value_of value_from
value_behind s d = value_from_append s ((48 + d) ∷ []) 0 ∙ omega arith

-- digits that say n, without a needless zero
record Spelled (s : List ℕ) (n : ℕ) : Type 0 where
  value : value_of s ≡ n
  digits : are_digits s ≡ true
  some : 1 ≤ length s
  lead : 0 < n → get_or s 0 0 ≡ 48 → ⊥

spelled_one : (n : ℕ) → n < 10 → Spelled ((48 + n) ∷ []) n
unfolding value_of value_from are_digits
spelled_one n h = record { value = omega arith; digits = simp (is_digit_lem n h); some = omega arith; lead = λ p e. omega arith }

spelled_more : (s : List ℕ) (n : ℕ) → 10 ≤ n → Spelled s (n / 10) → Spelled (s ++ ((48 + n % 10) ∷ [])) n
spelled_more s n h w = record {
  value = value_behind s (n % 10) ∙ rw w.value (omega arith);
  digits = digits_behind s (48 + n % 10) w.digits (is_digit_lem (n % 10) (omega arith));
  some = rw length-append (omega arith);
  lead = λ p e. w.lead (omega arith) (sym (get_or-append s ((48 + n % 10) ∷ []) 0 0 w.some) ∙ e);
}

spelled : (k n : ℕ) → n < 10 ^ suc k → Spelled (digits_within (suc k) n) n
spelled zero n h = rw (digits_small zero n h) (spelled_one n h)
spelled (suc k) n h = go (dec_lt n 10) (spelled k (n / 10))
  where
    go : Dec (n < 10) → (n / 10 < 10 ^ suc k → Spelled (digits_within (suc k) (n / 10)) (n / 10)) → Spelled (digits_within (suc (suc k)) n) n
    go (yes l) f = rw (digits_small (suc k) n l) (spelled_one n l)
    go (no l) f =
        let p = pow-suc 10 (suc k) in
        rw (digits_step (suc k) n (omega arith)) (spelled_more (digits_within (suc k) (n / 10)) n (omega arith) (f (omega arith)))

led : (n : ℕ) → n ≤ largest_number → Dec (0 < n) → (not (eqb (get_or (digits_of n) 0 0) 48) || eqb (length (digits_of n)) 1) ≡ true
unfolding digits_of
led n h (yes p) = simp (ne_eqb _ _ ((spelled 19 n (omega arith)).lead p))
led n h (no p) = let e : n ≡ 0 = omega arith in rw (digits_small 19 n (omega arith), e)

-- what is printed is read back as what it was
pub read_back : (n : ℕ) → n ≤ largest_number → (is_number (digits_of n) ≡ true) × (value_of (digits_of n) ≡ n)
unfolding is_number digits_of
read_back n h =
    let w = spelled 19 n (omega arith) in
    (simp (lt-ltb 0 (length (digits_of n)) w.some, led n h (dec_lt 0 n), w.digits, w.value) (le-leb n largest_number h), w.value)

digits_on : (s : List ℕ) (v : ℕ) → 0 < v → are_digits s ≡ true → value_from v s ≤ largest_number → digits_of (value_from v s) ≡ digits_of v ++ s
unfolding are_digits value_from
digits_on [] v p h l = sym (append-nil _)
digits_on (c ∷ s) v p h l =
    let d = and_left (is_digit c) (are_digits s) h in
    let lo : 48 ≤ c = leb-true 48 c (and_left (leb 48 c) (leb c 57) d) in
    let hi : c ≤ 57 = leb-true c 57 (and_right (leb 48 c) (leb c 57) d) in
    let g = value_from_grows s (v * 10 + (c - 48)) in
    let e : (v * 10 + (c - 48)) / 10 ≡ v = omega arith in
    let f : 48 + (v * 10 + (c - 48)) % 10 ≡ c = omega arith in
    let more = digits_more (v * 10 + (c - 48)) (omega arith) (omega arith) in
    digits_on s (v * 10 + (c - 48)) (omega arith) (and_right (is_digit c) (are_digits s) h) l
    ∙ rw more (rw (e, f) (append_snoc (digits_of v) c s))

-- what is accepted is what is printed: a number has one spelling
pub one_spelling : (s : List ℕ) → is_number s ≡ true → digits_of (value_of s) ≡ s
unfolding is_number are_digits value_of value_from
one_spelling [] h = absurd (not_both h refl)
one_spelling (c ∷ s) h =
    let some = ltb 0 (suc (length s)) in
    let lead = not (eqb c 48) || eqb (suc (length s)) 1 in
    let digits = is_digit c && are_digits s in
    let small = leb (value_from (0 * 10 + (c - 48)) s) largest_number in
    let rest = and_right some (lead && (digits && small)) h in
    let end = and_right lead (digits && small) rest in
    go s (or_out (not (eqb c 48)) (eqb (suc (length s)) 1) (and_left lead (digits && small) rest)) (and_left digits small end)
    (leb-true (value_from (0 * 10 + (c - 48)) s) largest_number (and_right digits small end))
  where
    first : is_digit c ≡ true → digits_of (0 * 10 + (c - 48)) ≡ c ∷ []
    first d =
        let lo : 48 ≤ c = leb-true 48 c (and_left (leb 48 c) (leb c 57) d) in
        let hi : c ≤ 57 = leb-true c 57 (and_right (leb 48 c) (leb c 57) d) in
        let e : 48 + (0 * 10 + (c - 48)) ≡ c = omega arith in
        digits_one (0 * 10 + (c - 48)) (omega arith) ∙ rw e

    go : (s : List ℕ) → (not (eqb c 48) ≡ true) ⊎ (eqb (suc (length s)) 1 ≡ true) → (is_digit c && are_digits s) ≡ true
        → value_from (0 * 10 + (c - 48)) s ≤ largest_number → digits_of (value_from (0 * 10 + (c - 48)) s) ≡ c ∷ s
    go [] w d l = first (and_left (is_digit c) true d)
    go (b ∷ s) (inr w) d l = absurd (let z = eqb-true (suc (suc (length s))) 1 w in omega arith)
    go (b ∷ s) (inl w) d l =
        let one = and_left (is_digit c) (are_digits (b ∷ s)) d in
        let lo : 48 ≤ c = leb-true 48 c (and_left (leb 48 c) (leb c 57) one) in
        let ne : c ≡ 48 → ⊥ = eqb-false c 48 (not-true (eqb c 48) w) in
        digits_on (b ∷ s) (0 * 10 + (c - 48)) (omega arith) (and_right (is_digit c) (are_digits (b ∷ s)) d) l ∙ rw (first one)
