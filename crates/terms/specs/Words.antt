-- The words that all definitions share: if, where, and the sum, the largest, every, some and the list over the numbers below n.
use Rattle.std.specs.Prelude.{ℕ, zero, suc, ◌+◌, max, Bool, true, false, ◌&&◌, ◌||◌, List, [], ◌∷◌, ◌++◌}

-- an if
abbrev pub pick : {A : Type 0} → Bool → A → A → A
pick true a b = a
pick false a b = b

-- a number that counts only where a test holds
abbrev pub when : Bool → ℕ → ℕ
when true x = x
when false x = 0

-- f 0 + f 1 + .. + f (n - 1)
unfoldable pub sum : (ℕ → ℕ) → ℕ → ℕ
sum f zero = 0
sum f (suc n) = sum f n + f n

-- the largest of f 0, f 1, .., f (n - 1), and 0 if there is none
unfoldable pub largest : (ℕ → ℕ) → ℕ → ℕ
largest f zero = 0
largest f (suc n) = max (largest f n) (f n)

-- the test holds at every number below n
unfoldable pub every : (ℕ → Bool) → ℕ → Bool
every f zero = true
every f (suc n) = every f n && f n

-- the test holds at some number below n
unfoldable pub some : (ℕ → Bool) → ℕ → Bool
some f zero = false
some f (suc n) = some f n || f n

-- the list of f 0, f 1, .., f (n - 1)
unfoldable pub list : {A : Type 0} → (ℕ → A) → ℕ → List A
list f zero = []
list f (suc n) = list f n ++ (f n ∷ [])
