-- ADM at every length of time, not only at the periods: what Lemma E rests on.
use Prim.Native.Nat.{ℕ, zero, suc, ◌+◌, ◌*◌, ◌≤◌, ◌<◌}
use mathlib.Core.Path.{◌≡◌, refl, ap}
use mathlib.Core.Logic.{◌⊎◌, inl, inr, ◌≢◌}
use mathlib.Core.Bool.{Bool, true, false, ◌&&◌}
use native.Mathlib.Omega.{arith}
use native.Mathlib.Nat.{mul-le-mul_left, mul-le-mul_right}
use native.Mathlib.Decide.{dec_le, ℕ_discrete}
use lib.Dec.{leb}
use borrow.Author.Tests.{le-leb, lt-leb}
use Rattle.terms.specs.Words.{when}
use Rattle.guarantee.specs.Table.{Table, Laws, load, parts, Wait, nobody, holder, Present}
use Rattle.terms.proofs.Over.{sum_le}
use Rattle.guarantee.proofs.Sums.{look, true?, both?}

module _ (t : Table) where
  -- k has the longest period up to x
  pub record Longest (x k : ℕ) : Type 0 where
    pub here : Present t k
    pub fits : t.P k ≤ x
    pub longest : (j : ℕ) → Present t j → t.P j ≤ x → t.P j ≤ t.P k

  -- there is one if any period is up to x
  pub find : (x i : ℕ) → Present t i → t.P i ≤ x → (k : ℕ) × Longest x k
  find zero i b a = (i, record { here = b; fits = a; longest = λ j c e. omega arith })
  find (suc x) i b a =
      go (look t.n (λ j. (t.present j ≡ true) × (t.P j ≡ suc x)) (λ j. both? (true? (t.present j)) (ℕ_discrete (t.P j) (suc x))))
      (find x i b)
    where
      go : ((j : ℕ) × (j < t.n) × ((t.present j ≡ true) × (t.P j ≡ suc x))) ⊎ ((j : ℕ) → j < t.n → (t.present j ≡ true) × (t.P j ≡ suc x) → ⊥)
          → (t.P i ≤ x → (k : ℕ) × Longest x k) → (k : ℕ) × Longest (suc x) k
      go (inl (k, c, (p, e))) less = (k, record { here = (c, p); fits = omega arith; longest = λ j d l. omega arith })
      go (inr f) less =
          let (k, l) = less (short i b a) in
          (k, record { here = l.here; fits = omega arith; longest = λ j d e. l.longest j d (short j d e) })
        where
          short : (j : ℕ) → Present t j → t.P j ≤ suc x → t.P j ≤ x
          short j d e = let ne : t.P j ≢ suc x = λ q. f j d.0 (d.1, q) in omega arith

  -- what counts for x counts for y
  when_less : (b : Bool) (p x y u : ℕ) → (b ≡ true → p ≤ x → p ≤ y) → when (b && leb p x) u ≤ when (b && leb p y) u
  when_less false p x y u h = omega arith
  when_less true p x y u h = go (dec_le p x)
    where
      go : Dec (p ≤ x) → when (leb p x) u ≤ when (leb p y) u
      go (no z) = rw (lt-leb p x (omega arith)) (omega arith)
      go (yes a) = rw (le-leb p x a, le-leb p y (h refl a)) (omega arith)

  -- then no other period up to x counts beside those up to P k
  module _ {x k : ℕ} (l : Longest x k) where
    pub load_less : load t x ≤ load t (t.P k)
    unfolding load
    load_less = sum_le t.n _ _ (λ j c. when_less (t.present j) (t.P j) x (t.P k) (t.Q j * t.w j) (λ p. l.longest j (c, p)))

    parts_less : parts t x ≤ parts t (t.P k)
    unfolding parts
    parts_less = sum_le t.n _ _ (λ j c. when_less (t.present j) (t.P j) x (t.P k) (t.slop j * t.w j) (λ p. l.longest j (c, p)))

    pub wait_less : {h : ℕ} → Wait t x h → Wait t (t.P k) h
    wait_less nobody = nobody
    wait_less (holder c e f g o) = holder c (omega (arith, l.fits)) f g (l.longest _ f o)

  -- the load of the periods up to x, over x, with the longest wait, is within the time
  pub admits : Laws t → (x h i : ℕ) → Present t i → t.P i ≤ x → Wait t x h → load t x * x + parts t x + h * t.M ≤ t.M * x
  admits L x h i b a z =
      let (k, l) = find x i b a in
      omega (
        arith,
        mul-le-mul_right x (load_less l),
        mul-le-mul_right x (L.ADM l.here (wait_less l z)),
        mul-le-mul_left ((h + t.extra k) * t.w k) l.fits,
        ap (λ (y : ℕ). (h + t.extra k) * y) (L.A4 l.here),
        parts_less l,
        L.PART l.here,
      )
