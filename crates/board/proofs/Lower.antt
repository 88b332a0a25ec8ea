-- The lowest of some ceilings is one of them and at most each, and clears what each clears: by going from n to n + 1.
use Prim.Native.Nat.{ℕ, zero, suc, ◌<◌, ◌≤◌}
use mathlib.Core.Path.{◌≡◌, refl, sym, ap, ◌∙◌}
use mathlib.Core.Logic.{◌⊎◌, inl, inr, ⊎_elim}
use mathlib.Core.Bool.{Bool, true, false, ◌&&◌}
use native.Mathlib.Omega.{arith}
use borrow.Author.Tests.{ltb-true, ltb-false, lt-ltb}
use Rattle.terms.specs.Words.{pick}
use Rattle.terms.proofs.Over.{last_or_below}
use Rattle.terms.proofs.Tests.{not_both, same_test, and_in, and_left, and_right}
use Rattle.quantity.specs.declared.Length.{Length}
use Rattle.quantity.specs.Quantity.{below}
use Rattle.std.specs.Prelude.{Option, Some, None}
use Rattle.board.specs.Board.{lower, lowest, clears}
use Rattle.board.proofs.Lowest.{lower_absent}

-- the lower of two ceilings clears what both clear
pub lower_clears : (p : Length) (c d : Option Length) → clears p (lower c d) ≡ (clears p c && clears p d)
lower_clears p None d = refl
lower_clears p (Some a) None = same_test (below p a) (below p a && true) (λ e. and_in (below p a) true e refl) (λ e. and_left (below p a) true e)
lower_clears p (Some a) (Some q) = go (below q a) refl
  where
    go : (t : Bool) → below q a ≡ t → below p (pick t q a) ≡ (below p a && below p q)
    go true e =
        same_test (below p q) (below p a && below p q)
        (λ h. and_in (below p a) (below p q) (lt-ltb p.0 a.0 (omega (arith, ltb-true p.0 q.0 h, ltb-true q.0 a.0 e))) h)
        (λ h. and_right (below p a) (below p q) h)
    go false e =
        same_test (below p a) (below p a && below p q)
        (λ h. and_in (below p a) (below p q) h (lt-ltb p.0 q.0 (omega (arith, ltb-true p.0 a.0 h, ltb-false q.0 a.0 e))))
        (λ h. and_left (below p a) (below p q) h)

module _ (p : Length) (f : ℕ → Option Length) where
  -- the lowest clears what each clears
  pub lowest_clears : (n : ℕ) → clears p (lowest f n) ≡ true → (k : ℕ) → k < n → clears p (f k) ≡ true
  unfolding lowest
  lowest_clears zero e k l = absurd (omega arith)
  lowest_clears (suc n) e k l =
      let q = sym (lower_clears p (lowest f n) (f n)) ∙ e in
      ⊎_elim (λ (s : k ≡ n). rw s (and_right (clears p (lowest f n)) (clears p (f n)) q))
      (λ (m : k < n). lowest_clears n (and_left (clears p (lowest f n)) (clears p (f n)) q) k m) (last_or_below l)

  -- and the other way round
  pub clears_lowest : (n : ℕ) → ((k : ℕ) → k < n → clears p (f k) ≡ true) → clears p (lowest f n) ≡ true
  unfolding lowest
  clears_lowest zero h = refl
  clears_lowest (suc n) h =
      lower_clears p (lowest f n) (f n) ∙ and_in _ _ (clears_lowest n (λ k l. h k (omega arith))) (h n (omega arith))

  -- what the lowest holds back one of them holds back
  pub lowest_holds : (n : ℕ) → clears p (lowest f n) ≡ false → (k : ℕ) × (k < n) × (clears p (f k) ≡ false)
  unfolding lowest
  lowest_holds zero e = absurd (not_both refl e)
  lowest_holds (suc n) e = go (clears p (f n)) refl (λ q. lowest_holds n q)
    where
      go : (t : Bool) → clears p (f n) ≡ t → (clears p (lowest f n) ≡ false → (k : ℕ) × (k < n) × (clears p (f k) ≡ false))
          → (k : ℕ) × (k < suc n) × (clears p (f k) ≡ false)
      go false q rec = (n, omega arith, q)
      go true q rec = rest (clears p (lowest f n)) refl
        where
          rest : (t : Bool) → clears p (lowest f n) ≡ t → (k : ℕ) × (k < suc n) × (clears p (f k) ≡ false)
          rest true u = absurd (not_both (lower_clears p (lowest f n) (f n) ∙ and_in _ _ u q) e)
          rest false u = let (k, l, z) = rec u in (k, omega arith, z)

-- the lower of two is one of them, and at most each
record Lower (c d : Option Length) (m : Length) : Type 0 where
  one : (c ≡ Some m) ⊎ (d ≡ Some m)
  left : (p : Length) → c ≡ Some p → m.0 ≤ p.0
  right : (p : Length) → d ≡ Some p → m.0 ≤ p.0

-- no ceiling is not a period
pub absent_not : {p : Length} → None ≡ Some p → ⊥
absent_not q = let z : ◌≡◌ {A = ℕ} 0 1 = cc in omega arith

same_period : {p q : Length} → Some p ≡ Some q → p.0 ≡ q.0
same_period e = cc

lower_least : (c d : Option Length) (m : Length) → lower c d ≡ Some m → Lower c d m
lower_least None d m e = record { one = inr e; left = λ p q. absurd (absent_not q); right = λ p q. omega (arith, same_period (sym e ∙ q)) }
lower_least (Some a) None m e = record { one = inl e; left = λ p q. omega (arith, same_period (sym e ∙ q)); right = λ p q. absurd (absent_not q) }
lower_least (Some a) (Some z) m e = go (below z a) refl
  where
    go : (t : Bool) → below z a ≡ t → Lower (Some a) (Some z) m
    go true t =
        let k : Some z ≡ Some m = rw t at e in
        record {
          one = inr k;
          left = λ p q. omega (arith, same_period q, same_period k, ltb-true z.0 a.0 t);
          right = λ p q. omega (arith, same_period q, same_period k);
        }
    go false t =
        let k : Some a ≡ Some m = rw t at e in
        record {
          one = inl k;
          left = λ p q. omega (arith, same_period q, same_period k);
          right = λ p q. omega (arith, same_period q, same_period k, ltb-false z.0 a.0 t);
        }

lower_none : (c d : Option Length) → lower c d ≡ None → (c ≡ None) × (d ≡ None)
lower_none None d e = (refl, e)
lower_none (Some a) None e = (e, refl)
lower_none (Some a) (Some z) e = absurd (absent_not (sym e))

module _ (f : ℕ → Option Length) where
  -- with no lowest there is none
  pub lowest_none : (n : ℕ) → lowest f n ≡ None → (k : ℕ) → k < n → f k ≡ None
  unfolding lowest
  lowest_none zero e k l = absurd (omega arith)
  lowest_none (suc n) e k l =
      let (q, z) = lower_none (lowest f n) (f n) e in
      ⊎_elim (λ (s : k ≡ n). rw s z) (λ (m : k < n). lowest_none n q k m) (last_or_below l)

  -- and the other way round
  pub none_lowest : (n : ℕ) → ((k : ℕ) → k < n → f k ≡ None) → lowest f n ≡ None
  unfolding lowest
  none_lowest zero h = refl
  none_lowest (suc n) h = ap (λ (c : Option Length). lower (lowest f n) c) (h n (omega arith)) ∙ lower_absent _ ∙ none_lowest n (λ k l. h k (omega arith))

  -- the lowest is one of them, and at most each
  pub record Lowest (n : ℕ) (c : Length) : Type 0 where
    pub place : ℕ
    pub inside : place < n
    pub one : f place ≡ Some c
    pub least : (k : ℕ) (p : Length) → k < n → f k ≡ Some p → c.0 ≤ p.0

  -- which c is, if it is the lowest
  pub lowest_least : (n : ℕ) (c : Length) → lowest f n ≡ Some c → Lowest n c
  unfolding lowest
  lowest_least zero c e = absurd (absent_not e)
  lowest_least (suc n) c e = go (lower_least (lowest f n) (f n) c e) (λ d q. lowest_least n d q)
    where
      least_of : Lower (lowest f n) (f n) c → ((d : Length) → lowest f n ≡ Some d → Lowest n d)
          → (k : ℕ) (p : Length) → k < suc n → f k ≡ Some p → c.0 ≤ p.0
      least_of w rec k p l q =
          ⊎_elim (λ (s : k ≡ n). w.right p (rw s at q)) (λ (m : k < n). below_n (lowest f n) refl m) (last_or_below l)
        where
          below_n : (d : Option Length) → lowest f n ≡ d → k < n → c.0 ≤ p.0
          below_n None u m = absurd (absent_not (sym (lowest_none n u k m) ∙ q))
          below_n (Some d) u m = omega (arith, w.left d u, (rec d u).least k p m q)

      go : Lower (lowest f n) (f n) c → ((d : Length) → lowest f n ≡ Some d → Lowest n d) → Lowest (suc n) c
      go w rec =
          ⊎_elim (λ q. let h = rec c q in record { place = h.place; inside = omega (arith, h.inside); one = h.one; least = least_of w rec })
          (λ q. record { place = n; inside = omega arith; one = q; least = least_of w rec }) w.one
