-- What stands where a server's field or the closing field is expected, taken apart by the tests of the field found there.
use Prim.Native.Nat.{ℕ, suc, ◌+◌, ◌≤◌, ◌<◌}
use mathlib.Core.Path.{◌≡◌, refl, sym, ap}
use mathlib.Core.Logic.{◌⊎◌, inl, inr, ⊎_elim}
use mathlib.Core.Bool.{Bool, true, false, not}
use mathlib.Core.List.{List}
use lib.ListN.{length, take, drop}
use lib.Dec.{ltb, eqb}
use native.Mathlib.Omega.{arith}
use borrow.Author.Tests.{eqb-true, ltb-true, ltb-false}
use Rattle.terms.specs.Words.{pick}
use Rattle.fields.specs.Fields.{head_at}
use Rattle.std.specs.Prelude.{Result, Err}
use Rattle.fields.specs.Form.{Place, server, last, bad, place_of, place_at, form_by, form_from, in_form, not_in_form}
use Rattle.fields.specs.declared.BadField.{BadField}
use Rattle.fields.specs.declared.Head.{Head}
use Rattle.fields.specs.declared.Head.TheVariants.{Missing, Cut, Field}
use Rattle.fields.proofs.Heads.{head_within, missing_end}

-- two bad places, or two answers of a sheet that is not in form, at the same offset
pub same_offset : {A : Type 0} {a o : BadField} → ◌≡◌ {A = Result A BadField} (Err a) (Err o) → a.offset ≡ o.offset
same_offset e = ap (λ (b : BadField). b.offset) (cc)

bad_server : {a e : ℕ} → bad a ≡ server e → ⊥
bad_server p = cc

bad_last : {a : ℕ} → bad a ≡ last → ⊥
bad_last p = cc

last_server : {e : ℕ} → last ≡ server e → ⊥
last_server p = cc

-- the tests on a field, and those that led to a server's field
module _ (a b o : ℕ) where
  abbrev tests : Bool → Bool → Bool → Bool → Bool → Place
  tests p q r u v = pick p (pick q (server b) (bad a)) (pick (not r) (bad a) (pick (not u) (bad a) (pick v (bad o) last)))

  server_tests : (p q r u v : Bool) {e : ℕ} → tests p q r u v ≡ server e → (p ≡ true) × (q ≡ true) × (b ≡ e)
  server_tests true true r u v h = (refl, refl, (cc))
  server_tests true false r u v h = absurd (bad_server h)
  server_tests false q false u v h = absurd (bad_server h)
  server_tests false q true false v h = absurd (bad_server h)
  server_tests false q true true true h = absurd (bad_server h)
  server_tests false q true true false h = absurd (last_server h)

  last_tests : (p q r u v : Bool) → tests p q r u v ≡ last → (r ≡ true) × (u ≡ true) × (v ≡ false)
  last_tests true true r u v h = absurd (last_server (sym h))
  last_tests true false r u v h = absurd (bad_last h)
  last_tests false q false u v h = absurd (bad_last h)
  last_tests false q true false v h = absurd (bad_last h)
  last_tests false q true true true h = absurd (bad_last h)
  last_tests false q true true false h = (refl, refl, refl)

  bad_tests : (p q r u v : Bool) {e : ℕ} → tests p q r u v ≡ bad e → (a ≡ e) ⊎ ((r ≡ true) × (u ≡ true) × (v ≡ true) × (o ≡ e))
  bad_tests true true r u v h = absurd (bad_server (sym h))
  bad_tests true false r u v h = inl (same_offset h)
  bad_tests false q false u v h = inl (same_offset h)
  bad_tests false q true false v h = inl (same_offset h)
  bad_tests false q true true true h = inr (refl, refl, refl, same_offset h)
  bad_tests false q true true false h = absurd (bad_last (sym h))

module _ (tag : ℕ) (fits : List ℕ → Bool) (s : List ℕ) (at : ℕ) where
  -- a server's field: the head that it has, and its end
  pub record ServerAt (end : ℕ) : Type 0 where
    pub start : ℕ
    pub size : ℕ
    pub head : head_at s at ≡ Field tag start size
    pub fit : fits (take size (drop start s)) ≡ true
    pub ends : start + size ≡ end

  pub server_at : {end : ℕ} → place_at tag fits s at ≡ server end → ServerAt end
  unfolding place_at place_of
  server_at {end} = go (head_at s at) refl
    where
      go : (h : Head) → head_at s at ≡ h → place_of tag fits s at h ≡ server end → ServerAt end
      go Missing e p = absurd (bad_server p)
      go Cut e p = absurd (bad_server p)
      go (Field t start size) e p =
          let (same, fit, ends) = server_tests at (start + size) start (eqb t tag) (fits (take size (drop start s))) (eqb t 255) (eqb size 0) (ltb start (length s)) p in
          record { start = start; size = size; head = rw (eqb-true t tag same) at e; fit = fit; ends = ends }

  -- the closing field: its head, and nothing behind it
  pub record LastAt : Type 0 where
    pub start : ℕ
    pub head : head_at s at ≡ Field 255 start 0
    pub ends : length s ≤ start

  pub last_at : place_at tag fits s at ≡ last → LastAt
  unfolding place_at place_of
  last_at = go (head_at s at) refl
    where
      go : (h : Head) → head_at s at ≡ h → place_of tag fits s at h ≡ last → LastAt
      go Missing e p = absurd (bad_last p)
      go Cut e p = absurd (bad_last p)
      go (Field t start size) e p =
          let (closing, empty, ends) = last_tests at (start + size) start (eqb t tag) (fits (take size (drop start s))) (eqb t 255) (eqb size 0) (ltb start (length s)) p in
          record { start = start; head = rw (eqb-true t 255 closing, eqb-true size 0 empty) at e; ends = ltb-false start (length s) ends }

  -- a bad field: bad at its offset, or the closing field with bytes behind it
  pub bad_at : {o : ℕ} → at ≤ length s → place_at tag fits s at ≡ bad o
      → (at ≡ o) ⊎ ((start : ℕ) × (head_at s at ≡ Field 255 start 0) × (start < length s) × (start ≡ o))
  unfolding place_at place_of
  bad_at {o} within = go (head_at s at) refl
    where
      go : (h : Head) → head_at s at ≡ h → place_of tag fits s at h ≡ bad o
          → (at ≡ o) ⊎ ((start : ℕ) × (head_at s at ≡ Field 255 start 0) × (start < length s) × (start ≡ o))
      go Missing e p = let end : length s ≡ o = same_offset p in inl (omega (arith, missing_end s at e))
      go Cut e p = inl (same_offset p)
      go (Field t start size) e p =
          ⊎_elim (λ same. inl same)
          (λ (closing, empty, more, same). inr (start, (rw (eqb-true t 255 closing, eqb-true size 0 empty) at e), ltb-true start (length s) more, same))
          (bad_tests at (start + size) start (eqb t tag) (fits (take size (drop start s))) (eqb t 255) (eqb size 0) (ltb start (length s)) p)

  -- it takes three bytes or more, all in the sheet
  pub server_end : {end : ℕ} → place_at tag fits s at ≡ server end → (at + 3 ≤ end) × (end ≤ length s)
  server_end p =
      let f = server_at p in
      let (starts, within) = head_within s at f.head in
      let ends = f.ends in
      (omega arith, omega arith)

-- one field of the walk
module _ (tag : ℕ) (fits : List ℕ → Bool) (s : List ℕ) (left at n : ℕ) where
  pub from_server : {end : ℕ} → place_at tag fits s at ≡ server end → form_from tag fits s (suc left) at n ≡ form_from tag fits s left end (n + 1)
  unfolding form_from form_by
  from_server e = rw e

  pub from_last : place_at tag fits s at ≡ last → form_from tag fits s (suc left) at n ≡ in_form n
  unfolding form_from form_by
  from_last e = rw e

  pub from_bad : {o : ℕ} → place_at tag fits s at ≡ bad o → form_from tag fits s (suc left) at n ≡ not_in_form o
  unfolding form_from form_by
  from_bad e = rw e
