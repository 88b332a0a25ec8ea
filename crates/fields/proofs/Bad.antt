-- The offset answered for a sheet that is not in form is that of its first bad field, and no other is: what stands before it was passed.
use Prim.Native.Nat.{ℕ, zero, suc, ◌+◌, ◌*◌, ◌<◌, ◌≤◌}
use mathlib.Core.Path.{◌≡◌, refl, sym, ap, ◌∙◌}
use mathlib.Core.Logic.{◌⊎◌, inl, inr, ⊎_elim}
use mathlib.Core.Bool.{Bool, true, false, not}
use mathlib.Core.List.{List, [], ◌∷◌, ◌++◌, append-nil, append_assoc}
use lib.ListN.{length, take, drop, length-append, length-drop, take-append-drop}
use lib.Seq.{take-add, take_at, length-take-le}
use lib.Dec.{eqb, ltb}
use native.Mathlib.Omega.{arith}
use borrow.Author.Tests.{eqb-true, eq-eqb, lt-ltb}
use Rattle.terms.specs.Words.{pick}
use Rattle.terms.proofs.Tests.{not_both}
use Rattle.fields.specs.Numbers.{Bytes}
use Rattle.fields.specs.Fields.{field_of, head_at}
use Rattle.std.specs.Prelude.{Some, None, Ok, Err}
use Rattle.fields.specs.Form.{Form, Place, server, last, bad, servers_of, Begun, FirstBad, no_frame, no_field, behind_last, not_in_form, place_at, form_from, form_with, frame_then}
use Rattle.fields.specs.declared.Head.{Head}
use Rattle.fields.specs.declared.Head.TheVariants.{Missing, Cut, Field}
use Rattle.fields.proofs.Heads.{field_length, head_of_field, field_of_head, missing_end}
use Rattle.fields.proofs.Places.{same_offset, bad_at, server_end, from_server, from_last, from_bad}
use Rattle.fields.proofs.Forms.{servers_append, server_stands, closing_stands, server_field, last_field, form_on, in_or_not, each_last}

-- the closing field is bad at no offset of its own
not_here : (t : Bool) (o : ℕ) → pick t (bad (o + 3)) last ≡ bad o → ⊥
not_here true o e = let same : o + 3 ≡ o = same_offset e in omega arith
not_here false o e = cc

-- the tests that found the frame's field bad, or led past it
frame_bad : (f : Form) {o : ℕ} (p q : Bool) → pick (not p) (not_in_form 0) (pick (not q) (not_in_form 0) f) ≡ not_in_form o
    → ((0 ≡ o) × ((p ≡ true) × (q ≡ true) → ⊥)) ⊎ ((p ≡ true) × (q ≡ true) × (f ≡ not_in_form o))
frame_bad f true true e = inr (refl, refl, e)
frame_bad f true false e = inl (same_offset e, λ both. not_both both.1 refl)
frame_bad f false q e = inl (same_offset e, λ both. not_both both.0 refl)

module _ (tag : ℕ) (fits : List ℕ → Bool) (other : tag ≡ 255 → ⊥) (small : (body : List ℕ) → fits body ≡ true → length body < 65536)
    (s : List ℕ) (h : Bytes s) where
  -- one more server's field
  begun_on : {at end : ℕ} → Begun tag fits s at → place_at tag fits s at ≡ server end → Begun tag fits s end
  unfolding servers_of
  begun_on {at} {end} b p =
      let (body, fit, ends, e) = server_field tag fits s h at p in
      let field = field_of tag body in
      let passed : take end s ≡ take at s ++ field =
      ap (λ k. take k s) (sym ends) ∙ take-add at (length field) s
      ∙ ap (λ l. take at s ++ l) (ap (take (length field)) e ∙ take_at field (drop end s) (length field) refl) in
      record {
        frame = b.frame;
        bodies = b.bodies ++ (body ∷ []);
        frame_length = b.frame_length;
        fit = each_last fits body b.bodies fit b.fit;
        within = (server_end tag fits s at p).1;
        bytes = passed ∙ ap (λ l. l ++ field) b.bytes ∙ append_assoc (field_of 1 b.frame) (servers_of tag b.bodies) field
            ∙ ap (λ l. field_of 1 b.frame ++ l) (ap (λ l. servers_of tag b.bodies ++ l) (sym (append-nil field)) ∙ sym (servers_append tag b.bodies (body ∷ [])));
      }

  -- a bad field after good ones is the first
  bad_here : {at o : ℕ} → Begun tag fits s at → place_at tag fits s at ≡ bad o → FirstBad tag fits s o
  bad_here {at} {o} b p = ⊎_elim here closing (bad_at tag fits s at b.within p)
    where
      here : at ≡ o → FirstBad tag fits s o
      here same =
          no_field (rw same at b)
          (λ body behind fit e.
          let q = server_stands tag fits other small s o body behind fit e in
          let z : ◌≡◌ {A = ℕ} 0 1 = cc in omega arith)
          (λ behind e. not_here (ltb (o + 3) (length s)) o (sym (closing_stands tag fits other small s o behind e) ∙ (rw same at p)))

      closing : (start : ℕ) × (head_at s at ≡ Field 255 start 0) × (start < length s) × (start ≡ o) → FirstBad tag fits s o
      closing (start, head, more, same) =
          let stands = field_of_head s at 255 start 0 h head in
          let starts = stands.starts in
          let end : start + 0 ≡ o = omega arith in
          behind_last at b (omega arith) (omega arith) (stands.bytes ∙ ap (λ k. field_of 255 [] ++ drop k s) end)

  -- three bytes or more for each field that may be left
  walk_bad : (left at n o : ℕ) → length s < left * 3 + at → Begun tag fits s at → form_from tag fits s left at n ≡ not_in_form o → FirstBad tag fits s o
  walk_bad zero at n o few b e = absurd (omega (arith, b.within))
  walk_bad (suc left) at n o few b e = go (place_at tag fits s at) refl (walk_bad left)
    where
      go : (p : Place) → place_at tag fits s at ≡ p
          → ((at n o : ℕ) → length s < left * 3 + at → Begun tag fits s at → form_from tag fits s left at n ≡ not_in_form o → FirstBad tag fits s o)
          → FirstBad tag fits s o
      go (Err a) p onward = bad_here b (p ∙ ap bad (same_offset (sym (from_bad tag fits s left at n {o = a.offset} p) ∙ e)))
      go (Ok None) p onward = absurd (in_or_not (sym (sym (from_last tag fits s left at n p) ∙ e)))
      go (Ok (Some end)) p onward =
          onward end (n + 1) o (omega (arith, server_end tag fits s at p)) (begun_on b p) (sym (from_server tag fits s left at n p) ∙ e)

  -- what the front of a sheet says of its first head
  front : (frame behind : List ℕ) → length frame ≡ 4 → s ≡ field_of 1 frame ++ behind → head_at s 0 ≡ Field 1 3 4
  front frame behind four e = rw four at (head_of_field s 0 1 frame behind (omega arith) e)

  front_begun : (start : ℕ) → head_at s 0 ≡ Field 1 start 4 → Begun tag fits s 7
  unfolding servers_of
  front_begun start e =
      let stands = field_of_head s 0 1 start 4 h e in
      let starts = stands.starts in
      let within = stands.within in
      let frame = take 4 (drop start s) in
      let four : length frame ≡ 4 = length-take-le 4 (drop start s) (rw length-drop (omega arith)) in
      record {
        frame = frame;
        bodies = [];
        frame_length = four;
        fit = λ i l. absurd (omega arith);
        within = omega arith;
        bytes = ap (take 7) stands.bytes ∙ take_at (field_of 1 frame) (drop (start + 4) s) 7 (field_length 1 frame ∙ ap (λ k. k + 3) four)
            ∙ sym (append-nil (field_of 1 frame));
      }

  -- the offset answered is that of the first bad field
  pub first_bad : {o : ℕ} → form_with tag fits s ≡ not_in_form o → FirstBad tag fits s o
  unfolding form_with frame_then
  first_bad {o} = go (head_at s 0) refl
    where
      go : (f : Head) → head_at s 0 ≡ f → frame_then s f (form_from tag fits s (length s) 7 0) ≡ not_in_form o → FirstBad tag fits s o
      go Missing e p =
          no_frame (omega (arith, missing_end s 0 e, same_offset p))
          (λ frame behind four q. let k = front frame behind four q in let z : ◌≡◌ {A = ℕ} 0 1 = cc in omega arith)
      go Cut e p =
          no_frame (sym (same_offset p)) (λ frame behind four q. let k = front frame behind four q in let z : ◌≡◌ {A = ℕ} 0 1 = cc in omega arith)
      go (Field t start size) e p =
          ⊎_elim
          (λ (zero_is, neither). no_frame (sym zero_is)
          (λ frame behind four q.
          let k : Field t start size ≡ Field 1 3 4 = sym e ∙ front frame behind four q in
          neither (eq-eqb t 1 (cc), eq-eqb size 4 (cc))))
          (λ (first, four, onward). walk_bad (length s) 7 0 o (omega arith)
          (front_begun start (rw (eqb-true t 1 first, eqb-true size 4 four) at e)) onward)
          (frame_bad (form_from tag fits s (length s) 7 0) (eqb t 1) (eqb size 4) p)

  -- the walk comes to where good fields end
  begun_walk : {at : ℕ} (b : Begun tag fits s at) → (left : ℕ) × (form_with tag fits s ≡ form_from tag fits s (suc left) at (length b.bodies))
  begun_walk {at} b =
      let frame = b.frame in
      let servers = servers_of tag b.bodies in
      let whole : s ≡ field_of 1 frame ++ (servers ++ drop at s) =
      sym (take-append-drop at s) ∙ ap (λ l. l ++ drop at s) b.bytes ∙ append_assoc (field_of 1 frame) servers (drop at s) in
      let here : 7 + length servers ≡ at =
      omega (arith, length-take-le at s b.within, ap length b.bytes, length-append (field_of 1 frame) servers, field_length 1 frame, b.frame_length) in
      let (left, e) = form_on tag fits other small s frame b.bodies (drop at s) b.frame_length b.fit whole in
      (left, rw here at e)

  -- where neither a server's nor the closing field stands, a field is bad
  bad_place : (at : ℕ) → at ≤ length s → ((body behind : List ℕ) → fits body ≡ true → drop at s ≡ field_of tag body ++ behind → ⊥)
      → ((behind : List ℕ) → drop at s ≡ field_of 255 [] ++ behind → ⊥) → place_at tag fits s at ≡ bad at
  bad_place at within no-server no_last = go (place_at tag fits s at) refl
    where
      go : (p : Place) → place_at tag fits s at ≡ p → place_at tag fits s at ≡ bad at
      go (Ok (Some end)) p = let (body, fit, ends, e) = server_field tag fits s h at p in absurd (no-server body (drop end s) fit e)
      go (Ok None) p = absurd (no_last [] (last_field tag fits s h at p ∙ sym (append-nil (field_of 255 []))))
      go (Err o) p =
          ⊎_elim (λ same. p ∙ ap bad (sym same))
          (λ (start, head, more, same). absurd (no_last (drop (start + 0) s) (field_of_head s at 255 start 0 h head).bytes))
          (bad_at tag fits s at within p)

  front_bad : {o : ℕ} → o ≡ 0 → ((frame behind : List ℕ) → length frame ≡ 4 → s ≡ field_of 1 frame ++ behind → ⊥) → form_with tag fits s ≡ not_in_form o
  unfolding form_with frame_then
  front_bad {o} z none = go (head_at s 0) refl
    where
      tests : (t start size : ℕ) (p q : Bool) → eqb t 1 ≡ p → eqb size 4 ≡ q → head_at s 0 ≡ Field t start size
          → pick (not p) (not_in_form 0) (pick (not q) (not_in_form 0) (form_from tag fits s (length s) 7 0)) ≡ not_in_form o
      tests t start size false q ep eq e = ap not_in_form (sym z)
      tests t start size true false ep eq e = ap not_in_form (sym z)
      tests t start size true true ep eq e =
          let stands = field_of_head s 0 t start size h e in
          let within = stands.within in
          let four = eqb-true size 4 eq in
          let one = eqb-true t 1 ep in
          absurd (none (take size (drop start s)) (drop (start + size) s)
          (length-take-le size (drop start s) (rw length-drop (omega arith)) ∙ four) (rw one at stands.bytes))

      go : (f : Head) → head_at s 0 ≡ f → frame_then s f (form_from tag fits s (length s) 7 0) ≡ not_in_form o
      go Missing e = let end = missing_end s 0 e in let same : length s ≡ o = omega arith in ap not_in_form same
      go Cut e = ap not_in_form (sym z)
      go (Field t start size) e = tests t start size (eqb t 1) (eqb size 4) refl refl e

  -- and of a first bad field the offset is answered
  pub bad_first : {o : ℕ} → FirstBad tag fits s o → form_with tag fits s ≡ not_in_form o
  bad_first {o} (no_field b no-server no_last) =
      let (left, e) = begun_walk b in
      e ∙ from_bad tag fits s left o (length b.bodies) (bad_place o b.within no-server no_last)
  bad_first {o} (behind_last last b ends more e) =
      let (left, walk) = begun_walk b in
      let place : place_at tag fits s last ≡ bad (last + 3) =
      closing_stands tag fits other small s last (drop o s) e ∙ simp (lt-ltb (last + 3) (length s) (omega arith)) in
      walk ∙ from_bad tag fits s left last (length b.bodies) place ∙ ap not_in_form ends
  bad_first {o} (no_frame z none) = front_bad z none
