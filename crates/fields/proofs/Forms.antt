-- A sheet passes the walk exactly if it is the frame's field, servers' fields that fit, and the closing field: by going field by field.
use Prim.Native.Nat.{ℕ, zero, suc, ◌+◌, ◌-◌, ◌*◌, ◌<◌, ◌≤◌, suc-le-suc}
use mathlib.Core.Path.{◌≡◌, refl, sym, ap, ◌∙◌}
use mathlib.Core.Bool.{Bool, true, false, not}
use mathlib.Core.List.{List, [], ◌∷◌, ◌++◌, append-nil, append_assoc}
use lib.ListN.{length, get_or, take, drop, length-append, length-drop, drop_of_length-le, take-append-drop}
use lib.Seq.{drop-append_seam, drop-drop, drop-cons, length-take-le}
use lib.Dec.{eqb, ltb}
use native.Mathlib.Omega.{arith}
use native.Mathlib.Nat.{add-zero, zero-add, le_of_suc-le-suc}
use borrow.Author.Tests.{eqb-true, eq-eqb, ne_eqb, le-ltb}
use Rattle.terms.specs.Words.{pick}
use Rattle.fields.specs.Numbers.{Bytes}
use Rattle.fields.specs.Fields.{field_of, head_at}
use Rattle.std.specs.Prelude.{Some, None, Ok, Err}
use Rattle.fields.specs.Form.{Form, Place, server, last, bad, servers_of, sheet_of, Each, InForm, in_form, not_in_form, place_of, place_at, form_from, form_with, frame_then}
use Rattle.fields.specs.declared.BadField.{BadField}
use Rattle.fields.specs.declared.Head.{Head}
use Rattle.fields.specs.declared.Head.TheVariants.{Missing, Cut, Field}
use Rattle.fields.proofs.Heads.{field_length, head_of_field, field_of_head, body_is, behind_is}
use Rattle.fields.proofs.Places.{server_at, last_at, from_server, from_last, from_bad}

-- each server's field takes three bytes or more
pub servers_long : (tag : ℕ) (bodies : List (List ℕ)) → 3 * length bodies ≤ length (servers_of tag bodies)
unfolding servers_of
servers_long tag [] = omega arith
servers_long tag (body ∷ bodies) =
    omega (arith, length-append (field_of tag body) (servers_of tag bodies), field_length tag body, servers_long tag bodies)

pub servers_append : (tag : ℕ) (xs ys : List (List ℕ)) → servers_of tag (xs ++ ys) ≡ servers_of tag xs ++ servers_of tag ys
unfolding servers_of
servers_append tag [] ys = refl
servers_append tag (x ∷ xs) ys = ap (λ l. field_of tag x ++ l) (servers_append tag xs ys) ∙ sym (append_assoc (field_of tag x) (servers_of tag xs) (servers_of tag ys))

-- where the parts of a sheet stand
module _ (tag : ℕ) (bodies : List (List ℕ)) where
  -- the servers' fields before the i-th, and from it on
  pub servers_split : (i : ℕ) → servers_of tag bodies ≡ servers_of tag (take i bodies) ++ servers_of tag (drop i bodies)
  servers_split i = ap (servers_of tag) (sym (take-append-drop i bodies)) ∙ servers_append tag (take i bodies) (drop i bodies)

  module _ (frame s : List ℕ) (four : length frame ≡ 4) (bytes : s ≡ sheet_of tag frame bodies) where
    pub frame_is : take 4 (drop 3 s) ≡ frame
    unfolding sheet_of
    frame_is = rw four at (body_is s 0 1 frame (servers_of tag bodies ++ field_of 255 []) bytes)

    servers_on : drop 7 s ≡ servers_of tag bodies ++ field_of 255 []
    unfolding sheet_of
    servers_on = rw four at (behind_is s 0 1 frame (servers_of tag bodies ++ field_of 255 []) bytes)

    -- behind the servers' fields before the i-th
    pub server_on : (i : ℕ) → i < length bodies
        → drop (7 + length (servers_of tag (take i bodies))) s
        ≡ field_of tag (get_or bodies i []) ++ (servers_of tag (drop (suc i) bodies) ++ field_of 255 [])
    unfolding servers_of
    server_on i l =
        let before = servers_of tag (take i bodies) in
        sym (drop-drop (length before) 7 s) ∙ ap (drop (length before)) servers_on
        ∙ rw (servers_split i, append_assoc, drop-append_seam, drop-cons bodies i [] l, append_assoc)

    pub last_on : drop (7 + length (servers_of tag bodies)) s ≡ field_of 255 []
    last_on =
        let before = servers_of tag bodies in
        sym (drop-drop (length before) 7 s) ∙ ap (drop (length before)) servers_on ∙ drop-append_seam before (field_of 255 [])

    pub sheet_length : length s ≡ 10 + length (servers_of tag bodies)
    unfolding sheet_of
    sheet_length =
        omega (
          arith,
          ap length bytes,
          length-append (field_of 1 frame) (servers_of tag bodies ++ field_of 255 []),
          field_length 1 frame,
          length-append (servers_of tag bodies) (field_of 255 []),
          field_length 255 [],
        )

-- an answer is not both
pub in_or_not : {n at : ℕ} → not_in_form at ≡ in_form n → ⊥
in_or_not e = cc

-- one more body that fits
each : (fits : List ℕ → Bool) (body : List ℕ) (bodies : List (List ℕ)) → fits body ≡ true → Each fits bodies → Each fits (body ∷ bodies)
each fits body bodies here fit zero l = here
each fits body bodies here fit (suc i) l = fit i (le_of_suc-le-suc l)

pub each_last : (fits : List ℕ → Bool) (body : List ℕ) (bodies : List (List ℕ)) → fits body ≡ true → Each fits bodies → Each fits (bodies ++ (body ∷ []))
each_last fits body [] here fit = each fits body [] here fit
each_last fits body (b ∷ bodies) here fit =
    each fits b (bodies ++ (body ∷ [])) (fit 0 (omega arith)) (each_last fits body bodies here (λ i l. fit (suc i) (suc-le-suc l)))

-- the tests that led past the frame's field
frame_tests : {f : Form} {n : ℕ} (p q : Bool) → pick (not p) (not_in_form 0) (pick (not q) (not_in_form 0) f) ≡ in_form n
    → (p ≡ true) × (q ≡ true) × (f ≡ in_form n)
frame_tests true true e = (refl, refl, e)
frame_tests true false e = absurd (in_or_not e)
frame_tests false q e = absurd (in_or_not e)

module _ (tag : ℕ) (fits : List ℕ → Bool) where
  -- what is left of a sheet in form, from an offset on
  pub record Rest (s : List ℕ) (at n : ℕ) : Type 0 where
    pub bodies : List (List ℕ)
    pub number : length bodies ≡ n
    pub fit : Each fits bodies
    pub bytes : drop at s ≡ servers_of tag bodies ++ field_of 255 []

  -- the walk passes fields that fit; a server's field has a tag other than the closing one's, and a length of two bytes
  module _ (other : tag ≡ 255 → ⊥) (small : (body : List ℕ) → fits body ≡ true → length body < 65536) (s : List ℕ) where
    pub server_stands : (at : ℕ) (body behind : List ℕ) → fits body ≡ true → drop at s ≡ field_of tag body ++ behind
        → place_at tag fits s at ≡ server (at + 3 + length body)
    unfolding place_at place_of
    server_stands at body behind fit e =
        rw (head_of_field s at tag body behind (small body fit) e, body_is s at tag body behind e) (simp (eq-eqb tag tag refl, fit))

    -- the closing field, with what is behind it
    pub closing_stands : (at : ℕ) (behind : List ℕ) → drop at s ≡ field_of 255 [] ++ behind
        → place_at tag fits s at ≡ pick (ltb (at + 3) (length s)) (bad (at + 3)) last
    unfolding place_at place_of
    closing_stands at behind e = rw (head_of_field s at 255 [] behind (omega arith) e) (simp (ne_eqb 255 tag (λ e. other (sym e))))

    last_stands : (at : ℕ) → drop at s ≡ field_of 255 [] → place_at tag fits s at ≡ last
    last_stands at e =
        let long : length s - at ≡ 3 = sym (length-drop at s) ∙ ap length e ∙ field_length 255 [] in
        closing_stands at [] (e ∙ sym (append-nil (field_of 255 []))) ∙ simp (le-ltb (at + 3) (length s) (omega arith))

    -- the walk passes servers' fields that fit
    pub walk_on : (bodies : List (List ℕ)) (behind : List ℕ) (left at n : ℕ) → Each fits bodies → drop at s ≡ servers_of tag bodies ++ behind
        → form_from tag fits s (length bodies + left) at n ≡ form_from tag fits s left (at + length (servers_of tag bodies)) (n + length bodies)
    unfolding servers_of
    walk_on [] behind left at n fit e = rw (zero-add, add-zero, add-zero)
    walk_on (body ∷ bodies) behind left at n fit e =
        let rest = servers_of tag bodies in
        let first : drop at s ≡ field_of tag body ++ (rest ++ behind) = e ∙ append_assoc (field_of tag body) rest behind in
        let next = at + 3 + length body in
        let end : next + length rest ≡ at + length (field_of tag body ++ rest) = omega (arith, length-append (field_of tag body) rest, field_length tag body) in
        let count : n + 1 + length bodies ≡ n + suc (length bodies) = omega arith in
        let fields : suc (length bodies) + left ≡ suc (length bodies + left) = omega arith in
        ap (λ k. form_from tag fits s k at n) fields
        ∙ from_server tag fits s (length bodies + left) at n (server_stands at body (rest ++ behind) (fit 0 (omega arith)) first)
        ∙ walk_on bodies behind left next (n + 1) (λ i h. fit (suc i) (suc-le-suc h)) (behind_is s at tag body (rest ++ behind) first)
        ∙ ap (λ k. form_from tag fits s left k (n + 1 + length bodies)) end
        ∙ ap (λ k. form_from tag fits s left (at + length (field_of tag body ++ rest)) k) count

    -- and so all that stand behind the frame's field, to what is behind them
    pub form_on : (frame : List ℕ) (bodies : List (List ℕ)) (behind : List ℕ) → length frame ≡ 4 → Each fits bodies
        → s ≡ field_of 1 frame ++ (servers_of tag bodies ++ behind)
        → (left : ℕ) × (form_with tag fits s ≡ form_from tag fits s (suc left) (7 + length (servers_of tag bodies)) (length bodies))
    unfolding form_with frame_then
    form_on frame bodies behind four fit e =
        let rest = servers_of tag bodies ++ behind in
        let head = head_of_field s 0 1 frame rest (omega arith) e in
        let seven : drop 7 s ≡ rest = rw four at (behind_is s 0 1 frame rest e) in
        let few : length bodies < length s =
        omega (arith, ap length e, length-append (field_of 1 frame) rest, length-append (servers_of tag bodies) behind, field_length 1 frame, servers_long tag bodies) in
        let left = length s - suc (length bodies) in
        let fields : length s ≡ length bodies + suc left = omega arith in (
          left,
          rw (head, four)
              (ap (λ k. form_from tag fits s k 7 0) fields ∙ walk_on bodies behind (suc left) 7 0 fit seven
              ∙ ap (form_from tag fits s (suc left) (7 + length (servers_of tag bodies))) (zero-add (length bodies))),
        )

    -- a sheet in form is found in form
    pub form_in : {n : ℕ} → InForm tag fits s n → form_with tag fits s ≡ in_form n
    unfolding sheet_of
    form_in {n} w =
        let at = 7 + length (servers_of tag w.bodies) in
        let (left, e) = form_on w.frame w.bodies (field_of 255 []) w.frame_length w.fit w.bytes in
        e ∙ from_last tag fits s left at (length w.bodies)
        (last_stands at (last_on tag w.bodies w.frame s w.frame_length w.bytes))
        ∙ ap in_form w.number

    -- a sheet that is not found in form is of no frame and bodies
    pub form_none : {e : BadField} → form_with tag fits s ≡ Err e → {n : ℕ} → InForm tag fits s n → ⊥
    form_none f w = cc (form_in w, f)

  -- the walk passes nothing else
  module _ (s : List ℕ) (h : Bytes s) where
    pub server_field : (at : ℕ) {end : ℕ} → place_at tag fits s at ≡ server end
        → (body : List ℕ) × (fits body ≡ true) × (at + length (field_of tag body) ≡ end) × (drop at s ≡ field_of tag body ++ drop end s)
    server_field at p =
        let f = server_at tag fits s at p in
        let stands = field_of_head s at tag f.start f.size h f.head in
        let body = take f.size (drop f.start s) in
        let long : length body ≡ f.size = length-take-le f.size (drop f.start s) (rw length-drop (omega (arith, stands.within))) in
        (body, f.fit, omega (arith, field_length tag body, stands.starts, f.ends), rw f.ends at stands.bytes)

    pub last_field : (at : ℕ) → place_at tag fits s at ≡ last → drop at s ≡ field_of 255 []
    last_field at p =
        let f = last_at tag fits s at p in
        let start = f.start in
        let nothing : drop (start + 0) s ≡ [] = drop_of_length-le s {i = start + 0} (omega (arith, f.ends)) in
        (field_of_head s at 255 start 0 h f.head).bytes ∙ ap (λ l. field_of 255 [] ++ l) nothing ∙ append-nil (field_of 255 [])

    walk_out : (left at n m : ℕ) → form_from tag fits s left at n ≡ in_form m → (k : ℕ) × (n + k ≡ m) × Rest s at k
    unfolding form_from servers_of
    walk_out zero at n m e = absurd (in_or_not e)
    walk_out (suc left) at n m e = go (place_at tag fits s at) refl (walk_out left)
      where
        go : (p : Place) → place_at tag fits s at ≡ p
            → ((at n m : ℕ) → form_from tag fits s left at n ≡ in_form m → (k : ℕ) × (n + k ≡ m) × Rest s at k) → (k : ℕ) × (n + k ≡ m) × Rest s at k
        go (Err o) p onward = absurd (in_or_not (sym (from_bad tag fits s left at n {o = o.offset} p) ∙ e))
        go (Ok None) p onward =
            let same : n ≡ m = cc (from_last tag fits s left at n p, e) in
            (0, omega arith, record { bodies = []; number = refl; fit = λ i l. absurd (omega arith); bytes = last_field at p })
        go (Ok (Some end)) p onward =
            let (body, fit, ends, first) = server_field at p in
            let (k, count, rest) = onward end (n + 1) m (sym (from_server tag fits s left at n p) ∙ e) in (
              suc k,
              omega arith,
              record {
                bodies = body ∷ rest.bodies;
                number = ap suc rest.number;
                fit = each fits body rest.bodies fit rest.fit;
                bytes = first ∙ ap (λ l. field_of tag body ++ l) rest.bytes ∙ sym (append_assoc (field_of tag body) (servers_of tag rest.bodies) (field_of 255 []));
              },
            )

    -- a sheet that is found in form is in form
    pub form_out : {n : ℕ} → form_with tag fits s ≡ in_form n → InForm tag fits s n
    unfolding form_with frame_then sheet_of
    form_out {n} = go (head_at s 0) refl
      where
        go : (f : Head) → head_at s 0 ≡ f → frame_then s f (form_from tag fits s (length s) 7 0) ≡ in_form n → InForm tag fits s n
        go Missing e p = absurd (in_or_not p)
        go Cut e p = absurd (in_or_not p)
        go (Field t start size) e p =
            let (first, four, onward) = frame_tests (eqb t 1) (eqb size 4) p in
            let (k, count, rest) = walk_out (length s) 7 0 n onward in
            let frame_at : head_at s 0 ≡ Field 1 start 4 = rw (eqb-true t 1 first, eqb-true size 4 four) at e in
            let stands = field_of_head s 0 1 start 4 h frame_at in
            let starts = stands.starts in
            let seven : start + 4 ≡ 7 = omega arith in
            record {
              frame = take 4 (drop start s);
              bodies = rest.bodies;
              frame_length = length-take-le 4 (drop start s) (rw length-drop (omega (arith, stands.within)));
              number = rest.number ∙ omega arith;
              fit = rest.fit;
              bytes = stands.bytes ∙ ap (λ l. field_of 1 (take 4 (drop start s)) ++ l) (ap (λ k. drop k s) seven ∙ rest.bytes);
            }
