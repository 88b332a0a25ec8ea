-- The old form: the walk's laws at tag 2 and length 40, and the offsets, since each server's field takes 43 bytes.
use Prim.Native.Nat.{ℕ, suc, ◌+◌, ◌*◌, ◌<◌, ◌≤◌, suc-le-suc}
use mathlib.Core.Path.{◌≡◌, refl, sym, ap, ◌∙◌}
use mathlib.Core.Bool.{true}
use mathlib.Core.List.{List, [], ◌∷◌, ◌++◌, append-nil}
use lib.ListN.{length, get_or, take, drop, length-append}
use lib.Seq.{length-take-le, get_or-take}
use native.Mathlib.Omega.{arith}
use borrow.Author.Tests.{eqb-true}
use Rattle.fields.specs.Numbers.{Bytes}
use Rattle.fields.specs.Fields.{field_of, head_at}
use Rattle.fields.specs.Form.{servers_of, Each, InForm, FirstBad, in_form, not_in_form}
use Rattle.fields.specs.Old.{old_body, form_of}
use Rattle.std.specs.Prelude.{Err}
use Rattle.fields.specs.declared.BadField.{BadField}
use Rattle.fields.specs.declared.Head.TheVariants.{Field}
use Rattle.fields.proofs.Heads.{field_length, head_of_field, body_is}
use Rattle.fields.proofs.Bad.{first_bad, bad_first}
use Rattle.fields.proofs.Forms.{form_in, form_none, form_out, frame_is, server_on, last_on, sheet_length}

pub old_width : (body : List ℕ) → old_body body ≡ true → length body ≡ 40
unfolding old_body
old_width body h = eqb-true (length body) 40 h

old_other : ◌≡◌ {A = ℕ} 2 255 → ⊥
old_other e = omega arith

old_small : (body : List ℕ) → old_body body ≡ true → length body < 65536
old_small body h = omega (arith, old_width body h)

-- in form exactly if it is a frame, bodies of 40 bytes and the closing field
module _ (s : List ℕ) where
  pub old_in : {n : ℕ} → InForm 2 old_body s n → form_of s ≡ in_form n
  unfolding form_of
  old_in = form_in 2 old_body old_other old_small s

  pub old_out : {n : ℕ} → Bytes s → form_of s ≡ in_form n → InForm 2 old_body s n
  unfolding form_of
  old_out h = form_out 2 old_body s h

  pub old_none : {e : BadField} → form_of s ≡ Err e → {n : ℕ} → InForm 2 old_body s n → ⊥
  unfolding form_of
  old_none = form_none 2 old_body old_other old_small s

  -- not in form exactly if its offset is that of the first bad field
  pub old_bad : {o : ℕ} → Bytes s → form_of s ≡ not_in_form o → FirstBad 2 old_body s o
  unfolding form_of
  old_bad h = first_bad 2 old_body old_other old_small s h

  pub old_first : {o : ℕ} → Bytes s → FirstBad 2 old_body s o → form_of s ≡ not_in_form o
  unfolding form_of
  old_first h = bad_first 2 old_body old_other old_small s h

servers_width : (bodies : List (List ℕ)) → Each old_body bodies → length (servers_of 2 bodies) ≡ 43 * length bodies
unfolding servers_of
servers_width [] fit = refl
servers_width (body ∷ bodies) fit =
    omega (
      arith,
      length-append (field_of 2 body) (servers_of 2 bodies),
      field_length 2 body,
      old_width body (fit 0 (omega arith)),
      servers_width bodies (λ i l. fit (suc i) (suc-le-suc l)),
    )

module _ {s : List ℕ} {n : ℕ} (w : InForm 2 old_body s n) where
  -- the fields before the i-th server's
  before_width : (i : ℕ) → i ≤ n → length (servers_of 2 (take i w.bodies)) ≡ 43 * i
  before_width i l =
      let number = w.number in
      let long : length (take i w.bodies) ≡ i = length-take-le i w.bodies (omega arith) in
      let fit : Each old_body (take i w.bodies) = λ j k. rw (get_or-take i w.bodies j [] (omega arith)) (w.fit j (omega arith)) in
      servers_width (take i w.bodies) fit ∙ ap (λ k. 43 * k) long

  module _ (i : ℕ) (l : i < n) where
    inside : i < length w.bodies
    inside = omega (arith, w.number)

    width : length (get_or w.bodies i []) ≡ 40
    width = old_width (get_or w.bodies i []) (w.fit i inside)

    behind : List ℕ
    behind = servers_of 2 (drop (suc i) w.bodies) ++ field_of 255 []

    stands : drop (7 + 43 * i) s ≡ field_of 2 (get_or w.bodies i []) ++ behind
    unfolding behind
    stands = rw (before_width i (omega arith)) at (server_on 2 w.bodies w.frame s w.frame_length w.bytes i inside)

    -- the i-th server's field, and its body
    pub old_server : head_at s (7 + 43 * i) ≡ Field 2 (7 + 43 * i + 3) 40
    old_server = rw width at (head_of_field s (7 + 43 * i) 2 (get_or w.bodies i []) behind (omega (arith, width)) stands)

    pub old_body_lem : take 40 (drop (7 + 43 * i + 3) s) ≡ get_or w.bodies i []
    old_body_lem = rw width at (body_is s (7 + 43 * i) 2 (get_or w.bodies i []) behind stands)

  all_width : length (servers_of 2 w.bodies) ≡ 43 * n
  all_width = servers_width w.bodies w.fit ∙ ap (λ k. 43 * k) w.number

  -- the closing field, the sheet's length, and the frame
  pub old_last : head_at s (7 + 43 * n) ≡ Field 255 (7 + 43 * n + 3) 0
  old_last =
      let here : drop (7 + 43 * n) s ≡ field_of 255 [] = rw all_width at (last_on 2 w.bodies w.frame s w.frame_length w.bytes) in
      head_of_field s (7 + 43 * n) 255 [] [] (omega arith) (here ∙ sym (append-nil (field_of 255 [])))

  pub old_length : length s ≡ 10 + 43 * n
  old_length = rw all_width at (sheet_length 2 w.bodies w.frame s w.frame_length w.bytes)

  pub old_frame : take 4 (drop 3 s) ≡ w.frame
  old_frame = frame_is 2 w.bodies w.frame s w.frame_length w.bytes
