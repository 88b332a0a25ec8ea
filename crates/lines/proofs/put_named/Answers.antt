-- Nobody, and a number that is no slot's, have one byte, and a store leaves the length.
use Rattle.std.proofs.Common.{◌≡◌, [], ◌∷◌, ◌∙◌, refl, length, length-set, ap, arith, add-one}
use Rattle.lines.specs.Answers.{named_text}
use Rattle.lines.proofs.Bytes.{named_nobody, named_other}
use Rattle.lines.proofs.put_named.Goals as goal
use Rattle.lines.proofs.put_named.Goals.{in_default-via-in-Some+else-slot-lt-SLOTS, in_default-via-in_default}

dash : (c : goal.In_default) → named_text c.args.named ≡ 45 ∷ []
dash c =
    elim c.in_default.branch [
      | in_default-via-in-Some+else-slot-lt-SLOTS w ↦ ap named_text w.in-Some.is ∙ named_other w.in-Some.slot w.if-slot-lt-SLOTS.false
      | in_default-via-in_default w ↦ ap named_text w.in_default.is ∙ named_nobody
    ]

pub bounds-buffer-at-in_default : goal.bounds-buffer-at-in_default
bounds-buffer-at-in_default c = simp length-set (omega (arith, ap length (dash c)))

pub returns-in_default-clause-next : goal.returns-in_default-clause-next
returns-in_default-clause-next c = rw (dash c) refl

pub returns-in_default-clause-bytes : goal.returns-in_default-clause-bytes
returns-in_default-clause-bytes c = rw (dash c, add-one) refl
