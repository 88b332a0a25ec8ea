-- The digit that a turn writes stands in front of those that stand already, and the digits left are those of a tenth.
use Rattle.std.proofs.Common.{◌≡◌, refl, sym, suc, ◌+◌, ◌-◌, ◌/◌, ◌%◌, [], ◌∷◌, ◌∙◌, length, arith}
use mathlib.Core.List.{append-nil}
use lib.Seq.{append_snoc}
use Rattle.lines.specs.Text.{digits_of, digits_within}
use Rattle.lines.proofs.Spelling.{digits_exact, digits_last}
use Rattle.lines.proofs.Bytes.{sets_front, sets_end}
use Rattle.lines.proofs.put.Goals as goal

pub loop-place-init : goal.loop-place-init
loop-place-init c =
    let a = c.args in
    let w : a.at + c.width.result - a.at ≡ length (digits_of a.n) = omega (arith, c.width.ensures.is) in
    record {
      tail = [];
      within = omega arith;
      full = rw (w, digits_exact a.n) refl;
      split = rw (w, digits_exact a.n) (sym (append-nil (digits_of a.n)));
      stand = refl;
    }

pub loop-place-preserved : goal.loop-place-preserved
loop-place-preserved c =
    let i = c.loop-place.invariant in
    let m = c.loop-place.m in
    let p = c.loop-place.place in
    let j = p - 1 - c.args.at in
    let e : p - c.args.at ≡ suc j = omega arith in
    let d = digits_last j m (rw e at i.full) in
    record {
      tail = (48 + m % 10) ∷ i.tail;
      within = omega arith;
      full = d.1;
      split = i.split ∙ rw (e, d.0) (append_snoc (digits_within j (m / 10)) (48 + m % 10) i.tail);
      stand = rw i.stand (sets_front i.tail c.args.buffer.now p (p - 1) (48 + m % 10) (omega arith));
    }

pub returns-clause-bytes : goal.returns-clause-bytes
unfolding digits_within
returns-clause-bytes c =
    let i = c.loop-place.invariant in
    let e : c.loop-place.place ≡ c.args.at = omega arith in
    let z : c.loop-place.place - c.args.at ≡ 0 = omega arith in
    let t = rw z at i.split in
    rw (i.stand, e, ← t) (sets_end c.args.buffer.now (digits_of c.args.n) c.args.at c.width.result c.args.then c.width.ensures.is)
