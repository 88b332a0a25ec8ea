-- What the iterator over the fields still gives is what is left to gather.
use Rattle.std.proofs.Common.{◌∙◌, length, arith, sym, ap, drop, nat_eq, rules, tests}
use Rattle.std.specs.List.{slice_split}
use Rattle.std.proofs.lemmas.Iterator.Consumers.{YieldsList-at}
use Rattle.std.proofs.lemmas.Iterator.Splits.{YieldsList-from_slice_split}
use Rattle.lines.proofs.Fields.{fields_split, yields_some, yields_none}
use Rattle.lines.proofs.Gathering.{on_ok, gathered_whole, gathered_unread, gathered_more, gathered_end}
use Rattle.lines.proofs.gather.Goals as goal

pub loop-field-init : goal.loop-field-init
loop-field-init c =
    let s = c.split-field-items.ensures in
    record {
      rest = slice_split (λ b. nat_eq b 32) c.args.fields.now;
      yields =
          YieldsList-at c.into_iter-field-iterator.ensures.into_iter_gives
          (YieldsList-from_slice_split _ _ c.args.fields.now s.rest s.done s.closure (λ x r q k. search (rules, tests)));
      within = omega (arith, ap length c.new-numbers.ensures);
      onward = rw (c.new-numbers.ensures, fields_split c.args.fields.now) (gathered_whole _);
    }

pub returns-in_err-read : goal.returns-in_err-read
returns-in_err-read c =
    let i = c.loop-field.invariant in
    let y = yields_some c.loop-field.field-iterator c.next.new.self c.in-Some.field i.rest i.yields c.in-Some.ensures.steps in
    c.from_residual.ensures
    ∙ sym (gathered_unread c.loop-field.numbers.items c.in-Some.field.now (drop 1 i.rest) i.rest y.0 c.in_err-read.ensures)
    ∙ i.onward

pub loop-field-preserved : goal.loop-field-preserved
loop-field-preserved c =
    let i = c.loop-field.invariant in
    let y = yields_some c.loop-field.field-iterator c.next.new.self c.in-Some.field i.rest i.yields c.in-Some.ensures.steps in
    let p = c.try_push in
    let more = on_ok p.result c.in_ok-ok.field-0 c.in_ok-ok.ensures.value p.ensures.ok in
    let long = on_ok p.result c.in_ok-ok.field-0 c.in_ok-ok.ensures.value p.ensures.len in
    let room = p.ensures.variant.0 long.0 in
    record {
      rest = drop 1 i.rest;
      yields = y.1;
      within = omega (arith, long.1, room);
      onward =
          rw more.1
          (sym (gathered_more c.loop-field.numbers.items c.in-Some.field.now (drop 1 i.rest) i.rest y.0 c.in_ok-read.field-0 c.in_ok-read.ensures)
          ∙ i.onward);
    }

pub returns : goal.returns
returns c =
    let i = c.loop-field.invariant in
    sym (gathered_end c.loop-field.numbers.items i.rest (yields_none _ _ i.rest i.yields c.in-None.ensures.steps) i.within) ∙ i.onward
