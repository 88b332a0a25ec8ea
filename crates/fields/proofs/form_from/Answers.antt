-- A field passed leaves the rest of the walk as it was; the closing field or a bad one ends the walk as the code does.
use Rattle.std.proofs.Common.{◌≡◌, suc, ◌+◌, ◌-◌, length, sym, ap, ◌∙◌, arith, rules, Ok, Err}
use Rattle.fields.specs.Form.{server, last, bad, place_at}
use Rattle.fields.specs.Bodies.{body_fits}
use Rattle.fields.proofs.Places.{server_end, from_server, from_last, from_bad}
use Rattle.fields.proofs.form_from.Goals as goal

pub returns-in_err-end : goal.returns-in_err-end
returns-in_err-end c =
    let a = c.args in
    let w = c.loop-end in
    let e : place_at a.tag (body_fits a.tag) a.sheet.now w.at ≡ bad c.in_err-end.field-0.0.offset = sym c.place_at.ensures ∙ c.in_err-end.was in
    let left : length a.sheet.now - w.servers ≡ suc (length a.sheet.now - (w.servers + 1)) = omega arith in
    let same : c.from_residual.result ≡ Err c.in_err-end.field-0.0 = search rules in
    same ∙ sym (from_bad a.tag (body_fits a.tag) a.sheet.now (length a.sheet.now - (w.servers + 1)) w.at w.servers e) ∙ (rw left at w.invariant.onward)

pub loop-end-preserved : goal.loop-end-preserved
loop-end-preserved c =
    let a = c.args in
    let w = c.loop-end in
    let e : place_at a.tag (body_fits a.tag) a.sheet.now w.at ≡ server c.in-Some.end = sym c.place_at.ensures ∙ c.in_ok-end.was ∙ ap Ok c.in-Some.is in
    let (more, within) = server_end a.tag (body_fits a.tag) a.sheet.now w.at e in
    let left : length a.sheet.now - w.servers ≡ suc (length a.sheet.now - (w.servers + 1)) = omega arith in
    record {
      behind = omega arith;
      within = omega arith;
      onward = sym (from_server a.tag (body_fits a.tag) a.sheet.now (length a.sheet.now - (w.servers + 1)) w.at w.servers e) ∙ (rw left at w.invariant.onward);
    }

pub returns : goal.returns
returns c =
    let a = c.args in
    let w = c.loop-end in
    let e : place_at a.tag (body_fits a.tag) a.sheet.now w.at ≡ last = sym c.place_at.ensures ∙ c.in_ok-end.was ∙ ap Ok c.in_default.is in
    let left : length a.sheet.now - w.servers ≡ suc (length a.sheet.now - (w.servers + 1)) = omega arith in
    sym (from_last a.tag (body_fits a.tag) a.sheet.now (length a.sheet.now - (w.servers + 1)) w.at w.servers e) ∙ (rw left at w.invariant.onward)
