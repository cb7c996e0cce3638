-- Each test in turn.
use Rattle.std.proofs.Common.{rules, ◌≡◌, Err}
use Rattle.notes.specs.Facts.{formed-is}
use Rattle.judge.proofs.Laws.{form-3, form-4, form-5, form-0, kind-told}
use Rattle.judge.proofs.by_form.Goals as goal

pub returns-then-msg : goal.returns-then-msg
returns-then-msg c = (form-3 _ c.if-msg.true, tt)

pub returns-in_err-kind : goal.returns-in_err-kind
returns-in_err-kind c =
    let e : c.from_residual.result ≡ Err c.in_err-kind.field-0.0 = search rules in
    rw e (form-4 _ c.if-msg.false c.u8_at.ensures.0 c.try_from.ensures c.in_err-kind.was, tt)

pub returns-then-not-s : goal.returns-then-not-s
returns-then-not-s c =
    (form-5 _ c.if-msg.false c.u8_at.ensures.0 (kind-told c.args.msg.now c.u8_at.ensures.0 c.try_from.ensures c.in_ok-kind.was).0 (formed-is _ _ c.requires c.if-msg.false) c.if-not-s.true, tt)

pub returns : goal.returns
returns c =
    let k = kind-told c.args.msg.now c.u8_at.ensures.0 c.try_from.ensures c.in_ok-kind.was in
    (form-0 _ c.if-msg.false c.u8_at.ensures.0 k.0 (formed-is _ _ c.requires c.if-msg.false) c.if-not-s.false, k.1)
