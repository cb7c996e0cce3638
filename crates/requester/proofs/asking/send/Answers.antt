-- Judged; then the new exchange, and its message.
use Rattle.std.proofs.Common.{rules, ◌≡◌, ap, ◌∙◌}
use Rattle.std.specs.Prelude.{Err}
use Rattle.rules.specs.Lent.{ended, word_of}
use Rattle.state.specs.Facts.{stopped, passed}
use Rattle.requester.proofs.Acting.{sent-refused, sent-sound, sent-open, sent-made}
use Rattle.requester.proofs.asking.send.Goals as goal

pub returns-in_err-by_sending-clause-word : goal.returns-in_err-by_sending-clause-word
returns-in_err-by_sending-clause-word c =
    let e : c.from_residual.result ≡ Err c.in_err-by_sending.field-0.0 = search rules in
    ap (λ r. ended (word_of r) c.args.t.now c.args.out.now) e ∙ sent-refused _ _ _ _ _ (stopped c.by_sending.ensures c.in_err-by_sending.was)

pub begin-requires : goal.begin-requires
begin-requires c = sent-sound _ _ _ c.args.out.now (passed c.by_sending.ensures c.in_ok-by_sending.was)

pub put_open-requires : goal.put_open-requires
put_open-requires c = sent-open _ _ _ c.args.out.now (passed c.by_sending.ensures c.in_ok-by_sending.was) c.begin.ensures

pub returns-clause-word : goal.returns-clause-word
returns-clause-word c = sent-made _ _ _ _ (passed c.by_sending.ensures c.in_ok-by_sending.was) c.begin.ensures c.put_open.ensures
