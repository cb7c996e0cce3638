-- Judged; then the last time, and the message of the open exchange.
use Rattle.std.proofs.Common.{rules, ◌≡◌, ap, ◌∙◌}
use Rattle.std.specs.Prelude.{Err}
use Rattle.rules.specs.Lent.{ended, word_of}
use Rattle.state.specs.Facts.{stopped, passed}
use Rattle.requester.proofs.Acting.{resent-refused, resent-may, resent-open, resent-made}
use Rattle.requester.proofs.asking.resend.Goals as goal

pub returns-in_err-by_resending-clause-word : goal.returns-in_err-by_resending-clause-word
returns-in_err-by_resending-clause-word c =
    let e : c.from_residual.result ≡ Err c.in_err-by_resending.field-0.0 = search rules in
    ap (λ r. ended (word_of r) c.args.t.now c.args.out.now) e ∙ resent-refused _ _ _ _ (stopped c.by_resending.ensures c.in_err-by_resending.was)

pub again-requires : goal.again-requires
again-requires c = resent-may _ _ c.args.out.now (passed c.by_resending.ensures c.in_ok-by_resending.was)

pub put_open-requires : goal.put_open-requires
put_open-requires c = resent-open _ _ c.args.out.now (passed c.by_resending.ensures c.in_ok-by_resending.was) c.again.ensures

pub returns-clause-word : goal.returns-clause-word
returns-clause-word c = resent-made _ _ _ (passed c.by_resending.ensures c.in_ok-by_resending.was) c.again.ensures c.put_open.ensures
