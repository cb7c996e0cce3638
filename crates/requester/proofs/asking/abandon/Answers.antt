-- Judged; then nothing is open.
use Rattle.std.proofs.Common.{rules, ◌≡◌, ap, ◌∙◌}
use Rattle.std.specs.Prelude.{[], Err}
use Rattle.rules.specs.Lent.{ended, word_of}
use Rattle.state.specs.Facts.{stopped, passed}
use Rattle.requester.proofs.Acting.{abandoned-refused, abandoned-sound, abandoned-made}
use Rattle.requester.proofs.asking.abandon.Goals as goal

pub returns-in_err-by_abandoning-clause-word : goal.returns-in_err-by_abandoning-clause-word
returns-in_err-by_abandoning-clause-word c =
    let e : c.from_residual.result ≡ Err c.in_err-by_abandoning.field-0.0 = search rules in
    ap (λ r. ended (word_of r) c.args.t.now []) e ∙ abandoned-refused _ _ _ (stopped c.by_abandoning.ensures c.in_err-by_abandoning.was)

pub close-requires : goal.close-requires
close-requires c = abandoned-sound _ _ (passed c.by_abandoning.ensures c.in_ok-by_abandoning.was)

pub returns-clause-word : goal.returns-clause-word
returns-clause-word c = abandoned-made _ _ (passed c.by_abandoning.ensures c.in_ok-by_abandoning.was) c.close.ensures
