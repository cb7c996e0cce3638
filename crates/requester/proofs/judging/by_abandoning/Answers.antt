-- Part by part.
use Rattle.std.proofs.Common.{rules, ◌≡◌, ap, refl, ◌∙◌}
use Rattle.std.specs.Prelude.{Err}
use Rattle.laws.specs.Refusals.{refused_by}
use Rattle.state.specs.Facts.{stopped, passed, state-sound}
use Rattle.requester.proofs.Tests.{abandoning-state, abandoning-open}
use Rattle.requester.proofs.judging.by_abandoning.Goals as goal

pub returns-in_err-by_state : goal.returns-in_err-by_state
returns-in_err-by_state c =
    let e : c.from_residual.result ≡ Err c.in_err-by_state.field-0.0 = search rules in
    ap refused_by e ∙ abandoning-state _ _ _ (stopped c.by_state.ensures c.in_err-by_state.was)

pub is_open-requires : goal.is_open-requires
is_open-requires c = state-sound _ _ (passed c.by_state.ensures c.in_ok-by_state.was) refl

pub returns-then-not-is_open : goal.returns-then-not-is_open
returns-then-not-is_open c = abandoning-open _ _ (passed c.by_state.ensures c.in_ok-by_state.was) c.is_open.ensures (rw c.if-not-is_open.true)

pub returns : goal.returns
returns c = abandoning-open _ _ (passed c.by_state.ensures c.in_ok-by_state.was) c.is_open.ensures (rw c.if-not-is_open.false)
