-- Part by part.
use Rattle.std.proofs.Common.{rules, ◌≡◌, ap, refl, ◌∙◌}
use Rattle.std.specs.Prelude.{Err}
use Rattle.laws.specs.Refusals.{refused_by}
use Rattle.state.specs.Facts.{stopped, passed, state-sound}
use Rattle.requester.proofs.Tests.{resending-state, resending-2, resending-open}
use Rattle.requester.proofs.judging.by_resending.Goals as goal

pub returns-in_err-by_state : goal.returns-in_err-by_state
returns-in_err-by_state c =
    let e : c.from_residual.result ≡ Err c.in_err-by_state.field-0.0 = search rules in
    ap refused_by e ∙ resending-state _ _ _ _ (stopped c.by_state.ensures c.in_err-by_state.was)

pub returns-then-room-lt512 : goal.returns-then-room-lt512
returns-then-room-lt512 c = resending-2 _ _ (passed c.by_state.ensures c.in_ok-by_state.was) _ c.if-room-lt512.true

pub is_open-requires : goal.is_open-requires
is_open-requires c = state-sound _ _ (passed c.by_state.ensures c.in_ok-by_state.was) refl

pub returns-then-not-is_open : goal.returns-then-not-is_open
returns-then-not-is_open c = resending-open _ _ (passed c.by_state.ensures c.in_ok-by_state.was) c.is_open.ensures _ c.if-room-lt512.false (rw c.if-not-is_open.true)

pub returns : goal.returns
returns c = resending-open _ _ (passed c.by_state.ensures c.in_ok-by_state.was) c.is_open.ensures _ c.if-room-lt512.false (rw c.if-not-is_open.false)
