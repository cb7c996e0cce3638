-- Part by part.
use Rattle.std.proofs.Common.{rules, ◌≡◌, ap, refl, ◌∙◌}
use Rattle.std.specs.Prelude.{Err}
use Rattle.laws.specs.Refusals.{refused_by}
use Rattle.state.specs.Facts.{stopped, passed, state-sound}
use Rattle.requester.proofs.Tests.{sending-state, sending-2, sending-times, sending-13, sending-0}
use Rattle.requester.proofs.judging.by_sending.Goals as goal

pub returns-in_err-by_state : goal.returns-in_err-by_state
returns-in_err-by_state c =
    let e : c.from_residual.result ≡ Err c.in_err-by_state.field-0.0 = search rules in
    ap refused_by e ∙ sending-state _ _ _ _ _ (stopped c.by_state.ensures c.in_err-by_state.was)

pub returns-then-room-lt512 : goal.returns-then-room-lt512
returns-then-room-lt512 c = sending-2 _ _ _ _ (passed c.by_state.ensures c.in_ok-by_state.was) c.if-room-lt512.true

pub by_times-requires : goal.by_times-requires
by_times-requires c = state-sound _ _ (passed c.by_state.ensures c.in_ok-by_state.was) refl

pub returns-in_err-by_times : goal.returns-in_err-by_times
returns-in_err-by_times c =
    let e : c.from_residual-in_err-by_times.result ≡ Err c.in_err-by_times.field-0.0 = search rules in
    ap refused_by e ∙ sending-times _ _ _ _ (passed c.by_state.ensures c.in_ok-by_state.was) c.if-room-lt512.false _ (stopped c.by_times.ensures c.in_err-by_times.was)

pub allowed-requires : goal.allowed-requires
allowed-requires c = state-sound _ _ (passed c.by_state.ensures c.in_ok-by_state.was) refl

pub returns-then-not-allowed : goal.returns-then-not-allowed
returns-then-not-allowed c =
    sending-13 _ _ _ _ (passed c.by_state.ensures c.in_ok-by_state.was) c.if-room-lt512.false (passed c.by_times.ensures c.in_ok-by_times.was) c.allowed.ensures c.if-not-allowed.true

pub returns : goal.returns
returns c =
    sending-0 _ _ _ _ (passed c.by_state.ensures c.in_ok-by_state.was) c.if-room-lt512.false (passed c.by_times.ensures c.in_ok-by_times.was) c.allowed.ensures c.if-not-allowed.false
