-- Part by part.
use Rattle.std.specs.Prelude.{Err}
use Rattle.std.proofs.Common.{◌≡◌, rules}
use Rattle.receiving.proofs.Laws.{judged-awaited, judged-sound, judged-state}
use Rattle.receiving.proofs.judge.Goals as goal

pub returns-in_err-by_state : goal.returns-in_err-by_state
returns-in_err-by_state c =
    let e : c.from_residual.result ≡ Err c.in_err-by_state.field-0.0 = search rules in
    rw e (judged-state _ _ _ c.by_state.ensures c.in_err-by_state.was)

pub awaited-requires : goal.awaited-requires
awaited-requires c = judged-sound _ c.args.msg.now _ c.by_state.ensures c.in_ok-by_state.was

pub returns-then-not-awaited : goal.returns-then-not-awaited
returns-then-not-awaited c = judged-awaited _ _ _ c.by_state.ensures c.in_ok-by_state.was c.awaited.ensures (rw c.if-not-awaited.true)

pub returns : goal.returns
returns c = judged-awaited _ _ _ c.by_state.ensures c.in_ok-by_state.was c.awaited.ensures (rw c.if-not-awaited.false)
