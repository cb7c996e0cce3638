-- Judged first; what is written is the state after the acceptance.
use Rattle.std.specs.Prelude.{Err}
use Rattle.std.proofs.Common.{◌≡◌, rules, arith}
use Rattle.receiving.proofs.Laws.{accepted-is, received-accepted, received-done, received-long, received-refused, told-short}
use Rattle.receiving.specs.Received.{Accepted}
use Rattle.receiving.proofs.receive.Goals as goal

pub returns-in_err-judge-clause-word : goal.returns-in_err-judge-clause-word
returns-in_err-judge-clause-word c =
    let e : c.from_residual.result ≡ Err c.in_err-judge.field-0.0 = search rules in
    rw e (received-refused _ _ _ c.judge.ensures c.in_err-judge.was)

pub get-kind-requires : goal.get-kind-requires
get-kind-requires c = omega (arith, received-long c.args.t.now c.args.msg.now _ c.judge.ensures c.in_ok-judge.was)

pub held_after-held-requires : goal.held_after-held-requires
held_after-held-requires c = received-accepted c.args.t.now c.args.msg.now _ c.judge.ensures c.in_ok-judge.was c.get-kind.ensures.0

pub accept-requires : goal.accept-requires
accept-requires c =
    let accepted : Accepted c.args.t.now c.args.msg.now c.get-kind.result = received-accepted c.args.t.now c.args.msg.now _ c.judge.ensures c.in_ok-judge.was c.get-kind.ensures.0 in
    (accepted.sound, told-short accepted c.server_after.ensures)

pub returns-clause-word : goal.returns-clause-word
returns-clause-word c =
    let accepted : Accepted c.args.t.now c.args.msg.now c.get-kind.result = received-accepted c.args.t.now c.args.msg.now _ c.judge.ensures c.in_ok-judge.was c.get-kind.ensures.0 in
    received-done _ _ _ c.judge.ensures c.in_ok-judge.was (accepted-is accepted _ c.held_after-held.ensures c.server_after.ensures c.accept.ensures)
