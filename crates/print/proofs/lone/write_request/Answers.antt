-- Only the room is judged.
use Rattle.std.proofs.Common.{rules, ◌≡◌, Err, refl, ap, true, length}
use Rattle.rules.specs.Options.{option}
use Rattle.rules.specs.Lone.{write_request}
use Rattle.laws.specs.Writes.{wrote_as}
use Rattle.print.proofs.Laws.{asks-yes}
use Rattle.print.proofs.Alone.{request-judged, lone-refused, lone-able, lone-written}
use Rattle.print.proofs.lone.write_request.Goals as goal

pub returns-in_err-refusal-clause-word : goal.returns-in_err-refusal-clause-word
unfolding write_request
returns-in_err-refusal-clause-word c =
    let e : c.from_residual.result ≡ Err c.in_err-refusal.field-0.0 = search rules in
    lone-refused (request-judged c.args.out.now c.refusal.ensures) c.in_err-refusal.was e

pub put_asks-requires : goal.put_asks-requires
unfolding option
put_asks-requires c =
    let a = lone-able (request-judged c.args.out.now c.refusal.ensures) c.in_ok-refusal.was in
    let e = ap length (asks-yes {b = true} refl) in
    search rules

pub returns-clause-word : goal.returns-clause-word
unfolding write_request
returns-clause-word c = lone-written (request-judged c.args.out.now c.refusal.ensures) c.in_ok-refusal.was (wrote_as (asks-yes refl) c.put_asks.ensures)
