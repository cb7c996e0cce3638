-- An IA Prefix that has an encoding.
use Rattle.std.proofs.Common.{rules, ◌≡◌, Err, zero-add}
use Rattle.rules.specs.Lone.{write_prefix}
use Rattle.print.specs.Bytes.{prefix_bytes}
use Rattle.print.proofs.Alone.{encodes-lease, prefix-judged, lone-refused, lone-able, lone-written}
use Rattle.print.proofs.lone.write_prefix.Goals as goal

pub returns-in_err-refusal-clause-word : goal.returns-in_err-refusal-clause-word
unfolding write_prefix
returns-in_err-refusal-clause-word c =
    let e : c.from_residual.result ≡ Err c.in_err-refusal.field-0.0 = search rules in
    lone-refused (prefix-judged c.args.out.now c.args.x c.encodes.ensures c.prefix_size.ensures.0 c.refusal.ensures) c.in_err-refusal.was e

pub put_prefix-requires : goal.put_prefix-requires
unfolding prefix_bytes
put_prefix-requires c =
    let a = lone-able (prefix-judged c.args.out.now c.args.x c.encodes.ensures c.prefix_size.ensures.0 c.refusal.ensures) c.in_ok-refusal.was in
    (encodes-lease _ a.0, rw zero-add a.2)

pub returns-clause-word : goal.returns-clause-word
unfolding write_prefix prefix_bytes
returns-clause-word c = lone-written (prefix-judged c.args.out.now c.args.x c.encodes.ensures c.prefix_size.ensures.0 c.refusal.ensures) c.in_ok-refusal.was c.put_prefix.ensures
