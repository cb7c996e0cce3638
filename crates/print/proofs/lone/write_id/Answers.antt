-- Any DUID of at most 65,535 bytes.
use Rattle.std.proofs.Common.{rules, ◌≡◌, Err}
use Rattle.rules.specs.Lone.{write_id}
use Rattle.print.proofs.Alone.{id-judged, lone-refused, lone-able, lone-written}
use Rattle.print.proofs.lone.write_id.Goals as goal

pub returns-in_err-refusal-clause-word : goal.returns-in_err-refusal-clause-word
unfolding write_id
returns-in_err-refusal-clause-word c =
    let e : c.from_residual.result ≡ Err c.in_err-refusal.field-0.0 = search rules in
    lone-refused (id-judged c.args.out.now c.args.code c.args.duid.now c.refusal.ensures) c.in_err-refusal.was e

pub put_option-requires : goal.put_option-requires
put_option-requires c = let a = lone-able (id-judged c.args.out.now c.args.code c.args.duid.now c.refusal.ensures) c.in_ok-refusal.was in search rules

pub returns-clause-word : goal.returns-clause-word
unfolding write_id
returns-clause-word c = lone-written (id-judged c.args.out.now c.args.code c.args.duid.now c.refusal.ensures) c.in_ok-refusal.was c.put_option.ensures
