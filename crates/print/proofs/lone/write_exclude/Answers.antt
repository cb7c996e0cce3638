-- An excluded prefix that has an encoding inside the other.
use Rattle.std.proofs.Common.{rules, ◌≡◌, Err, zero-add, le_of_lt}
use Rattle.rules.specs.Lone.{write_exclude}
use Rattle.laws.specs.Exclude.{encodes}
use Rattle.print.proofs.Alone.{exclude-judged, lone-refused, lone-able, lone-written}
use Rattle.print.proofs.lone.write_exclude.Goals as goal

pub returns-in_err-refusal-clause-word : goal.returns-in_err-refusal-clause-word
unfolding write_exclude
returns-in_err-refusal-clause-word c =
    let e : c.from_residual.result ≡ Err c.in_err-refusal.field-0.0 = search rules in
    lone-refused (exclude-judged c.args.out.now _ _ c.encodable.ensures c.exclude_size.ensures.0 c.refusal.ensures) c.in_err-refusal.was e

pub put_exclude-requires : goal.put_exclude-requires
put_exclude-requires c =
    let a = lone-able (exclude-judged c.args.out.now _ _ c.encodable.ensures c.exclude_size.ensures.0 c.refusal.ensures) c.in_ok-refusal.was in
    let e = encodes _ _ a.0 in
    (le_of_lt e.more, e.most, e.clear, rw zero-add a.2)

pub returns-clause-word : goal.returns-clause-word
unfolding write_exclude
returns-clause-word c = lone-written (exclude-judged c.args.out.now _ _ c.encodable.ensures c.exclude_size.ensures.0 c.refusal.ensures) c.in_ok-refusal.was c.put_exclude.ensures
