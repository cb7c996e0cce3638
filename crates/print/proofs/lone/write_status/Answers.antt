-- A code of at most 65,535.
use Rattle.std.proofs.Common.{rules, ◌≡◌, Err, refl, zero-add, ltb-true}
use Rattle.rules.specs.Lone.{write_status}
use Rattle.laws.specs.Writes.{wrote_as}
use Rattle.print.proofs.Laws.{status-named}
use Rattle.print.proofs.Alone.{status-judged, lone-refused, lone-able, lone-written}
use Rattle.print.proofs.lone.write_status.Goals as goal

pub returns-in_err-refusal-clause-word : goal.returns-in_err-refusal-clause-word
unfolding write_status
returns-in_err-refusal-clause-word c =
    let e : c.from_residual.result ≡ Err c.in_err-refusal.field-0.0 = search rules in
    lone-refused (status-judged c.args.out.now c.args.k c.status_size.ensures.0 c.refusal.ensures) c.in_err-refusal.was e

pub put_status-requires : goal.put_status-requires
put_status-requires c =
    let a = lone-able (status-judged c.args.out.now c.args.k c.status_size.ensures.0 c.refusal.ensures) c.in_ok-refusal.was in
    (ltb-true c.args.k 65536 a.0, rw (status-named c.args.k c.args.k refl, zero-add) a.2)

pub returns-clause-word : goal.returns-clause-word
unfolding write_status
returns-clause-word c =
    lone-written (status-judged c.args.out.now c.args.k c.status_size.ensures.0 c.refusal.ensures) c.in_ok-refusal.was
    (wrote_as (status-named _ _ refl) c.put_status.ensures)
