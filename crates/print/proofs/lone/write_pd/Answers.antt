-- An IA_PD that has an encoding: trimmed, it is the same.
use Rattle.std.proofs.Common.{rules, ◌≡◌, Err, ap, ◌<◌, ◌^◌, zero-add, length}
use Rattle.rules.specs.Options.{option}
use Rattle.rules.specs.Message.{Ia, ia_bytes}
use Rattle.rules.specs.Lone.{write_pd}
use Rattle.laws.specs.Writes.{wrote_as}
use Rattle.print.proofs.Alone.{pd-encodes, pd-free, pd-judged, lone-refused, lone-able, lone-written}
use Rattle.print.proofs.lone.write_pd.Goals as goal

pub returns-in_err-refusal-clause-word : goal.returns-in_err-refusal-clause-word
unfolding write_pd
returns-in_err-refusal-clause-word c =
    let e : c.from_residual.result ≡ Err c.in_err-refusal.field-0.0 = search rules in
    lone-refused (pd-judged c.args.out.now c.args.d _ c.trimmed-t.ensures c.pd_encodes.ensures c.pd_size.ensures (search rules) (search rules) (search rules) c.refusal.ensures)
    c.in_err-refusal.was e

pub returns-in_err-refusal-clause-refusal : goal.returns-in_err-refusal-clause-refusal
returns-in_err-refusal-clause-refusal c =
    let t = pd-encodes _ _ c.trimmed-t.ensures c.pd_encodes.ensures (search rules) (search rules) (search rules) in
    let s = ap (λ (i : Ia). length (option 25 (ia_bytes i))) c.trimmed-t.ensures.same in
    search rules

pub put_pd-requires : goal.put_pd-requires
put_pd-requires c =
    let iaid : c.args.d.iaid < 2 ^ 32 = search rules in
    let t1 : c.args.d.t1 < 2 ^ 32 = search rules in
    let t2 : c.args.d.t2 < 2 ^ 32 = search rules in
    let a = lone-able (pd-judged c.args.out.now c.args.d _ c.trimmed-t.ensures c.pd_encodes.ensures c.pd_size.ensures iaid t1 t2 c.refusal.ensures) c.in_ok-refusal.was in
    (pd-free _ _ c.trimmed-t.ensures c.pd_encodes.ensures iaid t1 t2 a.0, rw (zero-add, c.trimmed-t.ensures.same) a.2)

pub returns-clause-word : goal.returns-clause-word
unfolding write_pd
returns-clause-word c =
    lone-written
    (pd-judged c.args.out.now c.args.d _ c.trimmed-t.ensures c.pd_encodes.ensures c.pd_size.ensures (search rules) (search rules) (search rules) c.refusal.ensures) c.in_ok-refusal.was
    (wrote_as (ap (λ (i : Ia). option 25 (ia_bytes i)) c.trimmed-t.ensures.same) c.put_pd.ensures)

pub returns-clause-refusal : goal.returns-clause-refusal
returns-clause-refusal c =
    let t = pd-encodes _ _ c.trimmed-t.ensures c.pd_encodes.ensures (search rules) (search rules) (search rules) in
    let s = ap (λ (i : Ia). length (option 25 (ia_bytes i))) c.trimmed-t.ensures.same in
    search rules
