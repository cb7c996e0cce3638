-- The numbers are read at their places, and the IA Prefixes are counted.
use Rattle.std.proofs.Common.{◌≡◌, ◌∙◌, ap, arith, Err, rules}
use Rattle.rules.specs.Lone.{only, read_pd}
use Rattle.rules.specs.Message.{ia_at}
use Rattle.rules.specs.Refusals.{done}
use Rattle.rules.specs.declared.Level.TheVariants.{Top}
use Rattle.lone.proofs.Laws.{Alone, alone-is, given, pd-long, pd-read, refused}
use Rattle.lone.specs.Answers.{pd_head, projected}
use Rattle.lone.proofs.read_pd.Goals as goal

pub returns-in_err-alone : goal.returns-in_err-alone
unfolding read_pd
returns-in_err-alone c =
    let e : c.from_residual.result ≡ Err c.in_err-alone.field-0.0 = search rules in
    rw e (ap (projected (pd_head c.args.text.now)) (refused Top 25 c.args.text.now c.alone.ensures (λ t. ia_at t (only t)) c.in_err-alone.was))

pub u32_at-requires : goal.u32_at-requires
u32_at-requires c = omega (arith, pd-long c.args.text.now c.alone.ensures c.in_ok-alone.was)

pub u32_at-requires-2 : goal.u32_at-requires-2
u32_at-requires-2 c = omega (arith, pd-long c.args.text.now c.alone.ensures c.in_ok-alone.was)

pub u32_at-requires-3 : goal.u32_at-requires-3
u32_at-requires-3 c = pd-long c.args.text.now c.alone.ensures c.in_ok-alone.was

pub returns : goal.returns
unfolding read_pd
returns c =
    let one : Alone Top 25 c.args.text.now = alone-is _ _ _ c.alone.ensures c.in_ok-alone.was in
    ap done (pd-read c.args.text.now one.long c.u32_at.ensures c.u32_at-2.ensures c.u32_at-3.ensures c.count_of.ensures c.find.ensures)
    ∙ ap (projected (pd_head c.args.text.now)) (given Top 25 c.args.text.now c.alone.ensures (λ t. ia_at t (only t)) c.in_ok-alone.was)
