-- The code is the two bytes after the header.
use Rattle.std.proofs.Common.{◌≡◌, ◌∙◌, ap, Err, rules}
use Rattle.rules.specs.Lone.{only, read_status}
use Rattle.rules.specs.Message.{status_at}
use Rattle.rules.specs.Refusals.{done}
use Rattle.rules.specs.declared.Level.TheVariants.{Top}
use Rattle.lone.proofs.Laws.{given, refused}
use Rattle.lone.proofs.read_status.Goals as goal

pub returns-in_err-alone : goal.returns-in_err-alone
unfolding read_status
returns-in_err-alone c =
    let e : c.from_residual.result ≡ Err c.in_err-alone.field-0.0 = search rules in
    rw e (refused Top 13 c.args.text.now c.alone.ensures (λ t. status_at t (only t)) c.in_err-alone.was)

pub returns : goal.returns
unfolding read_status
returns c = ap done c.u16_at.ensures.0 ∙ given Top 13 c.args.text.now c.alone.ensures (λ t. status_at t (only t)) c.in_ok-alone.was
