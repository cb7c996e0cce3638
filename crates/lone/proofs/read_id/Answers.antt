-- The DUID is all of the text after the header.
use Rattle.std.proofs.Common.{◌≡◌, Err, rules}
use Rattle.rules.specs.Lone.{only, read_id}
use Rattle.rules.specs.Options.{content}
use Rattle.rules.specs.declared.Level.TheVariants.{Top}
use Rattle.lone.proofs.Laws.{given, refused}
use Rattle.lone.proofs.read_id.Goals as goal

pub returns-in_err-alone-clause-value : goal.returns-in_err-alone-clause-value
unfolding read_id
returns-in_err-alone-clause-value c =
    let e : c.from_residual.result ≡ Err c.in_err-alone.field-0.0 = search rules in
    rw e (refused Top c.args.code c.args.text.now c.alone.ensures (λ t. content t (only t)) c.in_err-alone.was)

pub returns-clause-value : goal.returns-clause-value
unfolding read_id
returns-clause-value c = given Top c.args.code c.args.text.now c.alone.ensures (λ t. content t (only t)) c.in_ok-alone.was
