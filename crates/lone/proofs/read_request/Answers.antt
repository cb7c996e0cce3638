-- The codes are all of the text after the header.
use Rattle.std.proofs.Common.{◌≡◌, ◌∙◌, ap, Err, rules}
use Rattle.rules.specs.Lone.{only, read_request}
use Rattle.rules.specs.Message.{asks67}
use Rattle.rules.specs.Options.{content}
use Rattle.rules.specs.Refusals.{done}
use Rattle.rules.specs.declared.Level.TheVariants.{Top}
use Rattle.lone.proofs.Laws.{given, refused}
use Rattle.lone.proofs.read_request.Goals as goal

pub returns-in_err-alone : goal.returns-in_err-alone
unfolding read_request
returns-in_err-alone c =
    let e : c.from_residual.result ≡ Err c.in_err-alone.field-0.0 = search rules in
    rw e (refused Top 6 c.args.text.now c.alone.ensures (λ t. asks67 (content t (only t))) c.in_err-alone.was)

pub returns : goal.returns
unfolding read_request
returns c = ap done c.asks67.ensures ∙ given Top 6 c.args.text.now c.alone.ensures (λ t. asks67 (content t (only t))) c.in_ok-alone.was
