use Rattle.std.proofs.Common.{refl, ap, ◌∙◌}
use Rattle.rules.specs.Identity.{answer_type, is_release}
use Rattle.act.proofs.Laws.{number_read}
use Rattle.act.proofs.head.head_for.Goals as goal

-- src/head.rt:36:1
pub returns : goal.returns
returns c = record {
  kind = c.answer_type-kind.ensures ∙ ap answer_type c.requires.0;
  number = c.get-number.ensures.0 ∙ number_read _;
  server = refl;
  asks = refl;
  says = c.is_release-says.ensures ∙ ap is_release c.requires.0;
  status = refl;
  pd = refl;
}
