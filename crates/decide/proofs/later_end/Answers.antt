use Rattle.std.proofs.Common.{◌∙◌, ap}
use Rattle.rules.specs.Clock.{extended}
use Rattle.rules.specs.Settings.{Settings}
use Rattle.decide.proofs.later_end.Goals as goal

pub returns : goal.returns
returns c = c.extend.ensures ∙ ap (λ (s : Settings). extended c.args.end.0 c.args.time s.valid) c.setup_of-s.ensures
