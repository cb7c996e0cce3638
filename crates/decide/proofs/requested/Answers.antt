use Rattle.std.proofs.Common.{ap, ◌∙◌}
use Rattle.rules.specs.Clock.{plus}
use Rattle.rules.specs.Settings.{Settings}
use Rattle.decide.proofs.Laws.{size, bind-chosen, bind-none}
use Rattle.decide.proofs.requested.Goals as goal

pub setup_of-s-requires : goal.setup_of-s-requires
setup_of-s-requires c = size _ c.requires.0

pub returns-in-Some : goal.returns-in-Some
returns-in-Some c = bind-chosen _ _ _ _ _ c.choice.ensures c.requires.0 _ c.in-Some.is _ (ap (λ (s : Settings). s.exclusion) c.setup_of-s.ensures) (c.plus.ensures ∙ ap (λ (s : Settings). plus c.args.time s.valid) c.setup_of-s.ensures)

pub returns-in-None : goal.returns-in-None
returns-in-None c = bind-none _ _ _ _ _ c.choice.ensures c.in-None.is
