use Rattle.std.proofs.Common.{ap}
use Rattle.rules.specs.Settings.{Settings}
use Rattle.decide.proofs.Laws.{size, offer-chosen, offer-none}
use Rattle.decide.proofs.solicited.Goals as goal

pub setup_of-s-requires : goal.setup_of-s-requires
setup_of-s-requires c = size _ c.requires

pub returns-in-Some : goal.returns-in-Some
returns-in-Some c time = offer-chosen _ time _ _ _ c.choice.ensures c.requires _ c.in-Some.is _ (ap (λ (s : Settings). s.exclusion) c.setup_of-s.ensures)

pub returns-in-None : goal.returns-in-None
returns-in-None c time = offer-none _ time _ _ _ c.choice.ensures c.in-None.is
