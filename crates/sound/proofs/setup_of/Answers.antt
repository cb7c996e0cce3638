use Rattle.sound.proofs.Laws.{setup-read}
use Rattle.sound.proofs.setup_of.Goals as goal

pub returns : goal.returns
returns c = setup-read _ c.get-upper.ensures.0 c.get-length.ensures.0 c.get-shortest.ensures.0 c.get-standard.ensures.0 c.get-x.ensures.0 c.get-preferred.ensures.0 c.get-valid.ensures.0
