use Rattle.state.proofs.Laws.{known-read}
use Rattle.state.proofs.reads.is_known.Goals as goal

pub returns : goal.returns
returns c = known-read _ c.get.ensures.0
