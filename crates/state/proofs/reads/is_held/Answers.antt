use Rattle.state.proofs.Laws.{held-read}
use Rattle.state.proofs.reads.is_held.Goals as goal

pub returns : goal.returns
returns c = held-read _ _ c.get.ensures.0 c.get-2.ensures.0
