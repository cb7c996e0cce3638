-- One equation of tests.
use Rattle.receiving.proofs.Laws.{takes-read}
use Rattle.receiving.proofs.takes.Goals as goal

pub returns : goal.returns
returns c = takes-read _ c.zero_after16.ensures
