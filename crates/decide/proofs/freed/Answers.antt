use Rattle.decide.proofs.Laws.{both-are}
use Rattle.decide.proofs.freed.Goals as goal

pub returns : goal.returns
returns c = both-are c.some_is.ensures c.all_go_with.ensures
