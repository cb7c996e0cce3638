-- `is_free`: nothing overlaps, or the first that does.
use Rattle.choose.proofs.Laws.{free-is}
use Rattle.choose.proofs.hint.is_free.Goals as goal

pub returns : goal.returns
returns c = free-is _ _ _ _ _ c.first_hit.ensures c.is_none.ensures
