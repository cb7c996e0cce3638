use Rattle.listed.proofs.Laws.{goes-whole, goes-cut}
use Rattle.listed.proofs.goes_with.Goals as goal

-- `goes_with`: none, or the last /64.
pub returns-then-x-eq0 : goal.returns-then-x-eq0
returns-then-x-eq0 c = goes-whole _ _ c.if-x-eq0.true

pub returns : goal.returns
returns c = goes-cut _ _ _ _ c.args.excluded c.if-x-eq0.false c.last64.ensures c.is_upper.ensures
