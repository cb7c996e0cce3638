use Rattle.std.proofs.Common.{arith}
use Rattle.laws.specs.Change.{held}
use Rattle.sound.proofs.Laws.{own_read}
use Rattle.sound.proofs.own_of.Goals as goal

-- A stretch of a table that is long enough.
pub get-requires : goal.get-requires
get-requires c = let g = held _ c.requires in (omega (arith, g.size), omega arith)

pub slice_bounds-result-end : goal.slice_bounds-result-end
slice_bounds-result-end c = omega (arith, (held _ c.requires).size, c.get.ensures.1)

pub returns : goal.returns
returns c = own_read _ c.get.ensures.0
