use Rattle.std.proofs.Common.{◌-◌}
use Rattle.rules.specs.Words.{from}
use Rattle.rules.specs.TableBytes.{record_at}
use Rattle.laws.specs.Places.{Walking}
use Rattle.choose.specs.Choice.{chooser}
use Rattle.choose.proofs.walk.lowest.Given as goal

-- `lowest`: from place k on the walk gives what the whole walk gives.
abbrev pub invariant-loop-i : goal.invariant-loop-i
invariant-loop-i l = Walking (chooser l.fn.pool.upper l.fn.pool.length 0 0) (from (record_at l.t) 0 l.n) l.a l.k

abbrev pub decreases-loop-i : goal.decreases-loop-i
decreases-loop-i l = l.last - l.k
