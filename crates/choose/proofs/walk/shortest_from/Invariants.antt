use Rattle.std.proofs.Common.{◌≡◌, ◌-◌}
use Rattle.rules.specs.Words.{from}
use Rattle.rules.specs.TableBytes.{record_at}
use Rattle.rules.specs.Choose.{shortest_from}
use Rattle.choose.specs.Choice.{chooser}
use Rattle.choose.proofs.walk.shortest_from.Given as goal

-- `shortest_from`: the lengths from a on give what all give.
abbrev pub invariant-loop-a : goal.invariant-loop-a
invariant-loop-a l = shortest_from (61 - l.least) (chooser l.fn.pool.upper l.fn.pool.length 0 0) (from (record_at l.t) 0 l.n) l.least ≡ shortest_from (61 - l.a) (chooser l.fn.pool.upper l.fn.pool.length 0 0) (from (record_at l.t) 0 l.n) l.a
