use Rattle.laws.specs.Change.{live_row}
use Rattle.laws.specs.Rows.{Going}
use Rattle.leases.proofs.ended.drop_ended.Given as goal

-- What is kept so far, and what will be kept of the rest, is the result.
abbrev pub invariant-loop-i : goal.invariant-loop-i
invariant-loop-i l = Going (live_row l.time) l.n l.initial.t l.t l.i l.j
