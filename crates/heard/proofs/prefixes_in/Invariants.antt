use Rattle.std.proofs.Common.{◌+◌, ◌-◌}
use Rattle.heard.proofs.Laws.{Filled}
use Rattle.heard.proofs.prefixes_in.Given as goal

-- The invariant: the prefixes that stand in the array, and those still to come, are all of them.
abbrev pub invariant-loop-count : goal.invariant-loop-count
invariant-loop-count l = Filled l.msg l.start l.len l.prefixes l.count l.p

abbrev pub decreases-loop-count : goal.decreases-loop-count
decreases-loop-count l = l.start + l.len - l.p
