use Rattle.std.proofs.Common.{◌-◌, length}
use Rattle.notes.proofs.Laws.{Walked}
use Rattle.notes.proofs.walked.Given as goal

-- The invariant: what is noted, with what is left of the message, is what stands in the whole.
abbrev pub invariant-loop-code : goal.invariant-loop-code
invariant-loop-code l = Walked l.msg l.p l.client l.server l.pd l.asks

abbrev pub decreases-loop-code : goal.decreases-loop-code
decreases-loop-code l = length l.msg - l.p
