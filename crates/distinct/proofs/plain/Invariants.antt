use Rattle.distinct.proofs.Laws.{Marked}
use Rattle.distinct.proofs.plain.Given as goal

-- `plain`: the first i numbers are marked, and no two of them are the same.
abbrev pub invariant-loop-i : goal.invariant-loop-i
invariant-loop-i l = Marked l.keys l.marks l.i
