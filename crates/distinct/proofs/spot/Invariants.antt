use Rattle.distinct.specs.Distinct.{Passed}
use Rattle.distinct.proofs.spot.Given as goal

-- `spot`: the places from s to before p are marked, and not for k.
abbrev pub invariant-loop-p : goal.invariant-loop-p
invariant-loop-p l = Passed l.keys l.marks l.s l.k l.p
