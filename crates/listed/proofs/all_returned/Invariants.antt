use Rattle.std.proofs.Common.{◌≡◌, ◌++◌, map, length}
use Rattle.rules.specs.Box.{returned}
use Rattle.values.specs.Values.{first_listed}
use Rattle.values.specs.Listed.{rest_listed}
use Rattle.listed.proofs.all_returned.Given as goal

-- What is left to return, after what is returned, makes the whole.
abbrev pub invariant-loop-i : goal.invariant-loop-i
invariant-loop-i l = (length l.out ≡ 5) × (first_listed l.i l.out ++ map returned (rest_listed l.i l.n l.ps) ≡ map returned (first_listed l.n l.ps))
