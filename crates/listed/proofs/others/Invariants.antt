use Rattle.std.proofs.Common.{◌≡◌, ◌++◌, ◌+◌, ◌≤◌, length}
use Rattle.rules.specs.Box.{others}
use Rattle.prefix.specs.Upper.{upper}
use Rattle.values.specs.Values.{first_listed}
use Rattle.values.specs.Listed.{rest_listed}
use Rattle.listed.proofs.others.Given as goal

-- `first`, what is returned, and what is left to return make the whole.
abbrev pub invariant-loop-i : goal.invariant-loop-i
invariant-loop-i l = (l.k ≤ l.i + 1) × (length l.out ≡ 5) × (first_listed l.k l.out ++ others (upper l.p l.a) (rest_listed l.i l.n l.ps) ≡ first_listed 1 l.initial.out ++ others (upper l.p l.a) (first_listed l.n l.ps))
