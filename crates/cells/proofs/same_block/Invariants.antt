use Rattle.std.proofs.Common.{◌≡◌}
use Rattle.rules.specs.Words.{part, same_bytes}
use Rattle.cells.proofs.same_block.Given as goal

abbrev pub invariant-loop-k : goal.invariant-loop-k
invariant-loop-k g l = l.same ≡ same_bytes (part l.i l.k l.t) (part l.j l.k l.s)
