use Rattle.std.proofs.Common.{◌≡◌, ◌*◌, true, eqb}
use Rattle.rules.specs.Words.{all, part}
use Rattle.cells.proofs.blocks_zero.Given as goal

abbrev pub invariant-loop-k : goal.invariant-loop-k
invariant-loop-k l = all (eqb 0) (part l.at (64 * l.k) l.t) ≡ true
