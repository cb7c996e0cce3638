use Rattle.std.proofs.Common.{◌≡◌}
use Rattle.laws.specs.Bits.{taken}
use Rattle.prefix.proofs.exclude.bits.Given as goal

-- `bits` takes the bits one at a time: what it has is the first k of eight.
abbrev pub invariant-loop-k : goal.invariant-loop-k
invariant-loop-k l = l.v ≡ taken l.q l.i l.k
