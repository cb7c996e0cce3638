use Rattle.std.proofs.Common.{◌≡◌, ◌-◌, length}
use Rattle.rules.specs.Words.{splice, num, be}
use Rattle.rules.specs.Prefix.{prefix, unpacked}
use Rattle.prefix.proofs.exclude.unpack.Given as goal

-- `unpack` makes the sixteen bytes one a turn; what is left to make, made, is the whole.
abbrev pub invariant-loop-k : goal.invariant-loop-k
invariant-loop-k l = (length l.q ≡ 16) × (splice l.k (be (16 - l.k) (unpacked (prefix (num l.p) l.a) l.b (num l.c)).bits) l.q ≡ be 16 (unpacked (prefix (num l.p) l.a) l.b (num l.c)).bits)
