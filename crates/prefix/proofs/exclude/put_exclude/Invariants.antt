use Rattle.std.proofs.Common.{◌≡◌, ◌+◌, ◌≤◌, length, drop}
use Rattle.rules.specs.Words.{splice, num}
use Rattle.rules.specs.Prefix.{prefix, bytes_for}
use Rattle.laws.specs.Exclude.{packed_bytes}
use Rattle.prefix.proofs.exclude.put_exclude.Given as goal

-- `put_exclude` puts in the length, then a byte a turn; what is left to put in, put in, makes the whole.
abbrev pub invariant-loop-j : goal.invariant-loop-j
invariant-loop-j l = (l.n ≡ bytes_for l.a l.b) × (l.at + (1 + l.n) ≤ length l.initial.out) × (length l.out ≡ length l.initial.out) × (splice (l.at + 1 + l.j) (drop l.j (packed_bytes l.a (prefix (num l.e) l.b))) l.out ≡ splice (l.at + 1) (packed_bytes l.a (prefix (num l.e) l.b)) l.initial.out)
