use Rattle.std.proofs.Common.{◌≡◌, length, drop}
use Rattle.laws.specs.Writes.{Left}
use Rattle.print.specs.Bytes.{prefixes_bytes}
use Rattle.print.proofs.pd.put_prefixes.Given as goal

-- What is left to put in, put in, makes the whole.
abbrev pub invariant-loop-x : goal.invariant-loop-x
invariant-loop-x l = (length l.out ≡ length l.initial.out) × Left l.end (prefixes_bytes (drop l.x-index l.ps)) l.out l.at (prefixes_bytes l.ps) l.initial.out
