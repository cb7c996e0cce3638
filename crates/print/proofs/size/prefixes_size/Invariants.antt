use Rattle.std.proofs.Common.{◌≡◌, ◌+◌, ◌*◌, ◌≤◌, ◌^◌, length, drop}
use Rattle.print.specs.Bytes.{prefixes_bytes}
use Rattle.print.proofs.size.prefixes_size.Given as goal

-- What is counted, with what is left, makes the whole.
abbrev pub invariant-loop-x : goal.invariant-loop-x
invariant-loop-x l = (l.size ≤ l.x-index * (2 ^ 61 + 64)) × (l.size + length (prefixes_bytes (drop l.x-index l.ps)) ≡ length (prefixes_bytes l.ps))
