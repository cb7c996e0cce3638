use Rattle.std.proofs.Common.{◌≤◌, length}
use Rattle.day.proofs.words.bytes.Given as goal

abbrev pub invariant-loop-pair : goal.invariant-loop-pair
invariant-loop-pair l = l.n ≤ length l.room
