-- `overlaps` compares as many bits as the shorter one has.
use Rattle.std.proofs.Common.{le_of_lt}
use Rattle.std.proofs.Math.Nat.{min-eq_left, min-eq_right}
use Rattle.rules.specs.Prefix.{overlap}
use Rattle.prefix.proofs.half.Half.overlaps.Goals as goal

pub returns-then-self-other : goal.returns-then-self-other
unfolding overlap
returns-then-self-other c = rw (min-eq_left (le_of_lt c.if-self-other.true)) c.same_front.ensures

pub returns-else-self-other : goal.returns-else-self-other
unfolding overlap
returns-else-self-other c = rw (min-eq_right c.if-self-other.false) c.same_front-else-self-other.ensures
