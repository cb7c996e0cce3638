use Rattle.std.proofs.Common.{arith}
use Rattle.clock.proofs.Moment.later.Goals as goal

-- The greater of the two, either way.
pub returns-then-self-other : goal.returns-then-self-other
returns-then-self-other c = omega (arith, c.if-self-other.true)

pub returns-else-self-other : goal.returns-else-self-other
returns-else-self-other c = omega (arith, c.if-self-other.false)
