use Rattle.std.proofs.Common.{sym, le_of_lt}
use Rattle.laws.specs.Halves.{front-all, front-none}
use Rattle.laws.specs.Prefix.{half-front}
use Rattle.prefix.proofs.half.same_front.Goals as goal

-- `same_front`: no bit, the whole half, or the first bits.
pub returns-then-m-eq0 : goal.returns-then-m-eq0
returns-then-m-eq0 c = sym (front-none _ _ _ c.ranges.p.fits c.ranges.q.fits c.if-m-eq0.true)

pub returns-then-m-ge64 : goal.returns-then-m-ge64
returns-then-m-ge64 c = sym (front-all _ _ _ c.if-m-ge64.true)

pub returns : goal.returns
returns c = rw (half-front c.args.p _ (le_of_lt c.if-m-ge64.false), half-front c.args.q _ (le_of_lt c.if-m-ge64.false))
