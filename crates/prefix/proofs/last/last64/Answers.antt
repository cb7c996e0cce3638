use Rattle.std.proofs.Common.{sym, ◌-◌, arith, pow_pos}
use Rattle.laws.specs.Last.{last_none, last-shift, last_fits, last-upper}
use Rattle.prefix.proofs.last.last64.Goals as goal

-- `last64` sets the bits after the first a of the upper half.
pub returns-then-a-eq0 : goal.returns-then-a-eq0
returns-then-a-eq0 c = last_none _ _ c.ranges.p.fits c.if-a-eq0.true c.requires.1

pub overflow_sub-result-2 : goal.overflow_sub-result-2
overflow_sub-result-2 c = omega (arith, last-shift c.args.a c.requires.0 c.if-a-eq0.false, pow_pos (64 - c.args.a))

pub overflow_add-result : goal.overflow_add-result
overflow_add-result c = omega (arith, last-shift c.args.a c.requires.0 c.if-a-eq0.false, last_fits c.args.p c.args.a c.requires.0 c.ranges.p.fits c.requires.1)

pub returns : goal.returns
returns c = rw (last-shift c.args.a c.requires.0 c.if-a-eq0.false) (sym (last-upper _ _ c.requires.0))
