-- By whether its end is after now.
use Rattle.std.proofs.Common.{ap, not, arith}
use Rattle.receiving.proofs.Laws.{encodes-small, hold-none, hold-some}
use Rattle.receiving.proofs.hold_of.Goals as goal

pub returns-then-not-after : goal.returns-then-not-after
returns-then-not-after c = hold-none c.args.x _ _ c.plus-end.ensures c.after.ensures (ap not c.if-not-after.true)

pub overflow_cast-x : goal.overflow_cast-x
overflow_cast-x c = omega (arith, encodes-small c.args.x c.requires.1)

pub overflow_cast-x-2 : goal.overflow_cast-x-2
overflow_cast-x-2 c = omega (arith, encodes-small c.args.x c.requires.1)

pub returns : goal.returns
returns c = hold-some c.args.x _ _ c.plus-end.ensures c.after.ensures (ap not c.if-not-after.false) c.made.ensures
