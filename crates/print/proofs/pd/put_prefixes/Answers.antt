use Rattle.std.proofs.Common.{refl, rules}
use Rattle.laws.specs.Writes.{left-all, left-turn, left-none}
use Rattle.values.specs.Values.{lease_encodes}
use Rattle.print.proofs.Laws.{rest-first, rest-room, rest-none, all-one, blank}
use Rattle.print.proofs.pd.put_prefixes.Goals as goal

pub loop-x-init : goal.loop-x-init
loop-x-init c = (refl, left-all)

pub put_prefix-end-requires : goal.put_prefix-end-requires
put_prefix-end-requires c =
    (all-one lease_encodes blank _ _ c.requires.0 c.loop-x-test.true, rest-room _ _ c.loop-x-test.true c.loop-x.invariant.1 c.requires.1 c.loop-x.invariant.0)

pub loop-x-preserved : goal.loop-x-preserved
loop-x-preserved c = (search rules, left-turn c.loop-x.invariant.1 (search rules) (rest-first _ _ c.loop-x-test.true) c.put_prefix-end.ensures)

pub shape_of-out : goal.shape_of-out
shape_of-out c = c.loop-x.invariant.0

pub returns : goal.returns
returns c = left-none c.loop-x.invariant.1 (rest-none _ _ c.loop-x-test.false)
