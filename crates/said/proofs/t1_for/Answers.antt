use Rattle.std.proofs.Common.{eq-eqb, ne_eqb}
use Rattle.rules.specs.Clock.{for_ever}
use Rattle.rules.specs.Box.{t1_for}
use Rattle.said.proofs.t1_for.Goals as goal

-- `t1_for` is what the rule says, for ever or not.
pub returns-then-preferred-eq4294967295 : goal.returns-then-preferred-eq4294967295
unfolding t1_for
returns-then-preferred-eq4294967295 c = rw (eq-eqb c.args.preferred for_ever c.if-preferred-eq4294967295.true)

pub returns : goal.returns
unfolding t1_for
returns c = rw (ne_eqb c.args.preferred for_ever c.if-preferred-eq4294967295.false)
