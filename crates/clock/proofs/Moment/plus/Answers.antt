use Rattle.std.proofs.Common.{eq-eqb, ne_eqb}
use Rattle.rules.specs.Clock.{for_ever, plus}
use Rattle.clock.proofs.Moment.plus.Goals as goal

pub returns-then-v-eq4294967295 : goal.returns-then-v-eq4294967295
unfolding plus
returns-then-v-eq4294967295 c = rw (eq-eqb _ for_ever c.if-v-eq4294967295.true)

pub returns : goal.returns
unfolding plus
returns c = rw (ne_eqb _ for_ever c.if-v-eq4294967295.false)
