-- The same prefixes, and the same status or none.
use Rattle.std.proofs.Common.{refl, sym, ◌∙◌}
use Rattle.laws.specs.Tests.{false-true}
use Rattle.values.specs.Values.{ia_of}
use Rattle.print.proofs.able.trimmed.Goals as goal

pub returns-then-d : goal.returns-then-d
unfolding ia_of
returns-then-d c = record { same = rw c.few-count.ensures.1; count = c.few-count.ensures.0; status = λ h. absurd (false-true (sym h ∙ c.if-d.true)) }

pub returns-else-d : goal.returns-else-d
unfolding ia_of
returns-else-d c = record { same = rw (c.few-count.ensures.1, c.if-d.false); count = c.few-count.ensures.0; status = λ h. refl }
