-- By the code.
use Rattle.std.proofs.Common.{◌∙◌, eq-eqb, ne_eqb}
use Rattle.wire.proofs.check.in_any.Goals as goal

pub returns-then-code-eq13 : goal.returns-then-code-eq13
returns-then-code-eq13 c = c.good_if.ensures ∙ simp (eq-eqb _ _ c.if-code-eq13.true)

pub returns : goal.returns
returns c = simp (ne_eqb _ _ c.if-code-eq13.false)
