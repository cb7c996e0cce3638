-- By the code.
use Rattle.std.proofs.Common.{◌∙◌, eq-eqb, ne_eqb}
use Rattle.wire.proofs.check.in_prefix.Goals as goal

pub returns-then-code-eq67 : goal.returns-then-code-eq67
returns-then-code-eq67 c = c.good_if.ensures ∙ simp (eq-eqb _ _ c.if-code-eq67.true, c.exclude_ok-ok.ensures)

pub returns : goal.returns
returns c = c.in_any.ensures ∙ simp (ne_eqb _ _ c.if-code-eq67.false)
