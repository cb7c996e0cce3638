use Rattle.std.proofs.Common.{sym, eq-eqb, ne_eqb}
use mathlib.Core.Bool.{or-false}
use Rattle.notes.proofs.asking.Goals as goal

-- By the option that comes.
pub returns-then-code-ne6 : goal.returns-then-code-ne6
returns-then-code-ne6 c = rw (ne_eqb c.args.code 6 c.if-code-ne6.true) (sym (or-false c.args.asks))

pub returns : goal.returns
returns c = rw (eq-eqb c.args.code 6 c.if-code-ne6.false, c.asks67.ensures)
