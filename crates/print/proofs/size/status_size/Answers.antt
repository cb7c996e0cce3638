use Rattle.std.proofs.Common.{sym}
use borrow.Author.Rules.{rules}
use Rattle.rules.specs.Message.{name_of}
use Rattle.print.proofs.Alone.{status-sized, status-bare}
use Rattle.print.proofs.size.status_size.Goals as goal

-- Six bytes, and the name.
pub returns-then-k-eq0 : goal.returns-then-k-eq0
unfolding name_of
returns-then-k-eq0 c = (sym (status-sized _ 0 c.if-k-eq0.true), search rules)

pub returns-then-k-eq3 : goal.returns-then-k-eq3
unfolding name_of
returns-then-k-eq3 c = (sym (status-sized _ 3 c.if-k-eq3.true), search rules)

pub returns-then-k-eq6 : goal.returns-then-k-eq6
unfolding name_of
returns-then-k-eq6 c = (sym (status-sized _ 6 c.if-k-eq6.true), search rules)

pub returns : goal.returns
returns c = (sym (status-bare _ c.if-k-eq0.false c.if-k-eq3.false c.if-k-eq6.false), search rules)
