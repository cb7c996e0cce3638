use borrow.Author.Rules.{rules}
use Rattle.fields.proofs.Laws.{last-other, none-same}
use Rattle.fields.proofs.are_bytes.Goals as goal

-- By the last byte, or by all.
pub returns-then-n-eq0 : goal.returns-then-n-eq0
returns-then-n-eq0 c = let a = c.args in none-same a.t.now a.s.now a.at c.if-n-eq0.true

pub returns-then-t-at : goal.returns-then-t-at
returns-then-t-at c = let a = c.args in last-other a.t.now a.s.now a.at _ (search rules) c.if-t-at.true
