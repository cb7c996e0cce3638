use borrow.Author.Rules.{rules}
use Rattle.heard.proofs.Laws.{client-good, server-good}
use Rattle.heard.proofs.id_good.Goals as goal

-- By which of the two options it is.
pub returns-then-id-eq0 : goal.returns-then-id-eq0
returns-then-id-eq0 c = client-good c.args.msg.now c.args.own.now c.args.start c.args.len (search rules) c.if-id-eq0.true

pub returns : goal.returns
returns c = server-good c.args.msg.now c.args.own.now c.args.start c.args.len (search rules) c.if-id-eq0.false c.is_own.ensures
