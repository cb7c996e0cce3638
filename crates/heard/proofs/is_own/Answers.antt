use borrow.Author.Rules.{rules}
use Rattle.heard.proofs.Laws.{own-other, own_same}
use Rattle.heard.proofs.is_own.Goals as goal

-- Lists of other lengths differ; where they are the same, the whole of both is compared.
pub returns-then-len-own : goal.returns-then-len-own
returns-then-len-own c = own-other c.args.msg.now c.args.own.now c.args.start c.args.len (search rules) c.if-len-own.true

pub returns : goal.returns
returns c = own_same c.args.msg.now c.args.own.now c.args.start c.args.len (search rules) c.if-len-own.false c.same_bytes.ensures
