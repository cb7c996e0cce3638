-- By how many there are, and where the first is.
use Rattle.heard.proofs.Laws.{only-found, only-other}
use Rattle.heard.proofs.only.Goals as goal

pub returns-then-count_of-ne1 : goal.returns-then-count_of-ne1
returns-then-count_of-ne1 c = only-other c.args.code c.args.msg.now c.count_of.ensures c.if-count_of-ne1.true

pub returns : goal.returns
returns c = only-found c.args.code c.args.msg.now c.count_of.ensures c.if-count_of-ne1.false c.find.ensures
