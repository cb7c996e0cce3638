-- The content of the first, which is the only one.
use Rattle.std.proofs.Common.{◌∙◌, arith, length}
use Rattle.wire.specs.Found.{nth-within}
use Rattle.wire.proofs.Laws.{client-one, client-other}
use Rattle.wire.proofs.find.client_id.Goals as goal

pub returns-then-count_of-ne1 : goal.returns-then-count_of-ne1
returns-then-count_of-ne1 c = client-other c.args.msg.now c.count_of.ensures c.if-count_of-ne1.true

pub content-requires : goal.content-requires
content-requires c = nth-within 1 0 c.args.msg.now 4 (length c.args.msg.now) _ (omega arith) c.find.ensures

pub returns : goal.returns
returns c = c.content.ensures ∙ client-one c.args.msg.now c.count_of.ensures c.if-count_of-ne1.false c.find.ensures
