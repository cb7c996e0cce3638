-- DUIDs of other lengths differ; where the lengths are the same, the whole of both is compared.
use Rattle.awaited.proofs.Laws.{duid-other, duid-same}
use Rattle.awaited.proofs.is_duid.Goals as goal

pub returns-then-get-o : goal.returns-then-get-o
returns-then-get-o c = duid-other c.args.t.now c.args.msg.now c.args.at _ _ c.requires.0 c.requires.1 c.get.ensures.0 c.if-get-o.true

pub returns : goal.returns
returns c = duid-same c.args.t.now c.args.msg.now c.args.at _ _ c.requires.0 c.requires.1 c.get.ensures.0 c.if-get-o.false c.same_bytes.ensures
