use Rattle.requester.proofs.Message.{head-made}
use Rattle.requester.proofs.writing.head_of.Goals as goal

-- By the kind, and the number before the next.
pub returns : goal.returns
returns c = head-made _ c.requires c.kind_of-kind.ensures c.get-next.ensures.0 c.from.ensures c.wants_server.ensures c.ne.ensures
