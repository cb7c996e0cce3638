-- One prefix at most.
use Rattle.std.proofs.Common.{arith}
use Rattle.requester.proofs.Message.{open_long, pd-made}
use Rattle.requester.proofs.writing.pd_of.Goals as goal

pub get-iaid-requires : goal.get-iaid-requires
get-iaid-requires c = (omega (arith, open_long _ c.requires), omega arith)

pub returns : goal.returns
returns c = pd-made _ c.requires c.first_of-x.ensures c.count_of.ensures c.get-iaid.ensures.0
