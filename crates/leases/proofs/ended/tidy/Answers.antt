-- The last time and the number of what is left, over what the dropping leaves.
use Rattle.leases.proofs.Laws.{tidy-made}
use Rattle.leases.proofs.ended.tidy.Goals as goal

pub returns : goal.returns
returns c = tidy-made c.args.t.now _ c.requires c.get-n.ensures.0 c.drop_ended-k.ensures c.put.ensures c.put-2.ensures
