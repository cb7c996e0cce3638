-- The delegation in its place.
use Rattle.requester.proofs.Message.{carried-made}
use Rattle.requester.proofs.writing.carried.Goals as goal

pub returns : goal.returns
returns c = carried-made _ (λ i. (c.type_inv.t i).fits) c.requires c.bytes_at-bits.ensures c.get-length.ensures.0 c.bytes_at-out.ensures c.get-cut.ensures.0
