-- The parts are those of the message that the rules name.
use Rattle.std.proofs.Common.{arith}
use Rattle.requester.proofs.Message.{open_long, server-few, put-able, put-made}
use Rattle.requester.proofs.writing.put_open.Goals as goal

pub get-requires : goal.get-requires
get-requires c = (omega (arith, open_long _ c.requires.0), omega arith)

pub get-requires-2 : goal.get-requires-2
get-requires-2 c = (omega (arith, open_long _ c.requires.0), omega arith)

pub slice_bounds-write_message-end : goal.slice_bounds-write_message-end
slice_bounds-write_message-end c = omega (arith, open_long _ c.requires.0)

pub slice_bounds-write_message-end-2 : goal.slice_bounds-write_message-end-2
slice_bounds-write_message-end-2 c = omega (arith, open_long _ c.requires.0, server-few _ c.requires.0 (λ i. (c.type_inv.t i).fits), c.get-2.ensures.0)

pub write_message-requires : goal.write_message-requires
write_message-requires c = put-able _ c.requires.0 _ c.head_of-h.ensures c.pd_of-d.ensures.0 c.get.ensures.0 c.get-2.ensures.0 c.pd_of-d.ensures.1 c.requires.1

pub returns : goal.returns
returns c = put-made _ c.requires.0 _ c.head_of-h.ensures c.pd_of-d.ensures.0 c.get.ensures.0 c.get-2.ensures.0 c.write_message.ensures
