-- The rows behind it moved down, the last one cleared, and the number of records.
use Rattle.leases.proofs.Laws.{remove-made}
use Rattle.leases.proofs.records.remove_at.Goals as goal

pub returns : goal.returns
returns c = remove-made c.args.t.now c.requires.0 _ c.requires.1 c.get-n.ensures.0 c.shift.ensures c.clear.ensures c.put.ensures
