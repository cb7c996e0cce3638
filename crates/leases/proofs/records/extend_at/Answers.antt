-- One write, in the record.
use Rattle.leases.proofs.Laws.{extend-made}
use Rattle.leases.proofs.records.extend_at.Goals as goal

pub returns : goal.returns
returns c = extend-made c.args.t.now c.requires.0 _ _ c.requires.1 c.put.ensures
