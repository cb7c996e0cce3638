-- A row behind the last one, and the number of records.
use Rattle.leases.proofs.Laws.{append-made}
use Rattle.leases.proofs.records.append.Goals as goal

pub returns : goal.returns
returns c = append-made c.args.t.now c.requires.0 _ _ _ c.requires.2 c.requires.1 c.get-n.ensures.0 c.put_record.ensures c.put.ensures
