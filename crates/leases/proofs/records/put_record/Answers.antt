-- The number of the bytes of the DUID, the IAID, the delegation with its end, and the DUID.
use borrow.Author.Rules.{rules}
use Rattle.leases.proofs.Laws.{record-made}
use Rattle.leases.proofs.records.put_record.Goals as goal

pub returns : goal.returns
returns c = record-made _ _ (search rules) _ _ c.args.p c.args.a c.args.end c.args.excluded c.put.ensures c.put-2.ensures c.put_lease.ensures c.put_filled.ensures
