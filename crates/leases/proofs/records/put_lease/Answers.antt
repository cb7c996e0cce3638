-- Four numbers, one after another.
use borrow.Author.Rules.{rules}
use Rattle.leases.proofs.Laws.{lease_made}
use Rattle.leases.proofs.records.put_lease.Goals as goal

pub returns : goal.returns
returns c = lease_made _ _ (search rules) _ _ _ _ c.put.ensures c.put-2.ensures c.put-3.ensures c.put-4.ensures
