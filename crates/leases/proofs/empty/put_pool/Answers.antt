-- Five numbers, one after another.
use borrow.Author.Rules.{rules}
use Rattle.leases.proofs.Laws.{pool-made}
use Rattle.leases.proofs.empty.put_pool.Goals as goal

pub returns : goal.returns
returns c = pool-made _ _ _ _ _ _ (search rules) c.put.ensures c.put-2.ensures c.put-3.ensures c.put-4.ensures c.put-5.ensures
