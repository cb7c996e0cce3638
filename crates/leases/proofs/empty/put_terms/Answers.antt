-- Three numbers, the DUID, and zeros.
use borrow.Author.Rules.{rules}
use Rattle.leases.proofs.Laws.{terms-made}
use Rattle.leases.proofs.empty.put_terms.Goals as goal

pub returns : goal.returns
returns c = terms-made _ _ _ _ c.requires.0 (search rules) c.put.ensures c.put-2.ensures c.put-3.ensures c.put_filled.ensures c.clear.ensures
