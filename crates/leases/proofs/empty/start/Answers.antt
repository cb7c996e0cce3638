-- Every byte is written: the last time, no record, the settings, and zeros.
use Rattle.std.proofs.Common.{refl}
use Rattle.leases.proofs.Laws.{start-made}
use Rattle.leases.proofs.empty.start.Goals as goal

pub returns : goal.returns
returns c = start-made _ c.args.p _ _ _ _ _ _ _ _ _ c.requires.0 c.requires.1 refl c.put.ensures c.put-2.ensures c.put_pool.ensures c.put_terms.ensures c.clear.ensures
