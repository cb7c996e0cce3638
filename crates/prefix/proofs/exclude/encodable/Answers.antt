-- `encodable` tests what the definition tests.
use Rattle.rules.specs.Prefix.{encodable}
use Rattle.prefix.proofs.exclude.encodable.Goals as goal

pub returns : goal.returns
unfolding encodable
returns c = rw (c.same_front16.ensures, c.zero_after16.ensures)
