use Rattle.laws.specs.Writes.{wrote_nothing}
use Rattle.rules.specs.Options.{printed}
use Rattle.print.specs.Bytes.{said_bytes}
use Rattle.print.proofs.put.put_said.Goals as goal

-- The status, or nothing.
pub put_status-requires : goal.put_status-requires
unfolding said_bytes
put_status-requires c = rw c.if-says.true at c.requires

pub returns-then-says : goal.returns-then-says
unfolding said_bytes
returns-then-says c = rw c.if-says.true c.put_status.ensures

pub returns : goal.returns
unfolding said_bytes printed
returns c = rw c.if-says.false wrote_nothing
