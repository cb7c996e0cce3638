-- `open` writes the type, and behind it the delegation.
use Rattle.std.proofs.Common.{arith}
use Rattle.laws.specs.RouterRepresent.{type-byte}
use Rattle.laws.specs.RouterChange.{byte-written}
use Rattle.state.proofs.change.open.Goals as goal

pub returns : goal.returns
returns c = byte-written _ _ 346 _ (type-byte c.args.kind) (omega arith) (rw (c.from-2.ensures, c.from.ensures) at c.put.ensures) c.copy.ensures
