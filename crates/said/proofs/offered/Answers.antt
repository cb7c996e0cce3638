-- `offered`: the delegation's sixteen bytes, and those of its last /64 where that is excluded.
use Rattle.std.proofs.Common.{[]}
use Rattle.sound.specs.Setup.{setup_of}
use Rattle.values.specs.Values.{lease_of, listed_of}
use Rattle.said.proofs.Laws.{offered-whole, offered-cut}
use Rattle.said.proofs.offered.Goals as goal

pub returns-then-d : goal.returns-then-d
unfolding listed_of lease_of
returns-then-d c = offered-cut (setup_of c.args.s []) c.args.d _ c.of_upper-bits.ensures _ _ c.if-d.true c.last64.ensures c.of_upper-out.ensures

pub returns : goal.returns
unfolding listed_of lease_of
returns c = offered-whole (setup_of c.args.s []) c.args.d _ c.of_upper-bits.ensures _ c.if-d.false
