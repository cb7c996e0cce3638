-- `is_upper` compares the halves.
use Rattle.rules.specs.Words.{num}
use Rattle.laws.specs.Last.{upper-test}
use Rattle.prefix.proofs.last.is_upper.Goals as goal

pub returns : goal.returns
returns c = upper-test (num c.args.q) c.args.p c.high.ensures c.low.ensures
