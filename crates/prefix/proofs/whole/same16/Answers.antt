-- `same16`: all 128 bits.
use Rattle.std.proofs.Common.{◌∙◌}
use Rattle.rules.specs.Words.{num}
use Rattle.laws.specs.Halves.{front-whole}
use Rattle.prefix.proofs.whole.same16.Goals as goal

pub returns : goal.returns
returns c = c.same_front16.ensures ∙ front-whole (num c.args.p) (num c.args.q)
