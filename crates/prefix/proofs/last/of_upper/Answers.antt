-- `of_upper` writes eight bytes in front of zeros.
use Rattle.std.proofs.Common.{ap, ◌∙◌}
use Rattle.rules.specs.Words.{num}
use Rattle.laws.specs.Last.{upper-bytes}
use Rattle.prefix.proofs.last.of_upper.Goals as goal

pub returns : goal.returns
returns c = ap num c.put.ensures ∙ upper-bytes _ c.ranges.p.fits
