-- `inside16`: the outer one's lower half is zero.
use Rattle.std.proofs.Common.{add-zero}
use Rattle.rules.specs.Prefix.{inside}
use Rattle.laws.specs.Halves.{halves_of}
use Rattle.prefix.proofs.whole.inside16.Goals as goal

pub returns : goal.returns
unfolding inside
returns c = rw (c.same_first.ensures, halves_of _ _ _ c.high.ensures c.low.ensures, add-zero)
