-- `same_first`: in the upper half, or that half and in the lower.
use Rattle.std.proofs.Common.{◌∙◌}
use Rattle.laws.specs.Halves.{front-upper, front-both}
use Rattle.prefix.proofs.whole.same_first.Goals as goal

pub returns-then-a-lt64 : goal.returns-then-a-lt64
returns-then-a-lt64 c = c.same_front.ensures ∙ front-upper _ _ _ _ _ c.ranges.l.fits c.ranges.m.fits c.if-a-lt64.true

pub returns : goal.returns
returns c = rw c.same_front-2.ensures (front-both _ _ _ _ _ c.ranges.l.fits c.ranges.m.fits c.if-a-lt64.false)
