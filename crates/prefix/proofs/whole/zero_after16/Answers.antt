-- `zero_after16`: after the upper half's bits and all of the lower, or in the lower.
use Rattle.std.proofs.Common.{◌∙◌}
use Rattle.laws.specs.Halves.{zero-both, zero-lower}
use Rattle.prefix.proofs.whole.zero_after16.Goals as goal

pub returns-then-m-lt64 : goal.returns-then-m-lt64
returns-then-m-lt64 c = rw c.is_aligned.ensures (zero-both _ _ _ c.low.ensures _ c.if-m-lt64.true c.high.ensures)

pub returns : goal.returns
returns c = c.is_aligned-2.ensures ∙ zero-lower _ _ _ c.low-2.ensures c.if-m-lt64.false
