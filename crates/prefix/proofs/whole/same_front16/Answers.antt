-- `same_front16`: by the halves.
use Rattle.std.proofs.Common.{◌∙◌}
use Rattle.laws.specs.Halves.{halves_of}
use Rattle.prefix.proofs.whole.same_front16.Goals as goal

pub returns : goal.returns
returns c = c.same_first.ensures ∙ rw (halves_of _ _ _ c.high.ensures c.low.ensures, halves_of _ _ _ c.high-2.ensures c.low-2.ensures)
